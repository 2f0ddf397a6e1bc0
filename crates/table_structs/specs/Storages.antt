-- StorageDescriptor: what its fields say, and how it is written.
use Rattle.std.specs.Prelude.{ℕ, ℤ, pos, List, [], ◌∷◌, Option, Bool, false, ◌||◌}
use Rattle.table_structs.specs.Columns.{column_of, column_tree}
use Rattle.table_structs.specs.Orders.{order_of, order_tree}
use Rattle.table_structs.specs.Serdes.{serde_of, serde_tree}
use Rattle.table_structs.specs.Skews.{skew_of, skew_tree}
use Rattle.cat_values.specs.declared.storage.Storage.{Storage}
use Rattle.ms_structs.specs.declared.got.Got.{Got}
use Rattle.ms_structs.specs.declared.got.Got.TheVariants.{Nothing}
use Rattle.ms_structs.specs.Slots.{is_bad, made_of, slot, struct_of, unless_bad, value_of, value_or}
use Rattle.ms_structs.specs.Values.{flag_of, items_of, number_of, params_of, text_of}
use Rattle.ms_structs.specs.Written.{OwnField, fields_of, given, if_any, items_tree, params_tree, texts_tree}
use Rattle.table_structs.specs.declared.storages.StorageFields.{StorageFields}
use Rattle.thrift_binary.specs.Codes.{bool_code, i32_code, list_code, map_code, struct_code, text_code}
use Rattle.thrift_binary.specs.Tree.{Wire, Bytes, Flag, Number, Struct, Fields}

-- the slots before the first field: 1 cols, 2 location, 3 inputFormat, 4 outputFormat, 5 compressed, 6 numBuckets, 7 serdeInfo, 8 bucketCols, 9 sortCols, 10 parameters, 11 skewedInfo, 12 storedAsSubDirectories
abbrev pub storage_none : StorageFields
storage_none = record { cols = Nothing; location = Nothing; input = Nothing; output = Nothing; compressed = Nothing; buckets = Nothing; serde = Nothing; bucket_cols = Nothing; sort_cols = Nothing; params = Nothing; skew = Nothing; sub_dirs = Nothing }

-- the slots behind one more field
abbrev pub storage_set : StorageFields → ℕ → ℤ → Wire → StorageFields
storage_set f ty id w = record {
  cols = slot (pos 1) list_code (items_of struct_code column_of) f.cols ty id w;
  location = slot (pos 2) text_code text_of f.location ty id w;
  input = slot (pos 3) text_code text_of f.input ty id w;
  output = slot (pos 4) text_code text_of f.output ty id w;
  compressed = slot (pos 5) bool_code flag_of f.compressed ty id w;
  buckets = slot (pos 6) i32_code number_of f.buckets ty id w;
  serde = slot (pos 7) struct_code serde_of f.serde ty id w;
  bucket_cols = slot (pos 8) list_code (items_of text_code text_of) f.bucket_cols ty id w;
  sort_cols = slot (pos 9) list_code (items_of struct_code order_of) f.sort_cols ty id w;
  params = slot (pos 10) map_code params_of f.params ty id w;
  skew = slot (pos 11) struct_code skew_of f.skew ty id w;
  sub_dirs = slot (pos 12) bool_code flag_of f.sub_dirs ty id w;
}

-- whether a text in one of the slots is bad
abbrev pub storage_is_bad : StorageFields → Bool
storage_is_bad f = is_bad f.cols || (is_bad f.location || (is_bad f.input || (is_bad f.output || (is_bad f.serde || (is_bad f.bucket_cols || (is_bad f.sort_cols || (is_bad f.params || is_bad f.skew)))))))

-- absent texts and structs and the absent last flag stay absent; the other flag is false, the number 0, and lists and maps are empty
abbrev pub storage_from : StorageFields → Storage
storage_from f = record {
  cols = value_or [] f.cols;
  location = value_of f.location;
  input = value_of f.input;
  output = value_of f.output;
  compressed = value_or false f.compressed;
  buckets = value_or (pos 0) f.buckets;
  serde = value_of f.serde;
  bucket_cols = value_or [] f.bucket_cols;
  sort_cols = value_or [] f.sort_cols;
  params = value_or [] f.params;
  skew = value_of f.skew;
  sub_dirs = value_of f.sub_dirs;
}

-- what the slots make, unless a text is bad
abbrev pub storage_whole : StorageFields → Option Storage
storage_whole f = unless_bad (storage_is_bad f) (storage_from f)

-- the storage that these fields make; None: a text that counts isn't UTF-8
abbrev pub storage_made : Fields → Option Storage
storage_made = made_of storage_whole storage_set storage_none

-- the storage that a struct says
unfoldable pub storage_of : Wire → Got Storage
storage_of = struct_of storage_whole storage_set storage_none

-- the fields that a storage is written as
abbrev pub storage_written : Storage → List OwnField
storage_written storage =
    given (pos 1) list_code (items_tree struct_code column_tree) storage.cols ∷
    if_any (pos 2) text_code Bytes storage.location ∷
    if_any (pos 3) text_code Bytes storage.input ∷
    if_any (pos 4) text_code Bytes storage.output ∷
    given (pos 5) bool_code Flag storage.compressed ∷
    given (pos 6) i32_code Number storage.buckets ∷
    if_any (pos 7) struct_code serde_tree storage.serde ∷
    given (pos 8) list_code texts_tree storage.bucket_cols ∷
    given (pos 9) list_code (items_tree struct_code order_tree) storage.sort_cols ∷
    given (pos 10) map_code params_tree storage.params ∷
    if_any (pos 11) struct_code skew_tree storage.skew ∷
    if_any (pos 12) bool_code Flag storage.sub_dirs ∷ []

-- the struct that a storage is written as
unfoldable pub storage_tree : Storage → Wire
storage_tree storage = Struct (fields_of (storage_written storage))
