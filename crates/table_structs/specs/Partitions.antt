-- Partition: what its fields say, and how it is written.
use Rattle.std.specs.Prelude.{ℕ, ℤ, pos, List, [], ◌∷◌, Option, Bool, ◌||◌, Some}
use Rattle.cat_types.specs.declared.arguments.PartArg.{PartArg}
use Rattle.cat_types.specs.declared.named.NamedPart.{NamedPart}
use Rattle.ms_structs.specs.declared.got.Got.{Got}
use Rattle.ms_structs.specs.declared.got.Got.TheVariants.{Nothing}
use Rattle.ms_structs.specs.Slots.{is_bad, made_of, slot, struct_of, unless_bad, value_of, value_or}
use Rattle.ms_structs.specs.Values.{items_of, number_of, params_of, text_of}
use Rattle.ms_structs.specs.Written.{OwnField, fields_of, given, if_any, params_tree, texts_tree}
use Rattle.table_structs.specs.declared.partitions.PartitionFields.{PartitionFields}
use Rattle.table_structs.specs.Storages.{storage_of, storage_tree}
use Rattle.thrift_binary.specs.Codes.{i32_code, list_code, map_code, struct_code, text_code}
use Rattle.thrift_binary.specs.Tree.{Wire, Bytes, Number, Struct, Fields}

-- the slots before the first field: 1 values, 2 dbName, 3 tableName, 4 createTime, 5 lastAccessTime, 6 sd, 7 parameters
abbrev pub partition_none : PartitionFields
partition_none = record { values = Nothing; db = Nothing; table = Nothing; created = Nothing; accessed = Nothing; sd = Nothing; params = Nothing }

-- the slots behind one more field
abbrev pub partition_set : PartitionFields → ℕ → ℤ → Wire → PartitionFields
partition_set f ty id w = record {
  values = slot (pos 1) list_code (items_of text_code text_of) f.values ty id w;
  db = slot (pos 2) text_code text_of f.db ty id w;
  table = slot (pos 3) text_code text_of f.table ty id w;
  created = slot (pos 4) i32_code number_of f.created ty id w;
  accessed = slot (pos 5) i32_code number_of f.accessed ty id w;
  sd = slot (pos 6) struct_code storage_of f.sd ty id w;
  params = slot (pos 7) map_code params_of f.params ty id w;
}

-- whether a text in one of the slots is bad
abbrev pub partition_is_bad : PartitionFields → Bool
partition_is_bad f = is_bad f.values || (is_bad f.db || (is_bad f.table || (is_bad f.sd || is_bad f.params)))

-- absent names and an absent storage stay absent, absent numbers are 0, the absent list and the absent map are empty; nothing is handed in of statistics
abbrev pub partition_from : PartitionFields → PartArg
partition_from f = record {
  db = value_of f.db;
  table = value_of f.table;
  values = value_or [] f.values;
  rec = record {
    created = value_or (pos 0) f.created;
    accessed = value_or (pos 0) f.accessed;
    sd = value_of f.sd;
    params = value_or [] f.params;
    stats = [];
  };
}

-- what the slots make, unless a text is bad
abbrev pub partition_whole : PartitionFields → Option PartArg
partition_whole f = unless_bad (partition_is_bad f) (partition_from f)

-- the partition that these fields make; None: a text that counts isn't UTF-8
abbrev pub partition_made : Fields → Option PartArg
partition_made = made_of partition_whole partition_set partition_none

-- the partition that a struct says
unfoldable pub partition_of : Wire → Got PartArg
partition_of = struct_of partition_whole partition_set partition_none

-- the fields that a partition is written as
abbrev pub partition_written : NamedPart → List OwnField
partition_written part =
    given (pos 1) list_code texts_tree part.values ∷
    given (pos 2) text_code Bytes part.db ∷
    given (pos 3) text_code Bytes part.table ∷
    given (pos 4) i32_code Number part.rec.created ∷
    given (pos 5) i32_code Number part.rec.accessed ∷
    if_any (pos 6) struct_code storage_tree part.rec.sd ∷
    given (pos 7) map_code params_tree part.rec.params ∷ []

-- the struct that a partition is written as
unfoldable pub partition_tree : NamedPart → Wire
partition_tree part = Struct (fields_of (partition_written part))

-- a partition as whoever reads it would hand it in: without statistics
abbrev pub handed_in_partition : NamedPart → PartArg
handed_in_partition part = record { db = Some part.db; table = Some part.table; values = part.values; rec = record part.rec { stats = [] } }
