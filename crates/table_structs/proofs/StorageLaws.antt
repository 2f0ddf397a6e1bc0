-- How rows are stored: the order of fields is free, and what is written reads back.
use Rattle.std.proofs.Common.{◌≡◌, ◌||◌, false, pos, Some, refl, sym, ap, ◌∙◌}
use Rattle.std.proofs.lemmas.Option.{IfSome_then}
use Rattle.table_structs.specs.Columns.{column_of, column_tree}
use Rattle.table_structs.specs.Orders.{order_of, order_tree}
use Rattle.table_structs.specs.Serdes.{serde_of, serde_tree}
use Rattle.table_structs.specs.Skews.{skew_of, skew_tree}
use Rattle.table_structs.proofs.ColumnLaws.{columns_read_back}
use Rattle.table_structs.proofs.OrderLaws.{orders_read_back}
use Rattle.table_structs.proofs.SerdeLaws.{serdes_read_back}
use Rattle.table_structs.proofs.SkewLaws.{skews_read_back}
use Rattle.cat_values.specs.declared.storage.Storage.{Storage}
use Rattle.thrift_binary.specs.Codes.{bool_code, i32_code, list_code, map_code, struct_code, text_code}
use Rattle.thrift_binary.specs.Tree.{Bytes, Fields, Flag}
use Rattle.ms_structs.specs.declared.got.Got.TheVariants.{Is}
use Rattle.ms_structs.specs.Laws.{OrderIsFree}
use Rattle.ms_structs.specs.Slots.{said, said_or_bad, unless_bad}
use Rattle.ms_structs.specs.Values.{flag_of, items_of, number_of, params_of, text_of}
use Rattle.ms_structs.specs.Written.{fields_of}
use Rattle.ms_structs.proofs.OwnFields.{maybe, maybe_is_good, maybe_value, said_told, says_maybe}
use Rattle.ms_structs.proofs.ReadBack.{items_read, maybe_flag_read, maybe_text_read, params_read, texts_read}
use Rattle.ms_structs.proofs.Said.{said_same, slot_is}
use Rattle.table_structs.specs.declared.storages.StorageFields.{StorageFields}
use Rattle.table_structs.specs.Storages.{storage_made, storage_none, storage_of, storage_set, storage_tree, storage_whole, storage_written}
use Rattle.table_structs.specs.Kept.{IsKeptColumn, IsKeptOrder, IsKeptSerde, IsKeptSkew, IsKeptStorage}
use Rattle.table_structs.specs.Laws.{ReadsBack}

-- what fields make, by what they say under each id
storage_by : (v : Fields) (f : StorageFields)
    → said (pos 1) list_code (items_of struct_code column_of) v ≡ f.cols
    → said (pos 2) text_code text_of v ≡ f.location
    → said (pos 3) text_code text_of v ≡ f.input
    → said (pos 4) text_code text_of v ≡ f.output
    → said (pos 5) bool_code flag_of v ≡ f.compressed
    → said (pos 6) i32_code number_of v ≡ f.buckets
    → said (pos 7) struct_code serde_of v ≡ f.serde
    → said (pos 8) list_code (items_of text_code text_of) v ≡ f.bucket_cols
    → said (pos 9) list_code (items_of struct_code order_of) v ≡ f.sort_cols
    → said (pos 10) map_code params_of v ≡ f.params
    → said (pos 11) struct_code skew_of v ≡ f.skew
    → said (pos 12) bool_code flag_of v ≡ f.sub_dirs
    → storage_made v ≡ storage_whole f
storage_by v f cols location input output compressed buckets serde bucket_cols sort_cols params skew sub_dirs =
    let cols = slot_is storage_set storage_none v (λ g. g.cols) (pos 1) list_code (items_of struct_code column_of) (λ g ty id w. refl) refl cols in
    let location = slot_is storage_set storage_none v (λ g. g.location) (pos 2) text_code text_of (λ g ty id w. refl) refl location in
    let input = slot_is storage_set storage_none v (λ g. g.input) (pos 3) text_code text_of (λ g ty id w. refl) refl input in
    let output = slot_is storage_set storage_none v (λ g. g.output) (pos 4) text_code text_of (λ g ty id w. refl) refl output in
    let compressed = slot_is storage_set storage_none v (λ g. g.compressed) (pos 5) bool_code flag_of (λ g ty id w. refl) refl compressed in
    let buckets = slot_is storage_set storage_none v (λ g. g.buckets) (pos 6) i32_code number_of (λ g ty id w. refl) refl buckets in
    let serde = slot_is storage_set storage_none v (λ g. g.serde) (pos 7) struct_code serde_of (λ g ty id w. refl) refl serde in
    let bucket_cols = slot_is storage_set storage_none v (λ g. g.bucket_cols) (pos 8) list_code (items_of text_code text_of) (λ g ty id w. refl) refl bucket_cols in
    let sort_cols = slot_is storage_set storage_none v (λ g. g.sort_cols) (pos 9) list_code (items_of struct_code order_of) (λ g ty id w. refl) refl sort_cols in
    let params = slot_is storage_set storage_none v (λ g. g.params) (pos 10) map_code params_of (λ g ty id w. refl) refl params in
    let skew = slot_is storage_set storage_none v (λ g. g.skew) (pos 11) struct_code skew_of (λ g ty id w. refl) refl skew in
    let sub_dirs = slot_is storage_set storage_none v (λ g. g.sub_dirs) (pos 12) bool_code flag_of (λ g ty id w. refl) refl sub_dirs in
    λ i. storage_whole (record { cols = cols i; location = location i; input = input i; output = output i; compressed = compressed i; buckets = buckets i; serde = serde i; bucket_cols = bucket_cols i; sort_cols = sort_cols i; params = params i; skew = skew i; sub_dirs = sub_dirs i })

abbrev said_slots : Fields → StorageFields
said_slots v = record {
  cols = said (pos 1) list_code (items_of struct_code column_of) v;
  location = said (pos 2) text_code text_of v;
  input = said (pos 3) text_code text_of v;
  output = said (pos 4) text_code text_of v;
  compressed = said (pos 5) bool_code flag_of v;
  buckets = said (pos 6) i32_code number_of v;
  serde = said (pos 7) struct_code serde_of v;
  bucket_cols = said (pos 8) list_code (items_of text_code text_of) v;
  sort_cols = said (pos 9) list_code (items_of struct_code order_of) v;
  params = said (pos 10) map_code params_of v;
  skew = said (pos 11) struct_code skew_of v;
  sub_dirs = said (pos 12) bool_code flag_of v;
}

pub storage_order : OrderIsFree storage_of
unfolding storage_of
storage_order v v' same = ap said_or_bad (
    storage_by v (said_slots v')
    (said_same (pos 1) list_code (items_of struct_code column_of) v v' same)
    (said_same (pos 2) text_code text_of v v' same)
    (said_same (pos 3) text_code text_of v v' same)
    (said_same (pos 4) text_code text_of v v' same)
    (said_same (pos 5) bool_code flag_of v v' same)
    (said_same (pos 6) i32_code number_of v v' same)
    (said_same (pos 7) struct_code serde_of v v' same)
    (said_same (pos 8) list_code (items_of text_code text_of) v v' same)
    (said_same (pos 9) list_code (items_of struct_code order_of) v v' same)
    (said_same (pos 10) map_code params_of v v' same)
    (said_same (pos 11) struct_code skew_of v v' same)
    (said_same (pos 12) bool_code flag_of v v' same)
    ∙ sym (storage_by v' (said_slots v') refl refl refl refl refl refl refl refl refl refl refl refl)
    )

-- the slots behind a storage's own fields
abbrev own_slots : Storage → StorageFields
own_slots storage = record { cols = Is storage.cols; location = maybe storage.location; input = maybe storage.input; output = maybe storage.output; compressed = Is storage.compressed; buckets = Is storage.buckets; serde = maybe storage.serde; bucket_cols = Is storage.bucket_cols; sort_cols = Is storage.sort_cols; params = Is storage.params; skew = maybe storage.skew; sub_dirs = maybe storage.sub_dirs }

own_said : (storage : Storage) → IsKeptStorage storage → storage_made (fields_of (storage_written storage)) ≡ storage_whole (own_slots storage)
own_said storage kept =
    let own = storage_written storage in
    storage_by (fields_of own) (own_slots storage)
    (said_told (pos 1) list_code (items_of struct_code column_of) own refl ∙ items_read struct_code column_of column_tree IsKeptColumn columns_read_back storage.cols kept.cols)
    (said_told (pos 2) text_code text_of own refl ∙ says_maybe text_code text_of Bytes storage.location (maybe_text_read storage.location kept.location))
    (said_told (pos 3) text_code text_of own refl ∙ says_maybe text_code text_of Bytes storage.input (maybe_text_read storage.input kept.input))
    (said_told (pos 4) text_code text_of own refl ∙ says_maybe text_code text_of Bytes storage.output (maybe_text_read storage.output kept.output))
    (said_told (pos 5) bool_code flag_of own refl)
    (said_told (pos 6) i32_code number_of own refl)
    (said_told (pos 7) struct_code serde_of own refl ∙ says_maybe struct_code serde_of serde_tree storage.serde (IfSome_then storage.serde {P = IsKeptSerde} {Q = λ x. serde_of (serde_tree x) ≡ Is x} kept.serde serdes_read_back))
    (said_told (pos 8) list_code (items_of text_code text_of) own refl ∙ texts_read storage.bucket_cols kept.bucket_cols)
    (said_told (pos 9) list_code (items_of struct_code order_of) own refl ∙ items_read struct_code order_of order_tree IsKeptOrder orders_read_back storage.sort_cols kept.sort_cols)
    (said_told (pos 10) map_code params_of own refl ∙ params_read storage.params kept.params.0 kept.params.1)
    (said_told (pos 11) struct_code skew_of own refl ∙ says_maybe struct_code skew_of skew_tree storage.skew (IfSome_then storage.skew {P = IsKeptSkew} {Q = λ x. skew_of (skew_tree x) ≡ Is x} kept.skew skews_read_back))
    (said_told (pos 12) bool_code flag_of own refl ∙ says_maybe bool_code flag_of Flag storage.sub_dirs (maybe_flag_read storage.sub_dirs))

own_whole : (storage : Storage) → storage_whole (own_slots storage) ≡ Some storage
own_whole storage = λ i. unless_bad (false || (maybe_is_good storage.location i || (maybe_is_good storage.input i || (maybe_is_good storage.output i || (maybe_is_good storage.serde i || (false || (false || (false || maybe_is_good storage.skew i)))))))) (record storage { location = maybe_value storage.location i; input = maybe_value storage.input i; output = maybe_value storage.output i; serde = maybe_value storage.serde i; skew = maybe_value storage.skew i; sub_dirs = maybe_value storage.sub_dirs i })

pub storages_read_back : ReadsBack IsKeptStorage storage_of storage_tree
unfolding storage_of storage_tree
storages_read_back storage kept = ap said_or_bad (own_said storage kept ∙ own_whole storage)
