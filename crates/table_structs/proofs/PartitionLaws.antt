-- Partitions: the order of fields is free, and what is written reads back.
use Rattle.std.proofs.Common.{◌≡◌, ◌||◌, false, pos, [], Some, refl, sym, ap, ◌∙◌}
use Rattle.std.proofs.lemmas.Option.{IfSome_then}
use Rattle.cat_types.specs.declared.named.NamedPart.{NamedPart}
use Rattle.thrift_binary.specs.Codes.{i32_code, list_code, map_code, struct_code, text_code}
use Rattle.thrift_binary.specs.Tree.{Fields}
use Rattle.ms_structs.specs.declared.got.Got.TheVariants.{Is}
use Rattle.ms_structs.specs.Laws.{OrderIsFree}
use Rattle.ms_structs.specs.Slots.{said, said_or_bad, unless_bad}
use Rattle.ms_structs.specs.Values.{items_of, number_of, params_of, text_of}
use Rattle.ms_structs.specs.Written.{fields_of}
use Rattle.ms_structs.proofs.OwnFields.{maybe, maybe_is_good, maybe_value, said_told, says_maybe}
use Rattle.ms_structs.proofs.ReadBack.{params_read, text_read, texts_read}
use Rattle.ms_structs.proofs.Said.{said_same, slot_is}
use Rattle.table_structs.specs.declared.partitions.PartitionFields.{PartitionFields}
use Rattle.table_structs.specs.Partitions.{handed_in_partition, partition_made, partition_none, partition_of, partition_set, partition_tree, partition_whole, partition_written}
use Rattle.table_structs.specs.Storages.{storage_of, storage_tree}
use Rattle.table_structs.specs.Kept.{IsKeptPartition, IsKeptStorage}
use Rattle.table_structs.specs.Laws.{PartitionsReadBack}
use Rattle.table_structs.proofs.StorageLaws.{storages_read_back}

-- what fields make, by what they say under each id
partition_by : (v : Fields) (f : PartitionFields)
    → said (pos 1) list_code (items_of text_code text_of) v ≡ f.values
    → said (pos 2) text_code text_of v ≡ f.db
    → said (pos 3) text_code text_of v ≡ f.table
    → said (pos 4) i32_code number_of v ≡ f.created
    → said (pos 5) i32_code number_of v ≡ f.accessed
    → said (pos 6) struct_code storage_of v ≡ f.sd
    → said (pos 7) map_code params_of v ≡ f.params
    → partition_made v ≡ partition_whole f
partition_by v f values db table created accessed sd params =
    let values = slot_is partition_set partition_none v (λ g. g.values) (pos 1) list_code (items_of text_code text_of) (λ g ty id w. refl) refl values in
    let db = slot_is partition_set partition_none v (λ g. g.db) (pos 2) text_code text_of (λ g ty id w. refl) refl db in
    let table = slot_is partition_set partition_none v (λ g. g.table) (pos 3) text_code text_of (λ g ty id w. refl) refl table in
    let created = slot_is partition_set partition_none v (λ g. g.created) (pos 4) i32_code number_of (λ g ty id w. refl) refl created in
    let accessed = slot_is partition_set partition_none v (λ g. g.accessed) (pos 5) i32_code number_of (λ g ty id w. refl) refl accessed in
    let sd = slot_is partition_set partition_none v (λ g. g.sd) (pos 6) struct_code storage_of (λ g ty id w. refl) refl sd in
    let params = slot_is partition_set partition_none v (λ g. g.params) (pos 7) map_code params_of (λ g ty id w. refl) refl params in
    λ i. partition_whole (record { values = values i; db = db i; table = table i; created = created i; accessed = accessed i; sd = sd i; params = params i })

abbrev said_slots : Fields → PartitionFields
said_slots v = record {
  values = said (pos 1) list_code (items_of text_code text_of) v;
  db = said (pos 2) text_code text_of v;
  table = said (pos 3) text_code text_of v;
  created = said (pos 4) i32_code number_of v;
  accessed = said (pos 5) i32_code number_of v;
  sd = said (pos 6) struct_code storage_of v;
  params = said (pos 7) map_code params_of v;
}

pub partition_order : OrderIsFree partition_of
unfolding partition_of
partition_order v v' same = ap said_or_bad (
    partition_by v (said_slots v')
    (said_same (pos 1) list_code (items_of text_code text_of) v v' same)
    (said_same (pos 2) text_code text_of v v' same)
    (said_same (pos 3) text_code text_of v v' same)
    (said_same (pos 4) i32_code number_of v v' same)
    (said_same (pos 5) i32_code number_of v v' same)
    (said_same (pos 6) struct_code storage_of v v' same)
    (said_same (pos 7) map_code params_of v v' same)
    ∙ sym (partition_by v' (said_slots v') refl refl refl refl refl refl refl)
    )

-- the slots behind a partition's own fields
abbrev own_slots : NamedPart → PartitionFields
own_slots part = record { values = Is part.values; db = Is part.db; table = Is part.table; created = Is part.rec.created; accessed = Is part.rec.accessed; sd = maybe part.rec.sd; params = Is part.rec.params }

own_said : (part : NamedPart) → IsKeptPartition part → partition_made (fields_of (partition_written part)) ≡ partition_whole (own_slots part)
own_said part kept =
    let own = partition_written part in
    partition_by (fields_of own) (own_slots part)
    (said_told (pos 1) list_code (items_of text_code text_of) own refl ∙ texts_read part.values kept.values)
    (said_told (pos 2) text_code text_of own refl ∙ text_read part.db kept.db)
    (said_told (pos 3) text_code text_of own refl ∙ text_read part.table kept.table)
    (said_told (pos 4) i32_code number_of own refl)
    (said_told (pos 5) i32_code number_of own refl)
    (said_told (pos 6) struct_code storage_of own refl ∙ says_maybe struct_code storage_of storage_tree part.rec.sd (IfSome_then part.rec.sd {P = IsKeptStorage} {Q = λ x. storage_of (storage_tree x) ≡ Is x} kept.sd storages_read_back))
    (said_told (pos 7) map_code params_of own refl ∙ params_read part.rec.params kept.params.0 kept.params.1)

own_whole : (part : NamedPart) → partition_whole (own_slots part) ≡ Some (handed_in_partition part)
own_whole part = λ i. unless_bad (false || (false || (false || (maybe_is_good part.rec.sd i || false)))) (record {
  db = Some part.db;
  table = Some part.table;
  values = part.values;
  rec = record part.rec { sd = maybe_value part.rec.sd i; stats = [] };
})

pub partitions_read_back : PartitionsReadBack
unfolding partition_of partition_tree
partitions_read_back part kept = ap said_or_bad (own_said part kept ∙ own_whole part)
