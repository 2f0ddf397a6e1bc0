-- Requests that add partitions: the order of fields is free.
use Rattle.std.proofs.Common.{◌≡◌, pos, refl, sym, ap, ◌∙◌}
use Rattle.thrift_binary.specs.Codes.{bool_code, list_code, struct_code, text_code}
use Rattle.thrift_binary.specs.Tree.{Fields}
use Rattle.ms_structs.specs.Laws.{OrderIsFree}
use Rattle.ms_structs.specs.Slots.{said, said_or_bad}
use Rattle.ms_structs.specs.Values.{flag_of, items_of, text_of}
use Rattle.ms_structs.proofs.Said.{said_same, slot_is}
use Rattle.table_structs.specs.declared.part_requests.AddPartitionsFields.{AddPartitionsFields}
use Rattle.table_structs.specs.Partitions.{partition_of}
use Rattle.table_structs.specs.PartRequests.{adding_made, adding_none, adding_of, adding_set, adding_whole}

-- what fields make, by what they say under each id
adding_by : (v : Fields) (f : AddPartitionsFields)
    → said (pos 1) text_code text_of v ≡ f.db
    → said (pos 2) text_code text_of v ≡ f.table
    → said (pos 3) list_code (items_of struct_code partition_of) v ≡ f.parts
    → said (pos 4) bool_code flag_of v ≡ f.if_not_exists
    → said (pos 5) bool_code flag_of v ≡ f.need_result
    → adding_made v ≡ adding_whole f
adding_by v f db table parts if_not_exists need_result =
    let db = slot_is adding_set adding_none v (λ g. g.db) (pos 1) text_code text_of (λ g ty id w. refl) refl db in
    let table = slot_is adding_set adding_none v (λ g. g.table) (pos 2) text_code text_of (λ g ty id w. refl) refl table in
    let parts = slot_is adding_set adding_none v (λ g. g.parts) (pos 3) list_code (items_of struct_code partition_of) (λ g ty id w. refl) refl parts in
    let if_not_exists = slot_is adding_set adding_none v (λ g. g.if_not_exists) (pos 4) bool_code flag_of (λ g ty id w. refl) refl if_not_exists in
    let need_result = slot_is adding_set adding_none v (λ g. g.need_result) (pos 5) bool_code flag_of (λ g ty id w. refl) refl need_result in
    λ i. adding_whole (record { db = db i; table = table i; parts = parts i; if_not_exists = if_not_exists i; need_result = need_result i })

abbrev said_slots : Fields → AddPartitionsFields
said_slots v = record {
  db = said (pos 1) text_code text_of v;
  table = said (pos 2) text_code text_of v;
  parts = said (pos 3) list_code (items_of struct_code partition_of) v;
  if_not_exists = said (pos 4) bool_code flag_of v;
  need_result = said (pos 5) bool_code flag_of v;
}

pub adding_order : OrderIsFree adding_of
unfolding adding_of
adding_order v v' same = ap said_or_bad (
    adding_by v (said_slots v')
    (said_same (pos 1) text_code text_of v v' same)
    (said_same (pos 2) text_code text_of v v' same)
    (said_same (pos 3) list_code (items_of struct_code partition_of) v v' same)
    (said_same (pos 4) bool_code flag_of v v' same)
    (said_same (pos 5) bool_code flag_of v v' same)
    ∙ sym (adding_by v' (said_slots v') refl refl refl refl refl)
    )
