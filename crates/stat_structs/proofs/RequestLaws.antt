-- Requests for statistics: the order of fields is free.
use Rattle.std.proofs.Common.{◌≡◌, pos, refl, sym, ap, ◌∙◌}
use Rattle.thrift_binary.specs.Codes.{list_code, text_code}
use Rattle.thrift_binary.specs.Tree.{Fields}
use Rattle.ms_structs.specs.Laws.{OrderIsFree}
use Rattle.ms_structs.specs.Slots.{said, said_or_bad}
use Rattle.ms_structs.specs.Values.{items_of, text_of}
use Rattle.ms_structs.proofs.Said.{said_same, slot_is}
use Rattle.stat_structs.specs.declared.requests.StatsRequestFields.{StatsRequestFields}
use Rattle.stat_structs.specs.Requests.{request_made, request_none, request_of, request_set, request_whole}

-- what fields make, by what they say under each id
request_by : (v : Fields) (f : StatsRequestFields)
    → said (pos 1) text_code text_of v ≡ f.db
    → said (pos 2) text_code text_of v ≡ f.table
    → said (pos 3) list_code (items_of text_code text_of) v ≡ f.cols
    → request_made v ≡ request_whole f
request_by v f db table cols =
    let db = slot_is request_set request_none v (λ g. g.db) (pos 1) text_code text_of (λ g ty id w. refl) refl db in
    let table = slot_is request_set request_none v (λ g. g.table) (pos 2) text_code text_of (λ g ty id w. refl) refl table in
    let cols = slot_is request_set request_none v (λ g. g.cols) (pos 3) list_code (items_of text_code text_of) (λ g ty id w. refl) refl cols in
    λ i. request_whole (record { db = db i; table = table i; cols = cols i })

abbrev said_slots : Fields → StatsRequestFields
said_slots v = record {
  db = said (pos 1) text_code text_of v;
  table = said (pos 2) text_code text_of v;
  cols = said (pos 3) list_code (items_of text_code text_of) v;
}

pub request_order : OrderIsFree request_of
unfolding request_of
request_order v v' same = ap said_or_bad (
    request_by v (said_slots v')
    (said_same (pos 1) text_code text_of v v' same)
    (said_same (pos 2) text_code text_of v v' same)
    (said_same (pos 3) list_code (items_of text_code text_of) v v' same)
    ∙ sym (request_by v' (said_slots v') refl refl refl)
    )
