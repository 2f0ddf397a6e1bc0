-- Contexts: the order of fields is free, and what is written reads back.
use Rattle.std.proofs.Common.{◌≡◌, pos, refl, sym, ap, ◌∙◌}
use Rattle.thrift_binary.specs.Codes.{map_code}
use Rattle.thrift_binary.specs.Tree.{Fields}
use Rattle.ms_structs.specs.Laws.{OrderIsFree}
use Rattle.ms_structs.specs.Slots.{said, said_or_bad}
use Rattle.ms_structs.specs.Values.{params_of}
use Rattle.ms_structs.proofs.Said.{said_same, slot_is}
use Rattle.table_structs.specs.declared.contexts.ContextFields.{ContextFields}
use Rattle.table_structs.specs.Contexts.{context_made, context_none, context_of, context_set, context_whole}

-- what fields make, by what they say under each id
context_by : (v : Fields) (f : ContextFields)
    → said (pos 1) map_code params_of v ≡ f.properties
    → context_made v ≡ context_whole f
context_by v f properties =
    let properties = slot_is context_set context_none v (λ g. g.properties) (pos 1) map_code params_of (λ g ty id w. refl) refl properties in
    λ i. context_whole (record { properties = properties i })

abbrev said_slots : Fields → ContextFields
said_slots v = record {
  properties = said (pos 1) map_code params_of v;
}

pub context_order : OrderIsFree context_of
unfolding context_of
context_order v v' same = ap said_or_bad (
    context_by v (said_slots v')
    (said_same (pos 1) map_code params_of v v' same)
    ∙ sym (context_by v' (said_slots v') refl)
    )
