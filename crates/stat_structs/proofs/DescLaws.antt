-- Of what statistics are: the order of fields is free, and what is written reads back.
use Rattle.std.proofs.Common.{◌≡◌, ◌||◌, pos, Some, refl, sym, ap, ◌∙◌}
use Rattle.cat_types.specs.declared.arguments.StatsDesc.{StatsDesc}
use Rattle.thrift_binary.specs.Codes.{bool_code, i64_code, text_code}
use Rattle.thrift_binary.specs.Tree.{Bytes, Fields, Number}
use Rattle.ms_structs.specs.declared.got.Got.TheVariants.{Is}
use Rattle.ms_structs.specs.Laws.{OrderIsFree}
use Rattle.ms_structs.specs.Slots.{said, said_or_bad, unless_bad}
use Rattle.ms_structs.specs.Values.{flag_of, number_of, text_of}
use Rattle.ms_structs.specs.Written.{fields_of}
use Rattle.ms_structs.proofs.OwnFields.{maybe, maybe_is_good, maybe_value, said_told, says_maybe}
use Rattle.ms_structs.proofs.ReadBack.{maybe_text_read}
use Rattle.ms_structs.proofs.Said.{said_same, slot_is}
use Rattle.stat_structs.specs.declared.descs.DescFields.{DescFields}
use Rattle.stat_structs.specs.Descs.{desc_made, desc_none, desc_of, desc_set, desc_tree, desc_whole, desc_written}
use Rattle.stat_structs.specs.Kept.{IsKeptDesc}
use Rattle.stat_structs.specs.Laws.{ReadsBack}
use Rattle.stat_structs.proofs.LongLaws.{maybe_number_read}

-- what fields make, by what they say under each id
desc_by : (v : Fields) (f : DescFields)
    → said (pos 1) bool_code flag_of v ≡ f.table_level
    → said (pos 2) text_code text_of v ≡ f.db
    → said (pos 3) text_code text_of v ≡ f.table
    → said (pos 4) text_code text_of v ≡ f.part
    → said (pos 5) i64_code number_of v ≡ f.analyzed
    → desc_made v ≡ desc_whole f
desc_by v f table_level db table part analyzed =
    let table_level = slot_is desc_set desc_none v (λ g. g.table_level) (pos 1) bool_code flag_of (λ g ty id w. refl) refl table_level in
    let db = slot_is desc_set desc_none v (λ g. g.db) (pos 2) text_code text_of (λ g ty id w. refl) refl db in
    let table = slot_is desc_set desc_none v (λ g. g.table) (pos 3) text_code text_of (λ g ty id w. refl) refl table in
    let part = slot_is desc_set desc_none v (λ g. g.part) (pos 4) text_code text_of (λ g ty id w. refl) refl part in
    let analyzed = slot_is desc_set desc_none v (λ g. g.analyzed) (pos 5) i64_code number_of (λ g ty id w. refl) refl analyzed in
    λ i. desc_whole (record { table_level = table_level i; db = db i; table = table i; part = part i; analyzed = analyzed i })

abbrev said_slots : Fields → DescFields
said_slots v = record {
  table_level = said (pos 1) bool_code flag_of v;
  db = said (pos 2) text_code text_of v;
  table = said (pos 3) text_code text_of v;
  part = said (pos 4) text_code text_of v;
  analyzed = said (pos 5) i64_code number_of v;
}

pub desc_order : OrderIsFree desc_of
unfolding desc_of
desc_order v v' same = ap said_or_bad (
    desc_by v (said_slots v')
    (said_same (pos 1) bool_code flag_of v v' same)
    (said_same (pos 2) text_code text_of v v' same)
    (said_same (pos 3) text_code text_of v v' same)
    (said_same (pos 4) text_code text_of v v' same)
    (said_same (pos 5) i64_code number_of v v' same)
    ∙ sym (desc_by v' (said_slots v') refl refl refl refl refl)
    )

-- the slots behind the own fields
abbrev own_slots : StatsDesc → DescFields
own_slots desc = record { table_level = Is desc.table_level; db = maybe desc.db; table = maybe desc.table; part = maybe desc.part; analyzed = maybe desc.analyzed }

own_said : (desc : StatsDesc) → IsKeptDesc desc → desc_made (fields_of (desc_written desc)) ≡ desc_whole (own_slots desc)
own_said desc kept =
    let own = desc_written desc in
    desc_by (fields_of own) (own_slots desc)
    (said_told (pos 1) bool_code flag_of own refl)
    (said_told (pos 2) text_code text_of own refl ∙ says_maybe text_code text_of Bytes desc.db (maybe_text_read desc.db kept.db))
    (said_told (pos 3) text_code text_of own refl ∙ says_maybe text_code text_of Bytes desc.table (maybe_text_read desc.table kept.table))
    (said_told (pos 4) text_code text_of own refl ∙ says_maybe text_code text_of Bytes desc.part (maybe_text_read desc.part kept.part))
    (said_told (pos 5) i64_code number_of own refl ∙ says_maybe i64_code number_of Number desc.analyzed (maybe_number_read desc.analyzed))

own_whole : (desc : StatsDesc) → desc_whole (own_slots desc) ≡ Some desc
own_whole desc = λ i. unless_bad (maybe_is_good desc.db i || (maybe_is_good desc.table i || maybe_is_good desc.part i)) (record desc { db = maybe_value desc.db i; table = maybe_value desc.table i; part = maybe_value desc.part i; analyzed = maybe_value desc.analyzed i })

pub descs_read_back : ReadsBack IsKeptDesc desc_of desc_tree
unfolding desc_of desc_tree
descs_read_back desc kept = ap said_or_bad (own_said desc kept ∙ own_whole desc)
