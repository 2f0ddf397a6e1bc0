-- A column's statistics: the order of fields is free, and what is written reads back.
use Rattle.std.proofs.Common.{◌≡◌, pos, Some, refl, sym, ap, ◌∙◌}
use Rattle.cat_types.specs.declared.named.NamedStat.{NamedStat}
use Rattle.thrift_binary.specs.Codes.{struct_code, text_code}
use Rattle.thrift_binary.specs.Tree.{Fields}
use Rattle.ms_structs.specs.declared.got.Got.TheVariants.{Is}
use Rattle.ms_structs.specs.Laws.{OrderIsFree}
use Rattle.ms_structs.specs.Slots.{said, said_or_bad}
use Rattle.ms_structs.specs.Values.{text_of}
use Rattle.ms_structs.specs.Written.{fields_of}
use Rattle.ms_structs.proofs.OwnFields.{said_told}
use Rattle.ms_structs.proofs.ReadBack.{text_read}
use Rattle.ms_structs.proofs.Said.{said_same, slot_is}
use Rattle.stat_structs.specs.declared.objects.ObjectFields.{ObjectFields}
use Rattle.stat_structs.specs.Kept.{IsKeptStat}
use Rattle.stat_structs.specs.Laws.{ObjectsReadBack}
use Rattle.stat_structs.specs.Members.{member_of}
use Rattle.stat_structs.specs.Objects.{object_made, object_none, object_of, object_set, object_tree, object_whole, object_written}
use Rattle.stat_structs.proofs.MemberLaws.{members_read_back}

-- what fields make, by what they say under each id
object_by : (v : Fields) (f : ObjectFields)
    → said (pos 1) text_code text_of v ≡ f.col
    → said (pos 2) text_code text_of v ≡ f.ty
    → said (pos 3) struct_code member_of v ≡ f.value
    → object_made v ≡ object_whole f
object_by v f col ty value =
    let col = slot_is object_set object_none v (λ g. g.col) (pos 1) text_code text_of (λ g ty id w. refl) refl col in
    let ty = slot_is object_set object_none v (λ g. g.ty) (pos 2) text_code text_of (λ g ty id w. refl) refl ty in
    let value = slot_is object_set object_none v (λ g. g.value) (pos 3) struct_code member_of (λ g ty id w. refl) refl value in
    λ i. object_whole (record { col = col i; ty = ty i; value = value i })

abbrev said_slots : Fields → ObjectFields
said_slots v = record {
  col = said (pos 1) text_code text_of v;
  ty = said (pos 2) text_code text_of v;
  value = said (pos 3) struct_code member_of v;
}

pub object_order : OrderIsFree object_of
unfolding object_of
object_order v v' same = ap said_or_bad (
    object_by v (said_slots v')
    (said_same (pos 1) text_code text_of v v' same)
    (said_same (pos 2) text_code text_of v v' same)
    (said_same (pos 3) struct_code member_of v v' same)
    ∙ sym (object_by v' (said_slots v') refl refl refl)
    )

-- the slots behind the own fields of a column's statistics
abbrev own_slots : NamedStat → ObjectFields
own_slots stat = record { col = Is stat.col; ty = Is stat.ty; value = Is (Some stat.rec.value) }

own_said : (stat : NamedStat) → IsKeptStat stat → object_made (fields_of (object_written stat)) ≡ object_whole (own_slots stat)
own_said stat kept =
    let own = object_written stat in
    object_by (fields_of own) (own_slots stat)
    (said_told (pos 1) text_code text_of own refl ∙ text_read stat.col kept.col)
    (said_told (pos 2) text_code text_of own refl ∙ text_read stat.ty kept.ty)
    (said_told (pos 3) struct_code member_of own refl ∙ members_read_back stat.rec.value)

pub objects_read_back : ObjectsReadBack
unfolding object_of object_tree
objects_read_back stat kept = ap said_or_bad (own_said stat kept)
