-- Statistics of flags: the order of fields is free, and what is written reads back.
use Rattle.std.proofs.Common.{◌≡◌, ℤ, pos, refl, sym, ap, ◌∙◌}
use Rattle.cat_values.specs.declared.statistics.StatValue.TheVariants.{Flags, Long, Str}
use Rattle.thrift_binary.specs.Codes.{i64_code}
use Rattle.thrift_binary.specs.Tree.{Fields}
use Rattle.ms_structs.specs.declared.got.Got.TheVariants.{Is}
use Rattle.ms_structs.specs.Laws.{OrderIsFree}
use Rattle.ms_structs.specs.Slots.{said, said_or_bad}
use Rattle.ms_structs.specs.Values.{number_of}
use Rattle.ms_structs.specs.Written.{fields_of}
use Rattle.ms_structs.proofs.OwnFields.{said_told}
use Rattle.ms_structs.proofs.Said.{said_same, slot_is}
use Rattle.stat_structs.specs.declared.flags.FlagFields.{FlagFields}
use Rattle.stat_structs.specs.Flags.{IsFlags, flags_made, flags_none, flags_of, flags_set, flags_tree, flags_whole, flags_written}
use Rattle.stat_structs.specs.Laws.{ReadsBack}

-- what fields make, by what they say under each id
flags_by : (v : Fields) (f : FlagFields)
    → said (pos 1) i64_code number_of v ≡ f.trues
    → said (pos 2) i64_code number_of v ≡ f.falses
    → said (pos 3) i64_code number_of v ≡ f.nulls
    → flags_made v ≡ flags_whole f
flags_by v f trues falses nulls =
    let trues = slot_is flags_set flags_none v (λ g. g.trues) (pos 1) i64_code number_of (λ g ty id w. refl) refl trues in
    let falses = slot_is flags_set flags_none v (λ g. g.falses) (pos 2) i64_code number_of (λ g ty id w. refl) refl falses in
    let nulls = slot_is flags_set flags_none v (λ g. g.nulls) (pos 3) i64_code number_of (λ g ty id w. refl) refl nulls in
    λ i. flags_whole (record { trues = trues i; falses = falses i; nulls = nulls i })

abbrev said_slots : Fields → FlagFields
said_slots v = record {
  trues = said (pos 1) i64_code number_of v;
  falses = said (pos 2) i64_code number_of v;
  nulls = said (pos 3) i64_code number_of v;
}

pub flags_order : OrderIsFree flags_of
unfolding flags_of
flags_order v v' same = ap said_or_bad (
    flags_by v (said_slots v')
    (said_same (pos 1) i64_code number_of v v' same)
    (said_same (pos 2) i64_code number_of v v' same)
    (said_same (pos 3) i64_code number_of v v' same)
    ∙ sym (flags_by v' (said_slots v') refl refl refl)
    )

pub flags_read : (trues falses nulls : ℤ) → flags_of (flags_tree (Flags trues falses nulls)) ≡ Is (Flags trues falses nulls)
unfolding flags_of flags_tree
flags_read trues falses nulls =
    let own = flags_written (Flags trues falses nulls) in
    ap said_or_bad (
    flags_by (fields_of own) (record { trues = Is trues; falses = Is falses; nulls = Is nulls })
    (said_told (pos 1) i64_code number_of own refl)
    (said_told (pos 2) i64_code number_of own refl)
    (said_told (pos 3) i64_code number_of own refl)
    )

pub flags_read_back : ReadsBack IsFlags flags_of flags_tree
flags_read_back (Flags trues falses nulls) is = flags_read trues falses nulls
flags_read_back (Long low high nulls distinct) is = absurd is
flags_read_back (Str longest average nulls distinct) is = absurd is
