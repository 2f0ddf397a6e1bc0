-- Statistics of texts: the order of fields is free, and what is written reads back.
use Rattle.std.proofs.Common.{◌≡◌, ℕ, ℤ, pos, List, refl, sym, ap, ◌∙◌}
use Rattle.cat_values.specs.declared.statistics.StatValue.TheVariants.{Flags, Long, Str}
use Rattle.thrift_binary.specs.Codes.{double_code, i64_code}
use Rattle.thrift_binary.specs.Tree.{Fields}
use Rattle.ms_structs.specs.declared.got.Got.TheVariants.{Is}
use Rattle.ms_structs.specs.Laws.{OrderIsFree}
use Rattle.ms_structs.specs.Slots.{said, said_or_bad}
use Rattle.ms_structs.specs.Values.{number_of}
use Rattle.ms_structs.specs.Written.{fields_of}
use Rattle.ms_structs.proofs.OwnFields.{said_told}
use Rattle.ms_structs.proofs.Said.{said_same, slot_is}
use Rattle.stat_structs.specs.declared.strings.StringFields.{StringFields}
use Rattle.stat_structs.specs.Doubles.{eight_of}
use Rattle.stat_structs.specs.Strings.{IsStr, string_made, string_none, string_of, string_set, string_tree, string_whole, string_written}
use Rattle.stat_structs.specs.Laws.{ReadsBack}

-- what fields make, by what they say under each id
string_by : (v : Fields) (f : StringFields)
    → said (pos 1) i64_code number_of v ≡ f.longest
    → said (pos 2) double_code eight_of v ≡ f.average
    → said (pos 3) i64_code number_of v ≡ f.nulls
    → said (pos 4) i64_code number_of v ≡ f.distinct
    → string_made v ≡ string_whole f
string_by v f longest average nulls distinct =
    let longest = slot_is string_set string_none v (λ g. g.longest) (pos 1) i64_code number_of (λ g ty id w. refl) refl longest in
    let average = slot_is string_set string_none v (λ g. g.average) (pos 2) double_code eight_of (λ g ty id w. refl) refl average in
    let nulls = slot_is string_set string_none v (λ g. g.nulls) (pos 3) i64_code number_of (λ g ty id w. refl) refl nulls in
    let distinct = slot_is string_set string_none v (λ g. g.distinct) (pos 4) i64_code number_of (λ g ty id w. refl) refl distinct in
    λ i. string_whole (record { longest = longest i; average = average i; nulls = nulls i; distinct = distinct i })

abbrev said_slots : Fields → StringFields
said_slots v = record {
  longest = said (pos 1) i64_code number_of v;
  average = said (pos 2) double_code eight_of v;
  nulls = said (pos 3) i64_code number_of v;
  distinct = said (pos 4) i64_code number_of v;
}

pub string_order : OrderIsFree string_of
unfolding string_of
string_order v v' same = ap said_or_bad (
    string_by v (said_slots v')
    (said_same (pos 1) i64_code number_of v v' same)
    (said_same (pos 2) double_code eight_of v v' same)
    (said_same (pos 3) i64_code number_of v v' same)
    (said_same (pos 4) i64_code number_of v v' same)
    ∙ sym (string_by v' (said_slots v') refl refl refl refl)
    )

pub string_read : (longest : ℤ) (average : List ℕ) (nulls distinct : ℤ) → string_of (string_tree (Str longest average nulls distinct)) ≡ Is (Str longest average nulls distinct)
unfolding string_of string_tree
string_read longest average nulls distinct =
    let own = string_written (Str longest average nulls distinct) in
    ap said_or_bad (
    string_by (fields_of own) (record { longest = Is longest; average = Is average; nulls = Is nulls; distinct = Is distinct })
    (said_told (pos 1) i64_code number_of own refl)
    (said_told (pos 2) double_code eight_of own refl)
    (said_told (pos 3) i64_code number_of own refl)
    (said_told (pos 4) i64_code number_of own refl)
    )

pub strings_read_back : ReadsBack IsStr string_of string_tree
strings_read_back (Flags trues falses nulls) is = absurd is
strings_read_back (Long low high nulls distinct) is = absurd is
strings_read_back (Str longest average nulls distinct) is = string_read longest average nulls distinct
