-- Statistics of whole numbers: the order of fields is free, and what is written reads back.
use Rattle.std.proofs.Common.{◌≡◌, ℤ, pos, Option, Some, None, IfSome, refl, sym, ap, ◌∙◌}
use Rattle.cat_values.specs.declared.statistics.StatValue.TheVariants.{Flags, Long, Str}
use Rattle.thrift_binary.specs.Codes.{i64_code}
use Rattle.thrift_binary.specs.Tree.{Fields, Number}
use Rattle.ms_structs.specs.declared.got.Got.TheVariants.{Is}
use Rattle.ms_structs.specs.Laws.{OrderIsFree}
use Rattle.ms_structs.specs.Slots.{said, said_or_bad}
use Rattle.ms_structs.specs.Values.{number_of}
use Rattle.ms_structs.specs.Written.{fields_of}
use Rattle.ms_structs.proofs.OwnFields.{maybe, maybe_value, said_told, says_maybe}
use Rattle.ms_structs.proofs.Said.{said_same, slot_is}
use Rattle.stat_structs.specs.declared.longs.LongFields.{LongFields}
use Rattle.stat_structs.specs.Longs.{IsLong, long_made, long_none, long_of, long_set, long_tree, long_whole, long_written}
use Rattle.stat_structs.specs.Laws.{ReadsBack}

-- what fields make, by what they say under each id
long_by : (v : Fields) (f : LongFields)
    → said (pos 1) i64_code number_of v ≡ f.low
    → said (pos 2) i64_code number_of v ≡ f.high
    → said (pos 3) i64_code number_of v ≡ f.nulls
    → said (pos 4) i64_code number_of v ≡ f.distinct
    → long_made v ≡ long_whole f
long_by v f low high nulls distinct =
    let low = slot_is long_set long_none v (λ g. g.low) (pos 1) i64_code number_of (λ g ty id w. refl) refl low in
    let high = slot_is long_set long_none v (λ g. g.high) (pos 2) i64_code number_of (λ g ty id w. refl) refl high in
    let nulls = slot_is long_set long_none v (λ g. g.nulls) (pos 3) i64_code number_of (λ g ty id w. refl) refl nulls in
    let distinct = slot_is long_set long_none v (λ g. g.distinct) (pos 4) i64_code number_of (λ g ty id w. refl) refl distinct in
    λ i. long_whole (record { low = low i; high = high i; nulls = nulls i; distinct = distinct i })

abbrev said_slots : Fields → LongFields
said_slots v = record {
  low = said (pos 1) i64_code number_of v;
  high = said (pos 2) i64_code number_of v;
  nulls = said (pos 3) i64_code number_of v;
  distinct = said (pos 4) i64_code number_of v;
}

pub long_order : OrderIsFree long_of
unfolding long_of
long_order v v' same = ap said_or_bad (
    long_by v (said_slots v')
    (said_same (pos 1) i64_code number_of v v' same)
    (said_same (pos 2) i64_code number_of v v' same)
    (said_same (pos 3) i64_code number_of v v' same)
    (said_same (pos 4) i64_code number_of v v' same)
    ∙ sym (long_by v' (said_slots v') refl refl refl refl)
    )

pub maybe_number_read : (n : Option ℤ) → IfSome n (λ x. number_of (Number x) ≡ Is x)
maybe_number_read None = tt
maybe_number_read (Some n) = refl

-- the slots behind the own fields of such statistics
abbrev own_slots : Option ℤ → Option ℤ → ℤ → ℤ → LongFields
own_slots low high nulls distinct = record { low = maybe low; high = maybe high; nulls = Is nulls; distinct = Is distinct }

own_said : (low high : Option ℤ) (nulls distinct : ℤ) → long_made (fields_of (long_written (Long low high nulls distinct))) ≡ long_whole (own_slots low high nulls distinct)
own_said low high nulls distinct =
    let own = long_written (Long low high nulls distinct) in
    long_by (fields_of own) (own_slots low high nulls distinct)
    (said_told (pos 1) i64_code number_of own refl ∙ says_maybe i64_code number_of Number low (maybe_number_read low))
    (said_told (pos 2) i64_code number_of own refl ∙ says_maybe i64_code number_of Number high (maybe_number_read high))
    (said_told (pos 3) i64_code number_of own refl)
    (said_told (pos 4) i64_code number_of own refl)

own_whole : (low high : Option ℤ) (nulls distinct : ℤ) → long_whole (own_slots low high nulls distinct) ≡ Some (Long low high nulls distinct)
own_whole low high nulls distinct = λ i. Some (Long (maybe_value low i) (maybe_value high i) nulls distinct)

pub long_read : (low high : Option ℤ) (nulls distinct : ℤ) → long_of (long_tree (Long low high nulls distinct)) ≡ Is (Long low high nulls distinct)
unfolding long_of long_tree
long_read low high nulls distinct = ap said_or_bad (own_said low high nulls distinct ∙ own_whole low high nulls distinct)

pub longs_read_back : ReadsBack IsLong long_of long_tree
longs_read_back (Flags trues falses nulls) is = absurd is
longs_read_back (Long low high nulls distinct) is = long_read low high nulls distinct
longs_read_back (Str longest average nulls distinct) is = absurd is
