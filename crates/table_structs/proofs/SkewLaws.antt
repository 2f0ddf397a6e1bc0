-- Columns whose values are spread unevenly: the order of fields is free, and what is written reads back.
use Rattle.std.proofs.Common.{◌≡◌, ℕ, List, pos, Some, refl, sym, ap, ◌∙◌}
use Rattle.std.specs.Cmp.Lexicographic.{lists_total, nat_list_cmp_total, slice_cmp}
use Rattle.std.specs.List.{AllByRecursion}
use Rattle.std.specs.List.Sorted.{IsStrictlySortedBy}
use Rattle.std.specs.Map.{keys_of}
use Rattle.std.specs.Ordering.{nat_cmp}
use Rattle.std.specs.Str.{IsUtf8}
use Rattle.ms_structs.specs.Written.{texts_tree}
use Rattle.table_structs.specs.Skews.{places_of, places_tree}
use Rattle.cat_values.specs.declared.storage.Skew.{Skew}
use Rattle.thrift_binary.specs.Codes.{list_code, map_code, text_code}
use Rattle.thrift_binary.specs.Tree.{Bytes, Fields}
use Rattle.ms_structs.specs.declared.got.Got.TheVariants.{Is}
use Rattle.ms_structs.specs.Laws.{OrderIsFree}
use Rattle.ms_structs.specs.Slots.{said, said_or_bad}
use Rattle.ms_structs.specs.Values.{items_of, text_of}
use Rattle.ms_structs.specs.Written.{fields_of}
use Rattle.ms_structs.proofs.OwnFields.{said_told}
use Rattle.ms_structs.proofs.ReadBack.{items_read, map_read, text_read, texts_read}
use Rattle.ms_structs.proofs.Said.{said_same, slot_is}
use Rattle.table_structs.specs.declared.skews.SkewFields.{SkewFields}
use Rattle.table_structs.specs.Skews.{skew_made, skew_none, skew_of, skew_set, skew_tree, skew_whole, skew_written}
use Rattle.table_structs.specs.Kept.{IsKeptSkew}
use Rattle.table_structs.specs.Laws.{ReadsBack}

places_read : (places : List (List (List ℕ) × List ℕ)) → AllByRecursion (λ pair. AllByRecursion IsUtf8 pair.0 × IsUtf8 pair.1) places → IsStrictlySortedBy (slice_cmp (slice_cmp nat_cmp)) (keys_of places) → places_of (places_tree places) ≡ Is places
places_read =
    map_read (slice_cmp (slice_cmp nat_cmp)) (lists_total nat_list_cmp_total) list_code (items_of text_code text_of) texts_tree text_code text_of Bytes
    (λ pair. AllByRecursion IsUtf8 pair.0 × IsUtf8 pair.1) (λ pair is. texts_read pair.0 is.0) (λ pair is. text_read pair.1 is.1)

-- what fields make, by what they say under each id
skew_by : (v : Fields) (f : SkewFields)
    → said (pos 1) list_code (items_of text_code text_of) v ≡ f.cols
    → said (pos 2) list_code (items_of list_code (items_of text_code text_of)) v ≡ f.values
    → said (pos 3) map_code places_of v ≡ f.places
    → skew_made v ≡ skew_whole f
skew_by v f cols values places =
    let cols = slot_is skew_set skew_none v (λ g. g.cols) (pos 1) list_code (items_of text_code text_of) (λ g ty id w. refl) refl cols in
    let values = slot_is skew_set skew_none v (λ g. g.values) (pos 2) list_code (items_of list_code (items_of text_code text_of)) (λ g ty id w. refl) refl values in
    let places = slot_is skew_set skew_none v (λ g. g.places) (pos 3) map_code places_of (λ g ty id w. refl) refl places in
    λ i. skew_whole (record { cols = cols i; values = values i; places = places i })

abbrev said_slots : Fields → SkewFields
said_slots v = record {
  cols = said (pos 1) list_code (items_of text_code text_of) v;
  values = said (pos 2) list_code (items_of list_code (items_of text_code text_of)) v;
  places = said (pos 3) map_code places_of v;
}

pub skew_order : OrderIsFree skew_of
unfolding skew_of
skew_order v v' same = ap said_or_bad (
    skew_by v (said_slots v')
    (said_same (pos 1) list_code (items_of text_code text_of) v v' same)
    (said_same (pos 2) list_code (items_of list_code (items_of text_code text_of)) v v' same)
    (said_same (pos 3) map_code places_of v v' same)
    ∙ sym (skew_by v' (said_slots v') refl refl refl)
    )

-- the slots behind a skew's own fields
abbrev own_slots : Skew → SkewFields
own_slots skew = record { cols = Is skew.cols; values = Is skew.values; places = Is skew.places }

own_said : (skew : Skew) → IsKeptSkew skew → skew_made (fields_of (skew_written skew)) ≡ skew_whole (own_slots skew)
own_said skew kept =
    let own = skew_written skew in
    skew_by (fields_of own) (own_slots skew)
    (said_told (pos 1) list_code (items_of text_code text_of) own refl ∙ texts_read skew.cols kept.cols)
    (said_told (pos 2) list_code (items_of list_code (items_of text_code text_of)) own refl ∙ items_read list_code (items_of text_code text_of) texts_tree (AllByRecursion IsUtf8) texts_read skew.values kept.values)
    (said_told (pos 3) map_code places_of own refl ∙ places_read skew.places kept.places.0 kept.places.1)

own_whole : (skew : Skew) → skew_whole (own_slots skew) ≡ Some skew
own_whole skew = refl

pub skews_read_back : ReadsBack IsKeptSkew skew_of skew_tree
unfolding skew_of skew_tree
skews_read_back skew kept = ap said_or_bad (own_said skew kept ∙ own_whole skew)
