-- SkewedInfo: what its fields say, and how it is written.
use Rattle.std.specs.Prelude.{ℕ, ℤ, pos, List, [], ◌∷◌, Option, Bool, ◌||◌}
use Rattle.std.specs.Cmp.Lexicographic.{slice_cmp}
use Rattle.std.specs.Ordering.{nat_cmp}
use Rattle.cat_values.specs.declared.storage.Skew.{Skew}
use Rattle.ms_structs.specs.declared.got.Got.{Got}
use Rattle.ms_structs.specs.declared.got.Got.TheVariants.{Nothing}
use Rattle.ms_structs.specs.Slots.{is_bad, made_of, slot, struct_of, unless_bad, value_or}
use Rattle.ms_structs.specs.Values.{items_of, pairs_of, text_of}
use Rattle.ms_structs.specs.Written.{OwnField, fields_of, given, items_tree, pairs_tree, texts_tree}
use Rattle.table_structs.specs.declared.skews.SkewFields.{SkewFields}
use Rattle.thrift_binary.specs.Codes.{list_code, map_code, text_code}
use Rattle.thrift_binary.specs.Tree.{Wire, Bytes, Struct, Fields}

-- what a map from lists of texts to texts says
abbrev pub places_of : Wire → Got (List (List (List ℕ) × List ℕ))
places_of = pairs_of (slice_cmp (slice_cmp nat_cmp)) list_code (items_of text_code text_of) text_code text_of

-- how such a map is written
abbrev pub places_tree : List (List (List ℕ) × List ℕ) → Wire
places_tree = pairs_tree list_code texts_tree text_code Bytes

-- the slots before the first field: 1 skewedColNames, 2 skewedColValues, 3 skewedColValueLocationMaps
abbrev pub skew_none : SkewFields
skew_none = record { cols = Nothing; values = Nothing; places = Nothing }

-- the slots behind one more field
abbrev pub skew_set : SkewFields → ℕ → ℤ → Wire → SkewFields
skew_set f ty id w = record {
  cols = slot (pos 1) list_code (items_of text_code text_of) f.cols ty id w;
  values = slot (pos 2) list_code (items_of list_code (items_of text_code text_of)) f.values ty id w;
  places = slot (pos 3) map_code places_of f.places ty id w;
}

-- whether a text in one of the slots is bad
abbrev pub skew_is_bad : SkewFields → Bool
skew_is_bad f = is_bad f.cols || (is_bad f.values || is_bad f.places)

-- absent lists and an absent map are empty
abbrev pub skew_from : SkewFields → Skew
skew_from f = record {
  cols = value_or [] f.cols;
  values = value_or [] f.values;
  places = value_or [] f.places;
}

-- what the slots make, unless a text is bad
abbrev pub skew_whole : SkewFields → Option Skew
skew_whole f = unless_bad (skew_is_bad f) (skew_from f)

-- the skew that these fields make; None: a text that counts isn't UTF-8
abbrev pub skew_made : Fields → Option Skew
skew_made = made_of skew_whole skew_set skew_none

-- the skew that a struct says
unfoldable pub skew_of : Wire → Got Skew
skew_of = struct_of skew_whole skew_set skew_none

-- the fields that a skew is written as
abbrev pub skew_written : Skew → List OwnField
skew_written skew =
    given (pos 1) list_code texts_tree skew.cols ∷
    given (pos 2) list_code (items_tree list_code texts_tree) skew.values ∷
    given (pos 3) map_code places_tree skew.places ∷ []

-- the struct that a skew is written as
unfoldable pub skew_tree : Skew → Wire
skew_tree skew = Struct (fields_of (skew_written skew))
