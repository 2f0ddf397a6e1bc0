-- What values of one type say.
use Rattle.std.specs.Prelude.{◌==◌, ◌||◌, ◌&&◌, length, if◌then◌else◌, ℕ, ℤ, Bool, List, [], ◌∷◌, ◌++◌, Option, None, Some}
use Rattle.std.specs.Str.{is_utf8}
use Rattle.std.specs.declared.cmp.Ordering.{Ordering}
use Rattle.std.specs.Cmp.Lexicographic.{slice_cmp}
use Rattle.std.specs.Ordering.{nat_cmp}
use Rattle.std.specs.BTreeMap.{insert_entry, is_at}
use Rattle.std.specs.Map.{remove_entry}
use Rattle.ms_structs.specs.declared.got.Got.{Got}
use Rattle.ms_structs.specs.declared.got.Got.TheVariants.{Nothing, BadText, Is}
use Rattle.ms_structs.specs.declared.pairs.PairsSoFar.{PairsSoFar}
use Rattle.thrift_binary.specs.Codes.{text_code}
use Rattle.thrift_binary.specs.Taking.{Stop}
use Rattle.thrift_binary.specs.Wire.{IsThen, StopsThen, IsWire, StopsWire}
use Rattle.ms_structs.specs.Slots.{said_or_bad, typed}
use Rattle.thrift_binary.specs.Tree.{Wire, Flag, Number, Bytes, Items, Pairs, Elements, NoElements, Element, Entries, NoEntries, Entry, elements_count, entries_count}

abbrev pub flag_of : Wire → Got Bool
flag_of (Flag value) = Is value
flag_of w = Nothing

abbrev pub number_of : Wire → Got ℤ
number_of (Number n) = Is n
number_of w = Nothing

abbrev pub text_of : Wire → Got (List ℕ)
text_of (Bytes bytes) = if is_utf8 bytes then Is bytes else BadText
text_of w = Nothing

-- ---- lists

-- a list with one element more, which isn't there where it says nothing; None: a text in it is bad
abbrev pub with_item : {T : Type 0} → Option (List T) → Got T → Option (List T)
with_item None item = None
with_item (Some items) Nothing = Some items
with_item (Some items) BadText = None
with_item (Some items) (Is item) = Some (items ++ item ∷ [])

abbrev pub fold_elements : {A : Type 0} → (A → Wire → A) → A → Elements → A
fold_elements add a NoElements = a
fold_elements add a (Element w es) = fold_elements add (add a w) es

-- a list of values of this code; one of others is skipped, but where it is empty nobody looks at its type
abbrev pub items_of : {T : Type 0} → ℕ → (Wire → Got T) → Wire → Got (List T)
items_of code means (Items of es) =
    if (elements_count es == 0) || (of == code) then said_or_bad (fold_elements (λ items w. with_item items (typed code means of w)) (Some []) es) else Nothing
items_of code means w = Nothing

-- ---- maps

-- a pair put over the one with its key; a key is spoiled where its last value is a bad text
abbrev pub put_value : {K V : Type 0} → (K → K → Ordering) → PairsSoFar K V → K → Got V → PairsSoFar K V
put_value cmp so key Nothing = so
put_value cmp so key BadText = record { pairs = so.pairs; spoiled = insert_entry cmp so.spoiled key tt }
put_value cmp so key (Is value) = record { pairs = insert_entry cmp so.pairs key value; spoiled = remove_entry (is_at (cmp key)) so.spoiled }

-- a map with one pair more; a pair either part of which says nothing isn't there; None: a key is a bad text
abbrev pub with_pair : {K V : Type 0} → (K → K → Ordering) → Option (PairsSoFar K V) → Got K → Got V → Option (PairsSoFar K V)
with_pair cmp so Nothing value = so
with_pair cmp so BadText Nothing = so
with_pair cmp so BadText BadText = None
with_pair cmp so BadText (Is value) = None
with_pair cmp None (Is key) value = None
with_pair cmp (Some so) (Is key) value = Some (put_value cmp so key value)

-- a key and its value, and where they stop
abbrev pub IsPairOf : ℕ → ℕ → ℕ → Wire → Wire → List ℕ → Type 0
IsPairOf depth key value k w = IsThen (λ (x : Wire). IsWire x depth key) (λ _ (y : Wire). IsWire y depth value) k w

abbrev pub StopsPairOf : ℕ → ℕ → ℕ → Stop → List ℕ → Type 0
StopsPairOf depth key value = StopsThen (λ (x : Wire). IsWire x depth key) (StopsWire depth key) (λ _. StopsWire depth value)

abbrev pub fold_entries : {A : Type 0} → (A → Wire → Wire → A) → A → Entries → A
fold_entries add a NoEntries = a
fold_entries add a (Entry k w ps) = fold_entries add (add a k w) ps

-- the map of the pairs, but a bad text that no later pair replaced is one of the map
abbrev pub all_pairs : {K V : Type 0} → Option (PairsSoFar K V) → Got (List (K × V))
all_pairs None = BadText
all_pairs (Some so) = if length so.spoiled == 0 then Is so.pairs else BadText

abbrev pub no_pairs : {K V : Type 0} → Option (PairsSoFar K V)
no_pairs = Some (record { pairs = []; spoiled = [] })

-- a map with keys of this code and values of that one; one with others is skipped, but where it is empty nobody looks at its types
abbrev pub pairs_of : {K V : Type 0} → (K → K → Ordering) → ℕ → (Wire → Got K) → ℕ → (Wire → Got V) → Wire → Got (List (K × V))
pairs_of cmp key key_means value value_means (Pairs kt vt ps) =
    if (entries_count ps == 0) || ((kt == key) && (vt == value))
    then all_pairs (fold_entries (λ so k w. with_pair cmp so (typed key key_means kt k) (typed value value_means vt w)) no_pairs ps)
    else Nothing
pairs_of cmp key key_means value value_means w = Nothing

-- a map from texts to texts
abbrev pub params_of : Wire → Got (List (List ℕ × List ℕ))
params_of = pairs_of (slice_cmp nat_cmp) text_code text_of text_code text_of
