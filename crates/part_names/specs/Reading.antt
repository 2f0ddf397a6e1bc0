-- How the name of a partition is read. Texts are their bytes: 37 is %, 47 is / and 61 is =.
use Rattle.std.specs.Prelude.{ℕ, ◌+◌, ◌*◌, ◌==◌, Bool, ◌&&◌, ◌||◌, if◌then◌else◌, List, [], ◌∷◌, ◌++◌, length, map, fold, Option, None, Some, encode_utf8}
use Rattle.std.specs.BTreeMap.{insert_entry}
use Rattle.std.specs.Char.{digit_value, is_digit, to_ascii_lowercase}
use Rattle.std.specs.Cmp.Lexicographic.{slice_cmp}
use Rattle.std.specs.List.{after_first, before_first, position_from, slice_split}
use Rattle.std.specs.Ordering.{nat_cmp}
use Rattle.part_names.specs.declared.reading.Part.{Part}
use Rattle.part_names.specs.declared.reading.Part.TheVariants.{Key, Value}

-- what stands between the slashes of a name; the empty name has nothing
abbrev pub components : List ℕ → List (List ℕ)
components [] = []
components (byte ∷ bytes) = slice_split (λ b. b == 47) (byte ∷ bytes)

-- the components of what is left of a name
abbrev pub components_left : Option (List ℕ) → List (List ℕ)
components_left None = []
components_left (Some text) = slice_split (λ b. b == 47) text

-- the component at the front of a text of components
abbrev pub first_component : List ℕ → List ℕ
first_component text = before_first (λ b. b == 47) text

-- the key of a component and its value, as they are written: what stands before the first = and
-- what stands after it, which is nothing where there is none
abbrev pub written_key : List ℕ → List ℕ
written_key text = before_first (λ b. b == 61) text

abbrev pub written_value : List ℕ → List ℕ
written_value text = after_first (λ b. b == 61) text

-- whether a component has no =, or an empty key or value
abbrev pub is_unreadable : List ℕ → Bool
is_unreadable text = length (written_key text) == 0 || length (written_value text) == 0

-- the number, from 0, of the first component that can't be read
abbrev pub first_unreadable : List ℕ → Option ℕ
first_unreadable name = position_from is_unreadable 0 (components name)

-- whether three bytes are % and two hexadecimal digits, of either case
abbrev pub is_escape : ℕ → ℕ → ℕ → Bool
is_escape mark high low = mark == 37 && (is_digit high 16 && is_digit low 16)

-- the text with the character of that number in place of each escape, read once from the left;
-- every other % stays
unfoldable pub unescaped : List ℕ → List ℕ
unescaped (mark ∷ high ∷ low ∷ rest) =
    if is_escape mark high low then encode_utf8 (16 * digit_value high + digit_value low) ++ unescaped rest
    else mark ∷ unescaped (high ∷ low ∷ rest)
unescaped short = short

-- the value that a component spells, and its key, in lower case
abbrev pub value_of : List ℕ → List ℕ
value_of text = unescaped (written_value text)

abbrev pub key_of : List ℕ → List ℕ
key_of text = map to_ascii_lowercase (unescaped (written_key text))

-- the key or the value that a component spells, by its two texts as they are written
abbrev pub part_by : Part → List ℕ → List ℕ → List ℕ
part_by Key key value = map to_ascii_lowercase (unescaped key)
part_by Value key value = unescaped value

abbrev pub part_of : Part → List ℕ → List ℕ
part_of part text = part_by part (written_key text) (written_value text)

-- the values that a name spells, in its order
abbrev pub vals : List ℕ → List (List ℕ)
vals name = map value_of (components name)

-- the keys that a name spells, in its order and in lower case
abbrev pub keys_in : List ℕ → List (List ℕ)
keys_in name = map key_of (components name)

-- a map, by its pairs in rising order of their keys, with the pair of a component put into it, over
-- the one of the same key
abbrev pub with_component : List (List ℕ × List ℕ) → List ℕ → List (List ℕ × List ℕ)
with_component pairs text = insert_entry (slice_cmp nat_cmp) pairs (key_of text) (value_of text)

-- the map from the keys of a name to their values; of a repeated key the last value counts
abbrev pub spec : List ℕ → List (List ℕ × List ℕ)
spec name = fold with_component [] (components name)
