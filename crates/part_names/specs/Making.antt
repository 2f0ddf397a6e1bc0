-- How the name of a partition is made of its keys and values. Texts are their bytes: 37 is %, 47 is / and 61 is =.
use Rattle.std.specs.Prelude.{◌≢◌, ℕ, ◌≤◌, ◌/◌, ◌%◌, ◌==◌, Bool, ◌||◌, if◌then◌else◌, List, [], ◌∷◌, ◌++◌, length, map, All, codes}
use Rattle.std.specs.Char.{digit_char, to_ascii_uppercase}
use Rattle.std.specs.Int.{is_in_range}
use Rattle.std.specs.List.{flat_map, join_with_byte, list_any, zip}

-- no longer than a value may be, and without U+0000
abbrev pub IsValidValue : List ℕ → Type 0
IsValidValue value = (length value ≤ 4000) × All (λ byte. byte ≢ 0) value

-- the value that stands for an empty one
abbrev pub default_value : List ℕ
default_value = codes "__HIVE_DEFAULT_PARTITION__"

-- the value that is kept for a value
abbrev pub stored : List ℕ → List ℕ
stored [] = default_value
stored (byte ∷ bytes) = byte ∷ bytes

-- whether a byte of a value is written as an escape: " # % ' * / : = ? \ { [ ] ^, U+007F,
-- and the controls from U+0001 to U+001F
abbrev pub is_escaped : ℕ → Bool
is_escaped byte =
    list_any (λ mark. byte == mark) (34 ∷ 35 ∷ 37 ∷ 39 ∷ 42 ∷ 47 ∷ 58 ∷ 61 ∷ 63 ∷ 92 ∷ 123 ∷ 91 ∷ 93 ∷ 94 ∷ 127 ∷ [])
    || is_in_range 1 31 byte

-- a hexadecimal digit, in upper case
abbrev pub upper_digit : ℕ → ℕ
upper_digit value = to_ascii_uppercase (digit_char value)

-- % and the two digits of a byte
abbrev pub escape : ℕ → List ℕ
escape byte = 37 ∷ upper_digit (byte / 16) ∷ upper_digit (byte % 16) ∷ []

-- a byte of a value as it stands in a name
unfoldable pub escape_of : ℕ → List ℕ
escape_of byte = if is_escaped byte then escape byte else byte ∷ []

-- a value as it stands in a name
abbrev pub escaped : List ℕ → List ℕ
escaped value = flat_map escape_of value

-- a key and its value in a name
abbrev pub component : List ℕ → List ℕ → List ℕ
component key value = key ++ 61 ∷ escaped (stored value)

-- a name with one more component, behind a slash unless it is the first
abbrev pub grown : List ℕ → List ℕ → List ℕ
grown name text = if length name == 0 then text else name ++ 47 ∷ text

-- each key with its value
abbrev pub components_of : List (List ℕ) → List (List ℕ) → List (List ℕ)
components_of keys values = map (λ pair. component pair.0 pair.1) (zip keys values)

-- the name of the partition with these values of these keys
unfoldable pub part_name : List (List ℕ) → List (List ℕ) → List ℕ
part_name keys values = join_with_byte 47 (components_of keys values)
