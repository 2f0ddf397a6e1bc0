-- What objects and columns may be called. A fact in capitals has a test beside it, which computes. 95 is the underscore.
use Rattle.std.specs.Prelude.{◌≡◌, ◌==◌, ℕ, ◌≤◌, nat_le, Bool, ◌&&◌, ◌||◌, ◌⊎◌, List, length, All}
use Rattle.std.specs.Char.{IsAsciiAlphanumeric, is_ascii_alphanumeric}
use Rattle.std.specs.List.{list_all}
use Rattle.std.specs.Str.{str_to_ascii_lowercase}
use Rattle.cat_values.specs.declared.lower_names.LowerName.{LowerName}
use Rattle.cat_values.specs.declared.lower_names.LowerName.TheVariants.{Made, Same}

-- an ASCII letter, a digit or an underscore
abbrev pub IsNameByte : ℕ → Type 0
IsNameByte byte = IsAsciiAlphanumeric byte ⊎ (byte ≡ 95)

abbrev pub is_name_byte : ℕ → Bool
is_name_byte byte = is_ascii_alphanumeric byte || byte == 95

-- of 1 to 128 bytes, as every name is; a column may be called by any text of that length
abbrev pub HasNameLength : List ℕ → Type 0
HasNameLength name = (1 ≤ length name) × (length name ≤ 128)

abbrev pub has_name_length : List ℕ → Bool
has_name_length name = nat_le 1 (length name) && nat_le (length name) 128

-- the name of a database, a table or a partition key
abbrev pub IsObjectName : List ℕ → Type 0
IsObjectName name = HasNameLength name × All IsNameByte name

abbrev pub is_object_name : List ℕ → Bool
is_object_name name = has_name_length name && list_all is_name_byte name

-- names of objects and columns are read without regard to the case of ASCII letters
abbrev pub lower : List ℕ → List ℕ
lower name = str_to_ascii_lowercase name

-- the text of a name in lower case
abbrev pub lower_name : LowerName → List ℕ
lower_name (Same name) = name.now
lower_name (Made name) = name
