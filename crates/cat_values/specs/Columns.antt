-- How a column is found by its name, and which kind of values its type names. Texts are their bytes: 32 is the space.
use Rattle.std.specs.Prelude.{◌==◌, ℕ, Bool, ◌||◌, if◌then◌else◌, List, [], ◌∷◌, length, take, map, reverse, codes, find, Option}
use Rattle.std.specs.Char.{to_ascii_lowercase}
use Rattle.std.specs.Str.{bytes_eq}
use Rattle.cat_values.specs.declared.columns.TypeKind.{TypeKind}
use Rattle.cat_values.specs.declared.columns.TypeKind.TheVariants.{Boolean, Integer, Text, Date, Other}
use Rattle.cat_values.specs.declared.storage.Column.{Column}

-- the first column with a name
abbrev pub column_named : List Column → List ℕ → Option Column
column_named columns name = find (λ column. bytes_eq column.name name) columns

-- a text without the spaces at its start
abbrev pub without_leading_spaces : List ℕ → List ℕ
without_leading_spaces [] = []
without_leading_spaces (byte ∷ bytes) = if byte == 32 then without_leading_spaces bytes else byte ∷ bytes

-- a text without the spaces at its end
abbrev pub without_trailing_spaces : List ℕ → List ℕ
without_trailing_spaces text = reverse (without_leading_spaces (reverse text))

-- a type as it is read: without the spaces at its ends, and in lower case
abbrev pub read_type : List ℕ → List ℕ
read_type ty = map to_ascii_lowercase (without_trailing_spaces (without_leading_spaces ty))

-- a text begins with a prefix
abbrev pub has_prefix : List ℕ → List ℕ → Bool
has_prefix prefix text = bytes_eq (take (length prefix) text) prefix

-- the types of whole numbers
abbrev pub is_integer_type : List ℕ → Bool
is_integer_type name = bytes_eq name (codes "tinyint") || (bytes_eq name (codes "smallint") || (bytes_eq name (codes "int") || bytes_eq name (codes "bigint")))

-- the types of texts
abbrev pub is_text_type : List ℕ → Bool
is_text_type name = bytes_eq name (codes "string") || (has_prefix (codes "varchar(") name || has_prefix (codes "char(") name)

-- the kind of a type that was read
abbrev pub kind_named : List ℕ → TypeKind
kind_named name =
    if bytes_eq name (codes "boolean") then Boolean
    else if is_integer_type name then Integer
    else if is_text_type name then Text
    else if bytes_eq name (codes "date") then Date
    else Other

-- the kind of a column's type
unfoldable pub type_kind : List ℕ → TypeKind
type_kind ty = kind_named (read_type ty)
