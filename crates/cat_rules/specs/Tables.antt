-- Which columns and partition keys a table may have. A fact in capitals has a test beside it,
-- which computes.
use Rattle.std.specs.Prelude.{◌≢◌, ℕ, ◌≤◌, nat_le, Bool, true, not, ◌&&◌, List, [], ◌∷◌, ◌++◌, length, map, All, AllPairs}
use Rattle.std.specs.List.{list_all, list_any}
use Rattle.std.specs.Str.{bytes_eq}
use Rattle.cat_values.specs.declared.storage.Column.{Column}
use Rattle.cat_values.specs.Names.{HasNameLength, IsObjectName, has_name_length, is_object_name}

-- the names of columns, in their order
abbrev pub names_of : List Column → List (List ℕ)
names_of columns = map (λ column. column.name) columns

-- columns have names, keys have names of objects, and there are at most 16 keys
pub record AreNamed (cols keys : List Column) : Type 0 where
  pub columns_named : All (λ col. HasNameLength col.name) cols
  pub keys_named : All (λ key. IsObjectName key.name) keys
  pub few_keys : length keys ≤ 16

abbrev pub are_named : List Column → List Column → Bool
are_named cols keys = list_all (λ col. has_name_length col.name) cols && list_all (λ key. is_object_name key.name) keys && nat_le (length keys) 16

-- no two of the names of columns and keys together are equal
abbrev pub AreApart : List Column → List Column → Type 0
AreApart cols keys = AllPairs (λ name other. name ≢ other) (names_of cols ++ names_of keys)

abbrev pub are_distinct : List (List ℕ) → Bool
are_distinct [] = true
are_distinct (name ∷ names) = not (list_any (bytes_eq name) names) && are_distinct names

-- a table may have these columns and these keys
pub record FitTogether (cols keys : List Column) : Type 0 where
  pub named : AreNamed cols keys
  pub apart : AreApart cols keys

abbrev pub do_fit_together : List Column → List Column → Bool
do_fit_together cols keys = are_named cols keys && are_distinct (names_of cols ++ names_of keys)
