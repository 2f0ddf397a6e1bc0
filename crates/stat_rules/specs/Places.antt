-- Where columns stand in a list, by their names.
use Rattle.std.specs.Prelude.{◌≡◌, ℕ, List, Option, None, Some, slice_get, if◌then◌else◌}
use Rattle.std.specs.Str.{bytes_eq}
use Rattle.cat_values.specs.Columns.{column_named}
use Rattle.cat_values.specs.declared.storage.Column.{Column}
use Rattle.cat_objects.specs.Catalogue.{at_name}

-- the column at a place, where one was found
abbrev pub column_at : List Column → Option ℕ → Option Column
column_at cols None = None
column_at cols (Some at) = slice_get cols at

-- these places lead from each name to the first column with it
abbrev pub LeadTo : List (List ℕ × ℕ) → List Column → Type 0
LeadTo places cols = (name : List ℕ) → column_at cols (at_name name places) ≡ column_named cols name

-- the place of a name: the one that was found before, or else this one, where the column here has that name
abbrev pub placed_first : Option ℕ → List ℕ → ℕ → List ℕ → Option ℕ
placed_first (Some before) name at other = Some before
placed_first None name at other = if bytes_eq name other then Some at else None
