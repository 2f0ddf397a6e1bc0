-- Names that are handed in.
use Rattle.std.specs.Prelude.{ℕ, Bool, false, not, List, [], Option, None, Some}
use Rattle.std.specs.Str.{bytes_eq}
use Rattle.cat_objects.specs.Catalogue.{Catalogue, has_database, has_table}
use Rattle.cat_values.specs.Names.{is_object_name, lower}

-- a name is handed in, and is one that an object may have
abbrev pub is_named : Option (List ℕ) → Bool
is_named None = false
is_named (Some name) = is_object_name name

-- the name that was handed in, as it is kept
abbrev pub kept_name : Option (List ℕ) → List ℕ
kept_name None = []
kept_name (Some name) = lower name

-- a name is handed in, and it isn't this one
abbrev pub names_another : Option (List ℕ) → List ℕ → Bool
names_another None name = false
names_another (Some other) name = not (bytes_eq (lower other) name)

-- a database is named, and it is there
abbrev pub names_database : Catalogue → Option (List ℕ) → Bool
names_database cat None = false
names_database cat (Some name) = has_database cat (lower name)

-- both names are handed in, and there is such a table
abbrev pub names_table : Catalogue → Option (List ℕ) → Option (List ℕ) → Bool
names_table cat None name = false
names_table cat (Some db) None = false
names_table cat (Some db) (Some name) = has_table cat (lower db) (lower name)
