-- Which partition a call means.
use Rattle.std.specs.Prelude.{ℕ, Bool, false, not, ◌&&◌, List, [], Option, None, Some, is_some, map, true}
use Rattle.std.specs.Cmp.Lexicographic.{pointwise}
use Rattle.std.specs.Str.{bytes_eq}
use Rattle.cat_objects.specs.Parts.{at_values}
use Rattle.cat_objects.specs.declared.held.HeldTable.{HeldTable}
use Rattle.cat_values.specs.declared.storage.Column.{Column}
use Rattle.part_names.specs.Making.{stored}
use Rattle.part_names.specs.Reading.{first_unreadable, keys_in, vals}
use Rattle.rulings.specs.declared.meant.Meant.TheVariants.{Name, Values}
use Rattle.rulings.specs.declared.meant.Meant.{Meant}
use Rattle.rulings.specs.declared.meant.StoredValues.TheVariants as stored_as
use Rattle.rulings.specs.declared.meant.StoredValues.{StoredValues}

-- a partition is meant by its values, or by its name
pub data Meaning : Type 0 where
  by_values : List (List ℕ) → Meaning
  by_name : List ℕ → Meaning

-- what the code means
abbrev pub meaning : Meant → Meaning
meaning (Values values) = by_values values.now
meaning (Name name) = by_name name.now

-- values as they are stored
abbrev pub stored_values : List (List ℕ) → List (List ℕ)
stored_values values = map stored values

-- values that are stored so, whether or not they were made for it
abbrev pub seen_values : StoredValues → List (List ℕ)
seen_values (stored_as.Same values) = values.now
seen_values (stored_as.Made values) = values

-- the keys of a table, and none of one that isn't there
abbrev pub table_keys : Option HeldTable → List Column
table_keys None = []
table_keys (Some held) = held.rec.keys

abbrev pub key_names : List Column → List (List ℕ)
key_names keys = map (λ key. key.name) keys

-- a partition's name can be read, and has these keys, in their order
abbrev pub spells_keys : List Column → List ℕ → Bool
spells_keys keys name = not (is_some (first_unreadable name)) && pointwise bytes_eq (keys_in name) (key_names keys)

-- the values of the partition that is meant, as they are stored
abbrev pub meant_values : Meaning → List (List ℕ)
meant_values (by_values values) = stored_values values
meant_values (by_name name) = vals name

-- what is meant can be one of a table with these keys: values always, and a name where it spells these keys
abbrev pub may_mean : List Column → Meaning → Bool
may_mean keys (by_values values) = true
may_mean keys (by_name name) = spells_keys keys name

-- the partition that is meant is there
abbrev pub holds_meant : Option HeldTable → Meaning → Bool
holds_meant None meant = false
holds_meant (Some held) meant = may_mean held.rec.keys meant && is_some (at_values (meant_values meant) held.parts)
