-- What holds of the names that are made and of what is read from them.
use Rattle.std.specs.Prelude.{◌≡◌, ℕ, List, length, map, All, None}
use Rattle.std.specs.Str.{str_to_ascii_lowercase}
use Rattle.cat_values.specs.Names.{IsObjectName}
use Rattle.part_names.specs.Making.{part_name, stored}
use Rattle.part_names.specs.Reading.{first_unreadable, keys_in, vals}

-- a name that is made can be read, and gives its values back, the empty ones as the value that stands
-- for them, and its keys in lower case
abbrev pub NamesReadBack : Type 0
NamesReadBack = (keys values : List (List ℕ)) → length keys ≡ length values → All IsObjectName keys →
    (first_unreadable (part_name keys values) ≡ None) × (vals (part_name keys values) ≡ map stored values)
    × (keys_in (part_name keys values) ≡ map str_to_ascii_lowercase keys)

-- equal names are names of equal values, the empty ones taken as the value that stands for them
abbrev pub NamesDiffer : Type 0
NamesDiffer = (keys keys' values values' : List (List ℕ)) → length keys ≡ length values → length keys' ≡ length values' →
    All IsObjectName keys → All IsObjectName keys' → part_name keys values ≡ part_name keys' values' → map stored values ≡ map stored values'
