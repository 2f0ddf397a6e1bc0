-- Partitions as they are told, and how many of them.
use Rattle.std.specs.Prelude.{ℕ, nat_le, Bool, false, List, map, take, ℤ, pos, negsuc}
use Rattle.cat_objects.specs.Parts.{PartList}
use Rattle.cat_types.specs.declared.named.NamedPart.{NamedPart}
use Rattle.cat_values.specs.declared.records.PartRec.{PartRec}

-- a partition with its names and values
abbrev pub named_part : List ℕ → List ℕ → List (List ℕ) → PartRec → NamedPart
named_part db name values rec = record { db = db; table = name; values = values; rec = rec }

-- partitions with their names
abbrev pub all_named : List ℕ → List ℕ → PartList → List NamedPart
all_named db name parts = map (λ part. named_part db name part.0 part.1) parts

-- the first so many; all where the number is negative
abbrev pub first_of : {X : Type 0} → ℤ → List X → List X
first_of (pos count) xs = take count xs
first_of (negsuc n) xs = xs

-- so many are as many as are wanted
abbrev pub has_reached : ℤ → ℕ → Bool
has_reached (pos max) count = nat_le max count
has_reached (negsuc n) count = false
