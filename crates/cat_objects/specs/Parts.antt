-- The partitions of a table.
use Rattle.std.specs.Prelude.{ℕ, Bool, List, Option, None, Some, is_some, filter, if◌then◌else◌}
use Rattle.std.specs.BTreeMap.{insert_entry, is_at}
use Rattle.std.specs.Cmp.Lexicographic.{slice_cmp}
use Rattle.std.specs.Map.{lookup, remove_entry, set_value}
use Rattle.std.specs.Ordering.{is_le, is_lt, nat_cmp}
use Rattle.cat_values.specs.Maps as maps
use Rattle.cat_values.specs.declared.records.PartRec.{PartRec}

-- partitions, each at its values
abbrev pub PartList : Type 0
PartList = List (List (List ℕ) × PartRec)

-- whether a list of values is this one
abbrev pub are_values : List (List ℕ) → List (List ℕ) → Bool
are_values values other = is_at (slice_cmp (slice_cmp nat_cmp) values) other

-- the partition with these values
abbrev pub at_values : List (List ℕ) → PartList → Option PartRec
at_values values parts = lookup (are_values values) parts

-- partitions with this one: in the place of the one that is there, or else as one of its own, so that values still rise
abbrev pub put_part : List (List ℕ) → PartRec → PartList → PartList
put_part values rec parts = if is_some (at_values values parts) then set_value (are_values values) parts rec else insert_entry (slice_cmp (slice_cmp nat_cmp)) parts values rec

-- partitions without the one with these values
abbrev pub without_part : List (List ℕ) → PartList → PartList
without_part values parts = remove_entry (are_values values) parts

-- partitions of which this one has other values and this record
abbrev pub moved_part : List (List ℕ) → List (List ℕ) → PartRec → PartList → PartList
moved_part values to rec parts = without_part values (put_part to rec parts)

-- the first partition whose values are above these, or the first of all
abbrev pub first_after : Option (List (List ℕ)) → PartList → Option (List (List ℕ) × PartRec)
first_after after parts = maps.first_after (slice_cmp (slice_cmp nat_cmp)) after parts

-- the partitions whose values are above these, or all of them
abbrev pub parts_above : Option (List (List ℕ)) → PartList → PartList
parts_above None parts = parts
parts_above (Some values) parts = filter (λ entry. is_lt (slice_cmp (slice_cmp nat_cmp) values entry.0)) parts

-- the partitions whose values aren't below these
abbrev pub parts_from : List (List ℕ) → PartList → PartList
parts_from values parts = filter (λ entry. is_le (slice_cmp (slice_cmp nat_cmp) values entry.0)) parts
