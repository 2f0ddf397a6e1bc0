-- The calls that read partitions.
use Rattle.std.specs.Prelude.{ℕ, nat_lt, Bool, false, not, ◌&&◌, List, [], ◌∷◌, length, Option, None, Some, is_some, filter, if◌then◌else◌, map, true, fold, ℤ}
use Rattle.std.specs.BTreeSet.{insert_key}
use Rattle.std.specs.Cmp.Lexicographic.{slice_cmp}
use Rattle.std.specs.Ordering.{nat_cmp}
use Rattle.std.specs.Str.{bytes_eq}
use Rattle.cat_objects.specs.Catalogue.{Catalogue, has_table, table, part, parts_of}
use Rattle.cat_objects.specs.Parts.{PartList, at_values}
use Rattle.cat_objects.specs.declared.held.HeldTable.{HeldTable}
use Rattle.cat_types.specs.declared.named.NamedPart.{NamedPart}
use Rattle.cat_types.specs.declared.replies.Reply.TheVariants.{Nothing, Names, Parts}
use Rattle.cat_types.specs.declared.replies.Reply.{Reply}
use Rattle.cat_values.specs.declared.records.PartRec.{PartRec}
use Rattle.cat_values.specs.declared.storage.Column.{Column}
use Rattle.part_names.specs.Making.{part_name}
use Rattle.part_names.specs.Reading.{vals}
use Rattle.rulings.specs.Listed.{named_part, first_of, all_named}
use Rattle.rulings.specs.Meant.{Meaning, table_keys, key_names, spells_keys, meant_values, holds_meant}
use Rattle.rulings.specs.Rules.{Rule}
use Rattle.rulings.specs.declared.refusal.Refusal.TheVariants.{InvalidRequest, NoSuchObject}

-- ---- reading one

-- a partition that is asked for is there
abbrev pub get_partition_rules : Catalogue → List ℕ → List ℕ → Meaning → List Rule
get_partition_rules cat db name meant = (not (holds_meant (table cat db name) meant), NoSuchObject) ∷ []

-- the one partition that was asked for, where it is there
abbrev pub part_as : Option PartRec → List ℕ → List ℕ → List (List ℕ) → Reply
part_as None db name values = Nothing
part_as (Some rec) db name values = Parts (named_part db name values rec ∷ [])

abbrev pub meant_as : Catalogue → List ℕ → List ℕ → Meaning → Reply
meant_as cat db name meant = part_as (part cat db name (meant_values meant)) db name (meant_values meant)

-- ---- listing

-- a table whose partitions are listed is there
abbrev pub list_partitions_rules : Catalogue → List ℕ → List ℕ → List Rule
list_partitions_rules cat db name = (not (has_table cat db name), NoSuchObject) ∷ []

-- and where values are asked for, they aren't more than its keys
abbrev pub list_fitting_rules : Catalogue → List ℕ → List ℕ → List (List ℕ) → List Rule
list_fitting_rules cat db name wanted =
    (not (has_table cat db name), NoSuchObject) ∷ (nat_lt (length (table_keys (table cat db name))) (length wanted), InvalidRequest) ∷ []

-- an empty text fits any value, and another one itself alone
abbrev pub fits_value : List ℕ → List ℕ → Bool
fits_value [] value = true
fits_value (byte ∷ bytes) value = bytes_eq (byte ∷ bytes) value

-- values begin with those that are wanted; where none are wanted, all do
abbrev pub begin_with : List (List ℕ) → List (List ℕ) → Bool
begin_with [] values = true
begin_with (wanted ∷ more) [] = false
begin_with (wanted ∷ more) (value ∷ values) = fits_value wanted value && begin_with more values

-- the values that are wanted before the first one that any value fits
abbrev pub leading : List (List ℕ) → List (List ℕ)
leading [] = []
leading ([] ∷ more) = []
leading ((byte ∷ bytes) ∷ more) = (byte ∷ bytes) ∷ leading more

-- the first `max` partitions whose values begin with those that are wanted
abbrev pub listed : List (List ℕ) → ℤ → PartList → PartList
listed wanted max parts = first_of max (filter (λ p. begin_with wanted p.0) parts)

-- partitions' own names, of these keys and their values
abbrev pub own_names : List Column → PartList → List (List ℕ)
own_names keys parts = map (λ part. part_name (key_names keys) part.0) parts

-- the partitions that are listed, in the order of their values
abbrev pub parts_listed : Catalogue → List ℕ → List ℕ → List (List ℕ) → ℤ → Reply
parts_listed cat db name wanted max = Parts (all_named db name (listed wanted max (parts_of (table cat db name))))

-- their names
abbrev pub names_listed : Catalogue → List ℕ → List ℕ → List (List ℕ) → ℤ → Reply
names_listed cat db name wanted max = Names (own_names (table_keys (table cat db name)) (listed wanted max (parts_of (table cat db name))))

-- ---- reading those that are named

-- a name names a partition that is there
abbrev pub names_part : Option HeldTable → List ℕ → Bool
names_part held name = spells_keys (table_keys held) name && is_some (at_values (vals name) (parts_of held))

-- values that rise, with those of the partition that a name names, where it is there
abbrev pub with_named : Option HeldTable → List (List (List ℕ)) → List ℕ → List (List (List ℕ))
with_named held found name = if names_part held name then insert_key (slice_cmp (slice_cmp nat_cmp)) found (vals name) else found

-- one partition more, where it is there
abbrev pub part_then : Option PartRec → List ℕ → List ℕ → List (List ℕ) → List NamedPart → List NamedPart
part_then None db name values parts = parts
part_then (Some rec) db name values parts = named_part db name values rec ∷ parts

-- those with these values that there are, in their order
abbrev pub parts_there : PartList → List ℕ → List ℕ → List (List (List ℕ)) → List NamedPart
parts_there held db name [] = []
parts_there held db name (values ∷ more) = part_then (at_values values held) db name values (parts_there held db name more)

-- those of a table, each once, in the order of their values
abbrev pub named_of : Option HeldTable → List ℕ → List ℕ → List (List ℕ) → List NamedPart
named_of held db name names = parts_there (parts_of held) db name (fold (with_named held) [] names)

-- the partitions that are named and there
abbrev pub parts_named : Catalogue → List ℕ → List ℕ → List (List ℕ) → List NamedPart
parts_named cat db name names = named_of (table cat db name) db name names
