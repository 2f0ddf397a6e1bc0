-- What the steps leave by which a change is placed, or done again.
use Rattle.std.specs.Prelude.{◌≡◌, ℕ, Bool, true, false, not, List, [], ◌∷◌, Option, None, Some, Result, Ok, Err}
use Rattle.std.specs.BTreeMap.{insert_entry}
use Rattle.std.specs.Cmp.Lexicographic.{slice_cmp}
use Rattle.std.specs.Ordering.{nat_cmp}
use Rattle.cat_types.specs.declared.changes.Op.{Op}
use Rattle.cat_types.specs.declared.changes.Op.TheVariants.{DropDb, DropPart, DropTable, MovePart, MoveTable, PutDb, PutPart, PutTable}
use Rattle.cat_values.specs.declared.records.DbRec.{DbRec}
use Rattle.cat_objects.specs.Catalogue.{Catalogue, has_part, has_table}
use Rattle.cat_objects.specs.Changes.{settled, taken_back}
use Rattle.cat_objects.specs.Parts.{PartList, put_part}
use Rattle.cat_objects.specs.declared.placing.Placed.{Placed}

-- what was placed, settled, gives the catalogue that is wanted, and taken back gives the one before; without memory the catalogue is the one before
abbrev pub Places : {E : Type 0} → Result Placed E → Catalogue → Catalogue → Catalogue → Type 0
Places (Ok placed) after wanted before = (settled placed after ≡ wanted) × (taken_back placed after ≡ before)
Places (Err e) after wanted before = after ≡ before

-- whether an operation can be placed by itself: what it moves to is free, and it puts no partition
abbrev pub is_placeable : Catalogue → List ℕ → Op → Bool
is_placeable cat db (PutDb rec) = true
is_placeable cat db DropDb = true
is_placeable cat db (PutTable name born rec) = true
is_placeable cat db (DropTable name born) = true
is_placeable cat db (MoveTable name born to rec) = not (has_table cat db to)
is_placeable cat db (PutPart name born values rec) = false
is_placeable cat db (DropPart name born values) = true
is_placeable cat db (MovePart name born values to rec) = not (has_part cat db name to)

-- the table under which the first of operations puts a partition, where it does
abbrev pub table_of_puts : List Op → Option (List ℕ)
table_of_puts [] = None
table_of_puts (PutDb rec ∷ ops) = None
table_of_puts (DropDb ∷ ops) = None
table_of_puts (PutTable table at rec ∷ ops) = None
table_of_puts (DropTable table at ∷ ops) = None
table_of_puts (MoveTable table at to rec ∷ ops) = None
table_of_puts (PutPart table at values rec ∷ ops) = Some table
table_of_puts (DropPart table at values ∷ ops) = None
table_of_puts (MovePart table at values to rec ∷ ops) = None

-- partitions with those that an operation puts
abbrev pub put_by : Op → PartList → PartList
put_by (PutDb rec) parts = parts
put_by DropDb parts = parts
put_by (PutTable table at rec) parts = parts
put_by (DropTable table at) parts = parts
put_by (MoveTable table at to rec) parts = parts
put_by (PutPart table at values rec) parts = put_part values rec parts
put_by (DropPart table at values) parts = parts
put_by (MovePart table at values to rec) parts = parts

-- partitions with those that operations put, one after the other
abbrev pub put_all : List Op → PartList → PartList
put_all [] parts = parts
put_all (op ∷ ops) parts = put_all ops (put_by op parts)

-- a catalogue with a database that wasn't there
abbrev pub with_new : Catalogue → List ℕ → ℕ → DbRec → Catalogue
with_new cat name born rec = record { databases = insert_entry (slice_cmp nat_cmp) cat.databases name (record { born = born; rec = rec; tables = [] }) }

-- an answer is whether operations could be done, and where it is yes the catalogue is the one that is wanted
abbrev pub Redoes : Bool → Catalogue → Bool → Catalogue → Type 0
Redoes taken after fits wanted = (taken ≡ fits) × (taken ≡ true → after ≡ wanted)
