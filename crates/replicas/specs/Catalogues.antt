-- The objects of a database in the catalogue, and what is asked of an operation alone.
use Rattle.std.specs.Prelude.{ℕ, Bool, true, ◌&&◌, Option}
use Rattle.std.specs.Cmp.Lexicographic.{slice_cmp}
use Rattle.std.specs.List.{list_all}
use Rattle.std.specs.List.Sorted.{IsStrictlySortedBy}
use Rattle.std.specs.Map.{keys_of}
use Rattle.std.specs.Option.{option_map}
use Rattle.std.specs.Ordering.{nat_cmp}
use Rattle.cat_objects.specs.Catalogue.{Catalogue, at_name, database, parts_of, table, tables_of}
use Rattle.cat_objects.specs.Changes.{is_lawful_table, is_valid_value}
use Rattle.cat_objects.specs.Parts.{at_values}
use Rattle.cat_objects.specs.declared.held.HeldDb.{HeldDb}
use Rattle.cat_objects.specs.declared.held.HeldTable.{HeldTable}
use Rattle.cat_types.specs.declared.changes.Op.{Op}
use Rattle.cat_types.specs.declared.changes.Op.TheVariants.{DropDb, DropPart, DropTable, MovePart, MoveTable, PutDb, PutPart, PutTable}
use Rattle.cat_values.specs.Names.{is_object_name}
use Rattle.cat_values.specs.declared.records.DbRec.{DbRec}
use Rattle.replicas.specs.Objects.{Name, Table, Objects}

-- ---- objects

-- a database's born and record
abbrev pub shown_db : HeldDb → ℕ × DbRec
shown_db held = (held.born, held.rec)

-- a table's born and record
abbrev pub shown_table : HeldTable → Table
shown_table held = (held.born, held.rec)

-- the objects of a database that may be there
abbrev pub objects_in : Option HeldDb → Objects
objects_in found = record { db = option_map shown_db found; tab = λ n. option_map shown_table (at_name n (tables_of found)); par = λ n v. at_values v (parts_of (at_name n (tables_of found))) }

-- the objects of the database with this name
abbrev pub objects_of : Name → Catalogue → Objects
objects_of w cat = objects_in (database cat w)

-- ---- one operation alone

-- whether an operation keeps the rules that ask nothing of a catalogue: its tables have object names, the columns and keys of what it puts or moves fit together, and partition values that it puts or moves to are valid
abbrev pub is_sound : Op → Bool
is_sound (PutDb rec) = true
is_sound DropDb = true
is_sound (PutTable n b rec) = is_lawful_table n rec
is_sound (DropTable n b) = is_object_name n
is_sound (MoveTable n b to rec) = is_object_name n && is_lawful_table to rec
is_sound (PutPart n b v rec) = is_object_name n && list_all is_valid_value v
is_sound (DropPart n b v) = is_object_name n
is_sound (MovePart n b v to rec) = is_object_name n && list_all is_valid_value to

-- ---- what holds of catalogues

-- names of databases rise by their bytes, names of tables in each database do, and values of partitions under each table by their texts
pub record IsInOrder (cat : Catalogue) : Type 0 where
  pub names : IsStrictlySortedBy (slice_cmp nat_cmp) (keys_of cat.databases)
  pub tables : (w : Name) → IsStrictlySortedBy (slice_cmp nat_cmp) (keys_of (tables_of (database cat w)))
  pub parts : (w n : Name) → IsStrictlySortedBy (slice_cmp (slice_cmp nat_cmp)) (keys_of (parts_of (table cat w n)))
