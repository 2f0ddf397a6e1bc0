-- What is seen of tables and partitions while operations that drop no database are gone through.
use Rattle.std.specs.Prelude.{ℕ, ◌==◌, nat_le, Bool, true, false, ◌&&◌, List, [], ◌∷◌, length, Option, None, Some, is_some, if◌then◌else◌}
use Rattle.std.specs.List.{list_all}
use Rattle.std.specs.Option.{option_map}
use Rattle.cat_types.specs.declared.changes.Op.{Op}
use Rattle.cat_types.specs.declared.changes.Op.TheVariants.{DropDb, DropPart, DropTable, MovePart, MoveTable, PutDb, PutPart, PutTable}
use Rattle.cat_values.specs.declared.records.TableRec.{TableRec}
use Rattle.cat_objects.specs.Catalogue.{at_name, is_name, tables_of}
use Rattle.cat_objects.specs.Changes.{is_put_db, is_valid_value}
use Rattle.cat_objects.specs.Parts.{are_values}
use Rattle.cat_objects.specs.declared.following.Touch.{Touch}
use Rattle.cat_objects.specs.declared.following.Touch.TheVariants as touch
use Rattle.cat_objects.specs.declared.held.HeldDb.{HeldDb}
use Rattle.cat_objects.specs.declared.held.HeldTable.{HeldTable}
use Rattle.cat_objects.specs.declared.seen.Seen.{Seen}
use Rattle.cat_objects.specs.declared.seen.Shape.{Shape}

-- ---- tables

-- a table as its born and the number of its keys
abbrev pub shape_of : HeldTable → Shape
shape_of held = record { born = held.born; keys = length held.rec.keys }

-- a table that is made with this born and record
abbrev pub made_shape : ℕ → TableRec → Shape
made_shape born rec = record { born = born; keys = length rec.keys }

-- whether there is a database, and what stands at a name in it
abbrev pub seen_of : Option HeldDb → List ℕ → Seen
seen_of found name = record { there = is_some found; table = option_map shape_of (at_name name (tables_of found)) }

-- what stands at a name after an operation on a database that is there
abbrev pub table_after : List ℕ → Op → Option Shape → Option Shape
table_after name (PutDb rec) found = found
table_after name DropDb found = found
table_after name (PutTable table at rec) found = if is_name name table then Some (made_shape at rec) else found
table_after name (DropTable table at) found = if is_name name table then None else found
table_after name (MoveTable table at to rec) found = if is_name name table then None else if is_name name to then Some (made_shape at rec) else found
table_after name (PutPart table at values rec) found = found
table_after name (DropPart table at values) found = found
table_after name (MovePart table at values to rec) found = found

-- what is seen after an operation: a database that isn't there can only be made
abbrev pub seen_after : List ℕ → Op → Seen → Seen
seen_after name op seen = if seen.there then record { there = true; table = table_after name op seen.table } else record { there = is_put_db op; table = seen.table }

-- what is seen after operations
abbrev pub seen_after_all : List ℕ → List Op → Seen → Seen
seen_after_all name [] seen = seen
seen_after_all name (op ∷ ops) seen = seen_after_all name ops (seen_after name op seen)

-- whether a record may be put over a table of this shape
abbrev pub goes_over : ℕ → TableRec → Option Shape → Bool
goes_over born rec None = true
goes_over born rec (Some shape) = (shape.born == born) && (shape.keys == length rec.keys)

-- whether a table of this shape has as many keys as a record
abbrev pub has_keys_of : TableRec → Option Shape → Bool
has_keys_of rec None = true
has_keys_of rec (Some shape) = shape.keys == length rec.keys

-- whether a table of this shape can have a partition with these values
abbrev pub has_room : List (List ℕ) → Option Shape → Bool
has_room values None = false
has_room values (Some shape) = nat_le 1 shape.keys && ((length values == shape.keys) && list_all is_valid_value values)

-- ---- partitions

-- the name that the table at a name had before an operation; none where the operation took it away
abbrev pub name_before : List ℕ → Op → Option (List ℕ)
name_before name (PutDb rec) = Some name
name_before name DropDb = Some name
name_before name (PutTable table at rec) = Some name
name_before name (DropTable table at) = if is_name name table then None else Some name
name_before name (MoveTable table at to rec) = if is_name name table then None else if is_name name to then Some table else Some name
name_before name (PutPart table at values rec) = Some name
name_before name (DropPart table at values) = Some name
name_before name (MovePart table at values to rec) = Some name

-- what an operation does to the partition with these values under a name
abbrev pub touched : List ℕ → List (List ℕ) → Op → Touch
touched name values (PutDb rec) = touch.Nothing
touched name values DropDb = touch.Nothing
touched name values (PutTable table at rec) = touch.Nothing
touched name values (DropTable table at) = touch.Nothing
touched name values (MoveTable table at to rec) = touch.Nothing
touched name values (PutPart table at put rec) = if is_name name table then (if are_values values put then touch.Puts else touch.Nothing) else touch.Nothing
touched name values (DropPart table at dropped) = if is_name name table then (if are_values values dropped then touch.Takes else touch.Nothing) else touch.Nothing
touched name values (MovePart table at from to rec) = if is_name name table then (if are_values values from then touch.Takes else if are_values values to then touch.Puts else touch.Nothing) else touch.Nothing

abbrev pub puts : Touch → Bool
puts touch.Nothing = false
puts touch.Puts = true
puts touch.Takes = false

abbrev pub takes : Touch → Bool
takes touch.Nothing = false
takes touch.Puts = false
takes touch.Takes = true
