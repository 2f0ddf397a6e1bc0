-- How a change is done on a catalogue, and which changes it can take.
use Rattle.std.specs.Prelude.{ℕ, ◌==◌, nat_le, Bool, true, false, not, ◌&&◌, ◌||◌, List, [], ◌∷◌, length, Option, None, Some, if◌then◌else◌}
use Rattle.std.specs.List.{list_all}
use Rattle.std.specs.Map.{remove_entry, set_value}
use Rattle.cat_rules.specs.Tables.{do_fit_together}
use Rattle.cat_types.specs.declared.changes.Change.{Change}
use Rattle.cat_types.specs.declared.changes.EventKind.{EventKind}
use Rattle.cat_types.specs.declared.changes.EventKind.TheVariants as kind
use Rattle.cat_types.specs.declared.changes.Op.{Op}
use Rattle.cat_types.specs.declared.changes.Op.TheVariants.{DropDb, DropPart, DropTable, MovePart, MoveTable, PutDb, PutPart, PutTable}
use Rattle.cat_values.specs.Names.{is_object_name}
use Rattle.cat_values.specs.declared.records.DbRec.{DbRec}
use Rattle.cat_values.specs.declared.records.PartRec.{PartRec}
use Rattle.cat_values.specs.declared.records.TableRec.{TableRec}
use Rattle.cat_objects.specs.Catalogue.{Catalogue, at_name, database, has_database, has_part, has_table, is_name, parts_of, put_at, table}
use Rattle.cat_objects.specs.Parts.{PartList, are_values, moved_part, put_part, without_part}
use Rattle.cat_objects.specs.declared.held.HeldDb.{HeldDb}
use Rattle.cat_objects.specs.declared.held.HeldTable.{HeldTable}
use Rattle.cat_objects.specs.declared.parts.PartPut.{PartPut}
use Rattle.cat_objects.specs.declared.placing.Placed.{Placed}
use Rattle.cat_objects.specs.declared.placing.Placed.TheVariants as placed

-- ---- doing operations

-- a database with this record: one that is there keeps its born and its tables, and one that isn't is made with this born
abbrev pub with_record : ℕ → DbRec → Option HeldDb → HeldDb
with_record born rec None = record { born = born; rec = rec; tables = [] }
with_record born rec (Some held) = record { born = held.born; rec = rec; tables = held.tables }

-- a database with these tables
abbrev pub with_tables : List (List ℕ × HeldTable) → HeldDb → HeldDb
with_tables tables held = record { born = held.born; rec = held.rec; tables = tables }

-- the tables of a database, where it is there, after they were changed so
abbrev pub changed_in : Option HeldDb → List ℕ → (List (List ℕ × HeldTable) → List (List ℕ × HeldTable)) → Catalogue → Catalogue
changed_in None db change cat = cat
changed_in (Some held) db change cat = record { databases = set_value (is_name db) cat.databases (with_tables (change held.tables) held) }

-- a catalogue after the tables of the database with this name were changed so
abbrev pub changed_tables : List ℕ → (List (List ℕ × HeldTable) → List (List ℕ × HeldTable)) → Catalogue → Catalogue
changed_tables db change cat = changed_in (database cat db) db change cat

-- tables with this one; one that is there keeps its partitions, and a new one has none
abbrev pub put_table : List ℕ → ℕ → TableRec → List (List ℕ × HeldTable) → List (List ℕ × HeldTable)
put_table name born rec tables = put_at name (record { born = born; rec = rec; parts = parts_of (at_name name tables) }) tables

-- tables without the one with this name
abbrev pub without_table : List ℕ → List (List ℕ × HeldTable) → List (List ℕ × HeldTable)
without_table name tables = remove_entry (is_name name) tables

-- tables of which this one has another name and record, and keeps its partitions
abbrev pub moved_table : List ℕ → List ℕ → ℕ → TableRec → List (List ℕ × HeldTable) → List (List ℕ × HeldTable)
moved_table name to born rec tables = without_table name (put_at to (record { born = born; rec = rec; parts = parts_of (at_name name tables) }) tables)

-- entries after what stands at a key was changed so; where nothing stands there, they stay
abbrev pub changed_value : {K X : Type 0} → (K → Bool) → (X → X) → List (K × X) → List (K × X)
changed_value test change [] = []
changed_value test change (entry ∷ entries) = if test entry.0 then (entry.0, change entry.1) ∷ entries else entry ∷ changed_value test change entries

-- a table with these partitions
abbrev pub with_parts : PartList → HeldTable → HeldTable
with_parts parts held = record { born = held.born; rec = held.rec; parts = parts }

-- tables after the partitions of this one, where it is there, were changed so
abbrev pub changed_parts : List ℕ → (PartList → PartList) → List (List ℕ × HeldTable) → List (List ℕ × HeldTable)
changed_parts name change tables = changed_value (is_name name) (λ held. with_parts (change held.parts) held) tables

-- an operation on the database with this name and born; what it drops, moves or stands under may be absent, and then nothing changes but for what it moves to
abbrev pub done_op : List ℕ → ℕ → Catalogue → Op → Catalogue
done_op name born cat (PutDb rec) = record { databases = put_at name (with_record born rec (database cat name)) cat.databases }
done_op name born cat DropDb = record { databases = remove_entry (is_name name) cat.databases }
done_op name born cat (PutTable table at rec) = changed_tables name (put_table table at rec) cat
done_op name born cat (DropTable table at) = changed_tables name (without_table table) cat
done_op name born cat (MoveTable table at to rec) = changed_tables name (moved_table table to at rec) cat
done_op name born cat (PutPart table at values rec) = changed_tables name (changed_parts table (put_part values rec)) cat
done_op name born cat (DropPart table at values) = changed_tables name (changed_parts table (without_part values)) cat
done_op name born cat (MovePart table at values to rec) = changed_tables name (changed_parts table (moved_part values to rec)) cat

-- operations, one after the other
abbrev pub done_ops : List ℕ → ℕ → Catalogue → List Op → Catalogue
done_ops name born cat [] = cat
done_ops name born cat (op ∷ ops) = done_ops name born (done_op name born cat op) ops

-- the catalogue with a change done
abbrev pub done : Change → Catalogue → Catalogue
done change cat = done_ops change.db change.db_born cat change.ops

abbrev pub are_some : List Op → Bool
are_some [] = false
are_some (op ∷ ops) = true

-- whether a change has an operation, so that an event keeps it
abbrev pub has_operation : Change → Bool
has_operation change = are_some change.ops

-- ---- which changes can be taken

-- whether there is a database with this born
abbrev pub is_born : ℕ → Option HeldDb → Bool
is_born born None = false
is_born born (Some held) = held.born == born

-- whether there is a table with this born
abbrev pub is_table_born : ℕ → Option HeldTable → Bool
is_table_born born None = false
is_table_born born (Some held) = held.born == born

-- whether a record may be put over a table: one that is there has this born and as many keys
abbrev pub fits_over : ℕ → TableRec → Option HeldTable → Bool
fits_over born rec None = true
fits_over born rec (Some held) = (held.born == born) && (length held.rec.keys == length rec.keys)

-- whether a table may have this name and this record
abbrev pub is_lawful_table : List ℕ → TableRec → Bool
is_lawful_table name rec = is_object_name name && do_fit_together rec.sd.cols rec.keys

-- whether a partition may have this value: at most 4,000 bytes, and no U+0000
abbrev pub is_valid_value : List ℕ → Bool
is_valid_value value = nat_le (length value) 4000 && list_all (λ byte. not (byte == 0)) value

-- whether a table can have a partition with these values: it is there with this born and has a key, and the values are valid and as many as its keys
abbrev pub can_hold : ℕ → List (List ℕ) → Option HeldTable → Bool
can_hold born values None = false
can_hold born values (Some held) = (held.born == born) && (nat_le 1 (length held.rec.keys) && ((length values == length held.rec.keys) && list_all is_valid_value values))

-- whether an operation of a database that stays can be done on it: what it drops, moves or stands under is there with its born, what it puts or moves is lawful, and what it moves to is free
abbrev pub fits_op : Catalogue → List ℕ → Op → Bool
fits_op cat db (PutDb rec) = true
fits_op cat db DropDb = false
fits_op cat db (PutTable name born rec) = is_lawful_table name rec && fits_over born rec (table cat db name)
fits_op cat db (DropTable name born) = is_table_born born (table cat db name)
fits_op cat db (MoveTable name born to rec) = is_table_born born (table cat db name) && (fits_over born rec (table cat db name) && (is_lawful_table to rec && not (has_table cat db to)))
fits_op cat db (PutPart name born values rec) = can_hold born values (table cat db name)
fits_op cat db (DropPart name born values) = is_table_born born (table cat db name) && has_part cat db name values
fits_op cat db (MovePart name born values to rec) = can_hold born to (table cat db name) && (has_part cat db name values && not (has_part cat db name to))

-- whether operations can be done, each after those before it
abbrev pub fits_ops : Catalogue → List ℕ → ℕ → List Op → Bool
fits_ops cat db born [] = true
fits_ops cat db born (op ∷ ops) = fits_op cat db op && fits_ops (done_op db born cat op) db born ops

-- whether an operation gives a database a record
abbrev pub is_put_db : Op → Bool
is_put_db (PutDb rec) = true
is_put_db DropDb = false
is_put_db (PutTable table at rec) = false
is_put_db (DropTable table at) = false
is_put_db (MoveTable table at to rec) = false
is_put_db (PutPart table at values rec) = false
is_put_db (DropPart table at values) = false
is_put_db (MovePart table at values to rec) = false

-- whether an operation drops a database
abbrev pub is_drop_db : Op → Bool
is_drop_db (PutDb rec) = false
is_drop_db DropDb = true
is_drop_db (PutTable table at rec) = false
is_drop_db (DropTable table at) = false
is_drop_db (MoveTable table at to rec) = false
is_drop_db (PutPart table at values rec) = false
is_drop_db (DropPart table at values) = false
is_drop_db (MovePart table at values to rec) = false

-- whether there is one operation alone, and it passes a test
abbrev pub is_one : (Op → Bool) → List Op → Bool
is_one test [] = false
is_one test (op ∷ ops) = test op && not (are_some ops)

-- whether a catalogue can take a change that makes a database as the event with this number: its name is lawful and free, it is born by that event, and its one operation gives it a record
abbrev pub fits_creation : Catalogue → ℕ → Change → Bool
fits_creation cat id change = is_object_name change.db && (not (has_database cat change.db) && ((change.db_born == id) && is_one is_put_db change.ops))

-- whether a catalogue can take a change that drops a database: it is there with its born, and the one operation drops it
abbrev pub fits_drop : Catalogue → Change → Bool
fits_drop cat change = is_born change.db_born (database cat change.db) && is_one is_drop_db change.ops

-- whether a catalogue can take another change: its database is there with its born, and its operations can be done
abbrev pub fits_database : Catalogue → Change → Bool
fits_database cat change = is_born change.db_born (database cat change.db) && fits_ops cat change.db change.db_born change.ops

-- the same by the kind of the event
abbrev pub fits_kind : EventKind → Catalogue → ℕ → Change → Bool
fits_kind kind.CreateDatabase cat id change = fits_creation cat id change
fits_kind kind.AlterDatabase cat id change = fits_database cat change
fits_kind kind.DropDatabase cat id change = fits_drop cat change
fits_kind kind.CreateTable cat id change = fits_database cat change
fits_kind kind.AlterTable cat id change = fits_database cat change
fits_kind kind.DropTable cat id change = fits_database cat change
fits_kind kind.AddPartition cat id change = fits_database cat change
fits_kind kind.AlterPartition cat id change = fits_database cat change
fits_kind kind.DropPartition cat id change = fits_database cat change

-- whether a catalogue can take a change as the event with this number, which is one that an event may have
abbrev pub takes_change : Catalogue → ℕ → Change → Bool
takes_change cat id change = nat_le id 9223372036854775807 && fits_kind change.kind cat id change

-- whether an operation is one of a single change, whatever it is
abbrev pub is_any : Op → Bool
is_any op = true

-- whether an operation puts a partition under this table
abbrev pub puts_under : List ℕ → Op → Bool
puts_under name (PutDb rec) = false
puts_under name DropDb = false
puts_under name (PutTable table at rec) = false
puts_under name (DropTable table at) = false
puts_under name (MoveTable table at to rec) = false
puts_under name (PutPart table at values rec) = is_name name table
puts_under name (DropPart table at values) = false
puts_under name (MovePart table at values to rec) = false

-- whether operations put partitions, all under one table
abbrev pub are_puts : List Op → Bool
are_puts [] = false
are_puts (PutDb rec ∷ ops) = false
are_puts (DropDb ∷ ops) = false
are_puts (PutTable table at rec ∷ ops) = false
are_puts (DropTable table at ∷ ops) = false
are_puts (MoveTable table at to rec ∷ ops) = false
are_puts (PutPart table at values rec ∷ ops) = list_all (puts_under table) ops
are_puts (DropPart table at values ∷ ops) = false
are_puts (MovePart table at values to rec ∷ ops) = false

-- whether a catalogue can take a change that a call makes as the event with this number: it has one operation alone, or puts partitions, all under one table
abbrev pub takes_call : Catalogue → ℕ → Change → Bool
takes_call cat id change = takes_change cat id change && (is_one is_any change.ops || are_puts change.ops)

-- ---- a change in two steps

-- tables of which this one is gone, and the one that it moved to has its partitions
abbrev pub settled_move : List ℕ → List ℕ → List (List ℕ × HeldTable) → List (List ℕ × HeldTable)
settled_move name to tables = without_table name (changed_parts to (λ parts. parts_of (at_name name tables)) tables)

-- the catalogue in which all of a placed change is done: what it drops, or moved from, is gone
abbrev pub settled : Placed → Catalogue → Catalogue
settled (placed.DatabaseMade db) cat = cat
settled (placed.DatabaseAltered db before) cat = cat
settled (placed.DatabaseDropped db) cat = record { databases = remove_entry (is_name db) cat.databases }
settled (placed.TableMade db table) cat = cat
settled (placed.TableAltered db table born before) cat = cat
settled (placed.TableDropped db table) cat = changed_tables db (without_table table) cat
settled (placed.TableMoved db table to) cat = changed_tables db (settled_move table to) cat
settled (placed.PartsPut db table puts) cat = cat
settled (placed.PartDropped db table values) cat = changed_tables db (changed_parts table (without_part values)) cat
settled (placed.PartMoved db table values to) cat = changed_tables db (changed_parts table (without_part values)) cat

-- a database with this record in place of its own, where it is there
abbrev pub with_old_record : Option HeldDb → List ℕ → DbRec → Catalogue → Catalogue
with_old_record None db before cat = cat
with_old_record (Some held) db before cat = record { databases = set_value (is_name db) cat.databases (record { born = held.born; rec = before; tables = held.tables }) }

-- a table with this born and record, which keeps its partitions
abbrev pub with_table_record : ℕ → TableRec → HeldTable → HeldTable
with_table_record born rec held = record { born = born; rec = rec; parts = held.parts }

-- tables of which this one, where it is there, has this born and record
abbrev pub with_old_table : List ℕ → ℕ → TableRec → List (List ℕ × HeldTable) → List (List ℕ × HeldTable)
with_old_table name born before tables = changed_value (is_name name) (with_table_record born before) tables

-- partitions as they were before one was put: with the record that stood at its values, or without it
abbrev pub unput_by : Option PartRec → List (List ℕ) → PartList → PartList
unput_by None values parts = without_part values parts
unput_by (Some before) values parts = set_value (are_values values) parts before

-- partitions as they were before some were put: the last one is taken back first
abbrev pub unput : List PartPut → PartList → PartList
unput [] parts = parts
unput (put ∷ puts) parts = unput_by put.before put.values (unput puts parts)

-- the catalogue as it was before a change was placed: what was made is gone, and what was altered has its old record
abbrev pub taken_back : Placed → Catalogue → Catalogue
taken_back (placed.DatabaseMade db) cat = record { databases = remove_entry (is_name db) cat.databases }
taken_back (placed.DatabaseAltered db before) cat = with_old_record (database cat db) db before cat
taken_back (placed.DatabaseDropped db) cat = cat
taken_back (placed.TableMade db table) cat = changed_tables db (without_table table) cat
taken_back (placed.TableAltered db table born before) cat = changed_tables db (with_old_table table born before) cat
taken_back (placed.TableDropped db table) cat = cat
taken_back (placed.TableMoved db table to) cat = changed_tables db (without_table to) cat
taken_back (placed.PartsPut db table puts) cat = changed_tables db (changed_parts table (unput puts.items)) cat
taken_back (placed.PartDropped db table values) cat = cat
taken_back (placed.PartMoved db table values to) cat = changed_tables db (changed_parts table (without_part to)) cat
