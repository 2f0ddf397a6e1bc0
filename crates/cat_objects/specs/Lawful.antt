-- Which operations are lawful, and which find what they need.
use Rattle.std.specs.Prelude.{◌≡◌, ℕ, ◌==◌, nat_le, Bool, true, false, not, ◌&&◌, List, [], ◌∷◌, length, Option, None, Some}
use Rattle.std.specs.List.{list_all}
use Rattle.cat_rules.specs.Tables.{do_fit_together}
use Rattle.cat_types.specs.declared.changes.Op.{Op}
use Rattle.cat_types.specs.declared.changes.Op.TheVariants.{DropDb, DropPart, DropTable, MovePart, MoveTable, PutDb, PutPart, PutTable}
use Rattle.cat_values.specs.Names.{is_object_name}
use Rattle.cat_values.specs.declared.records.TableRec.{TableRec}
use Rattle.cat_objects.specs.Catalogue.{Catalogue, database, has_database, has_part, has_table, table, tables_of}
use Rattle.cat_objects.specs.Changes.{fits_op, fits_ops, fits_over, is_drop_db, is_table_born, is_valid_value}
use Rattle.cat_objects.specs.declared.held.HeldTable.{HeldTable}

-- the names of tables in an operation
abbrev pub names_in : Op → List (List ℕ)
names_in (PutDb rec) = []
names_in DropDb = []
names_in (PutTable name born rec) = name ∷ []
names_in (DropTable name born) = name ∷ []
names_in (MoveTable name born to rec) = name ∷ to ∷ []
names_in (PutPart name born values rec) = name ∷ []
names_in (DropPart name born values) = name ∷ []
names_in (MovePart name born values to rec) = name ∷ []

-- whether a table, where it is there, has as many keys as this record
abbrev pub keeps_keys : TableRec → Option HeldTable → Bool
keeps_keys rec None = true
keeps_keys rec (Some held) = length held.rec.keys == length rec.keys

-- whether a table can have a partition with these values, whatever its born: it is there and has a key, and the values are valid and as many as its keys
abbrev pub takes_values : List (List ℕ) → Option HeldTable → Bool
takes_values values None = false
takes_values values (Some held) = nat_le 1 (length held.rec.keys) && ((length values == length held.rec.keys) && list_all is_valid_value values)

-- whether what an operation puts or moves may stand: columns and keys fit together; a table keeps its number of keys, and its born where it is put over; partition values are ones that the table can have; and what it moves to is absent
abbrev pub may_stand : Catalogue → List ℕ → Op → Bool
may_stand cat db (PutDb rec) = true
may_stand cat db DropDb = true
may_stand cat db (PutTable name born rec) = do_fit_together rec.sd.cols rec.keys && fits_over born rec (table cat db name)
may_stand cat db (DropTable name born) = true
may_stand cat db (MoveTable name born to rec) = do_fit_together rec.sd.cols rec.keys && (keeps_keys rec (table cat db name) && not (has_table cat db to))
may_stand cat db (PutPart name born values rec) = takes_values values (table cat db name)
may_stand cat db (DropPart name born values) = true
may_stand cat db (MovePart name born values to rec) = takes_values to (table cat db name) && not (has_part cat db name to)

-- whether an operation is lawful: each table name in it is an object name, and what it puts or moves may stand
abbrev pub is_lawful : Catalogue → List ℕ → Op → Bool
is_lawful cat db op = list_all is_object_name (names_in op) && may_stand cat db op

-- whether an operation finds what it drops, moves or stands under, with its born
abbrev pub finds : Catalogue → List ℕ → Op → Bool
finds cat db (PutDb rec) = true
finds cat db DropDb = has_database cat db
finds cat db (PutTable name born rec) = true
finds cat db (DropTable name born) = is_table_born born (table cat db name)
finds cat db (MoveTable name born to rec) = is_table_born born (table cat db name)
finds cat db (PutPart name born values rec) = is_table_born born (table cat db name)
finds cat db (DropPart name born values) = is_table_born born (table cat db name) && has_part cat db name values
finds cat db (MovePart name born values to rec) = is_table_born born (table cat db name) && has_part cat db name values

-- whether none of these operations drops a database
abbrev pub keep_database : List Op → Bool
keep_database ops = list_all (λ op. not (is_drop_db op)) ops

-- ---- laws

-- in a database whose tables have object names, an operation that fits is lawful
abbrev pub FittingIsLawful : Type 0
FittingIsLawful = (cat : Catalogue) (db : List ℕ) (op : Op) → list_all (λ entry. is_object_name entry.0) (tables_of (database cat db)) ≡ true → fits_op cat db op ≡ true → is_lawful cat db op ≡ true

-- an operation that fits finds what it needs
abbrev pub FittingFinds : Type 0
FittingFinds = (cat : Catalogue) (db : List ℕ) (op : Op) → fits_op cat db op ≡ true → finds cat db op ≡ true

-- an operation of a database that stays fits where it is lawful and finds what it needs
abbrev pub LawfulThatFindsFits : Type 0
LawfulThatFindsFits = (cat : Catalogue) (db : List ℕ) (op : Op) → is_drop_db op ≡ false → is_lawful cat db op ≡ true → finds cat db op ≡ true → fits_op cat db op ≡ true

-- operations that fit, each after those before it, drop no database
abbrev pub FittingKeeps : Type 0
FittingKeeps = (cat : Catalogue) (db : List ℕ) (born : ℕ) (ops : List Op) → fits_ops cat db born ops ≡ true → keep_database ops ≡ true
