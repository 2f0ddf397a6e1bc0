-- The rules of calls on tables, what they change, and what they result in.
use Rattle.std.specs.Prelude.{ℕ, nat_le, Bool, false, not, ◌&&◌, List, [], ◌∷◌, length, Option, None, Some, if◌then◌else◌, ◌++◌, map}
use Rattle.std.specs.List.{list_any}
use Rattle.std.specs.Map.{keys_of}
use Rattle.std.specs.Str.{bytes_eq}
use Rattle.cat_objects.specs.Catalogue.{Catalogue, database, has_database, tables_of, has_table, table}
use Rattle.cat_objects.specs.declared.held.HeldTable.{HeldTable}
use Rattle.cat_rules.specs.Tables.{do_fit_together}
use Rattle.cat_types.specs.declared.arguments.TableArg.{TableArg}
use Rattle.cat_types.specs.declared.changes.Change.{Change}
use Rattle.cat_types.specs.declared.changes.EventKind.TheVariants as kind
use Rattle.cat_types.specs.declared.changes.Op.TheVariants.{DropTable, MoveTable, PutTable}
use Rattle.cat_types.specs.declared.changes.Op.{Op}
use Rattle.cat_types.specs.declared.named.NamedTable.{NamedTable}
use Rattle.cat_types.specs.declared.replies.Reply.TheVariants.{Nothing, Fields, Tables}
use Rattle.cat_types.specs.declared.replies.Reply.{Reply}
use Rattle.cat_values.specs.Names.{lower}
use Rattle.cat_values.specs.declared.records.TableRec.{TableRec}
use Rattle.kept_records.specs.Tables.{altered_table, have_same_keys, lower_columns, made_table}
use Rattle.rulings.specs.Bars.{is_replica, is_dumping}
use Rattle.rulings.specs.Changes.{born_of, table_born}
use Rattle.rulings.specs.Names.{is_named, kept_name, names_another, names_database, names_table}
use Rattle.rulings.specs.Rules.{Rule}
use Rattle.rulings.specs.declared.bars.Bars.{Bars}
use Rattle.rulings.specs.declared.refusal.Refusal.TheVariants.{AlreadyExists, InvalidObject, InvalidOperation, InvalidRequest, IsReplica, NoSuchObject}

-- whether columns and keys, with their names in lower case, may stand in one table
abbrev pub fits_columns : TableRec → Bool
fits_columns rec = do_fit_together (lower_columns rec.sd.cols) (lower_columns rec.keys)

-- ---- creating

-- a table that is created stands in a database that is there and no replica; it has a lawful name, which is free, a storage, and columns and keys that fit together; and the database has fewer than a million tables
abbrev pub create_table_rules : Catalogue → Bars → TableArg → List Rule
create_table_rules cat bars new =
    (not (names_database cat new.db), NoSuchObject)
    ∷ (is_replica bars (kept_name new.db), IsReplica)
    ∷ (not (is_named new.table), InvalidObject)
    ∷ (has_table cat (kept_name new.db) (kept_name new.table), AlreadyExists)
    ∷ (not new.has_sd, InvalidObject)
    ∷ (not (fits_columns new.rec), InvalidObject)
    ∷ (nat_le 1000000 (length (tables_of (database cat (kept_name new.db)))), InvalidObject)
    ∷ []

-- the change that makes a table, as the event with this number
abbrev pub table_created : Catalogue → TableArg → ℕ → ℕ → Change
table_created cat new moment next = record {
  kind = kind.CreateTable;
  db = kept_name new.db;
  db_born = born_of (database cat (kept_name new.db));
  ops = PutTable (kept_name new.table) next (made_table new.rec moment) ∷ [];
}

-- ---- dropping

-- a table that is dropped stands in a database that is there and no replica, and is there
abbrev pub drop_table_rules : Catalogue → Bars → List ℕ → List ℕ → List Rule
drop_table_rules cat bars db name =
    (not (has_database cat db), NoSuchObject) ∷ (is_replica bars db, IsReplica) ∷ (not (has_table cat db name), NoSuchObject) ∷ []

-- the change that drops a table
abbrev pub table_dropped : Catalogue → List ℕ → List ℕ → Change
table_dropped cat db name = record { kind = kind.DropTable; db = db; db_born = born_of (database cat db); ops = DropTable name (table_born (table cat db name)) ∷ [] }

-- ---- altering

-- whether a table that is there has keys of other names or types
abbrev pub changes_keys : Option HeldTable → TableRec → Bool
changes_keys None rec = false
changes_keys (Some held) rec = not (have_same_keys held.rec.keys (lower_columns rec.keys))

-- whether a table gets another name
abbrev pub renames : TableArg → List ℕ → Bool
renames new name = not (bytes_eq (kept_name new.table) name)

-- a table that is altered stands in a database that is there and no replica, and is there; its record names no other database, and has a lawful name, a storage, columns and keys that fit together, and the keys that it had; under another name no bootstrap dump of the database is open, and that name is free
abbrev pub alter_table_rules : Catalogue → Bars → List ℕ → List ℕ → TableArg → List Rule
alter_table_rules cat bars db name new =
    (not (has_database cat db), InvalidOperation)
    ∷ (is_replica bars db, IsReplica)
    ∷ (not (has_table cat db name), InvalidOperation)
    ∷ (names_another new.db db, InvalidOperation)
    ∷ (not (is_named new.table), InvalidOperation)
    ∷ (not new.has_sd, InvalidOperation)
    ∷ (not (fits_columns new.rec), InvalidOperation)
    ∷ (changes_keys (table cat db name) new.rec, InvalidOperation)
    ∷ (renames new name && is_dumping bars db, InvalidOperation)
    ∷ (renames new name && has_table cat db (kept_name new.table), InvalidOperation)
    ∷ []

-- the operation that gives a table that is there another record, under this name or another one
abbrev pub table_put : Option HeldTable → List ℕ → TableArg → ℕ → List Op
table_put None name new moment = []
table_put (Some held) name new moment =
    if renames new name then MoveTable name held.born (kept_name new.table) (altered_table held.rec new.rec moment) ∷ []
    else PutTable name held.born (altered_table held.rec new.rec moment) ∷ []

-- the change that alters a table
abbrev pub table_altered : Catalogue → List ℕ → List ℕ → TableArg → ℕ → Change
table_altered cat db name new moment = record { kind = kind.AlterTable; db = db; db_born = born_of (database cat db); ops = table_put (table cat db name) name new moment }

-- ---- reading

-- a table that is asked for is there
abbrev pub get_table_rules : Catalogue → List ℕ → List ℕ → List Rule
get_table_rules cat db name = (not (has_table cat db name), NoSuchObject) ∷ []

abbrev pub get_table_req_rules : Catalogue → Option (List ℕ) → Option (List ℕ) → List Rule
get_table_req_rules cat db name = (not (names_table cat db name), NoSuchObject) ∷ []

-- columns that are asked for are those of a table that is there
abbrev pub get_columns_rules : Catalogue → List ℕ → List ℕ → List Rule
get_columns_rules cat db name = (not (has_table cat db name), InvalidRequest) ∷ []

-- a table with its names
abbrev pub named_table : List ℕ → List ℕ → TableRec → NamedTable
named_table db name rec = record { db = db; table = name; rec = rec }

-- the one table that was asked for, where it is there
abbrev pub table_as : Option HeldTable → List ℕ → List ℕ → Reply
table_as None db name = Nothing
table_as (Some held) db name = Tables (named_table db name held.rec ∷ [])

-- the table that was asked for by a request, where it is there
abbrev pub requested_table : Catalogue → Option (List ℕ) → Option (List ℕ) → Reply
requested_table cat None name = Nothing
requested_table cat (Some db) None = Nothing
requested_table cat (Some db) (Some name) = table_as (table cat (lower db) (lower name)) (lower db) (lower name)

-- the names of all tables of a database, in their order
abbrev pub table_names : Catalogue → List ℕ → List (List ℕ)
table_names cat db = keys_of (tables_of (database cat db))

-- names without those that were seen, and without those that stand earlier among them
abbrev pub first_asked : List (List ℕ) → List (List ℕ) → List (List ℕ)
first_asked seen [] = []
first_asked seen (name ∷ names) = if list_any (bytes_eq name) seen then first_asked seen names else name ∷ first_asked (name ∷ seen) names

-- one table more, where it is there
abbrev pub table_then : Option HeldTable → List ℕ → List ℕ → List NamedTable → List NamedTable
table_then None db name tables = tables
table_then (Some held) db name tables = named_table db name held.rec ∷ tables

-- those of these tables that there are, in their order
abbrev pub tables_there : Catalogue → List ℕ → List (List ℕ) → List NamedTable
tables_there cat db [] = []
tables_there cat db (name ∷ names) = table_then (table cat db name) db name (tables_there cat db names)

-- those of the named tables that there are, each once, in the order of first asking
abbrev pub tables_named : Catalogue → List ℕ → List (List ℕ) → List NamedTable
tables_named cat db names = tables_there cat db (first_asked [] (map lower names))

-- the columns of a table that is there
abbrev pub columns_as : Option HeldTable → Reply
columns_as None = Nothing
columns_as (Some held) = Fields held.rec.sd.cols

-- the columns of a table that is there, and behind them its keys
abbrev pub schema_as : Option HeldTable → Reply
schema_as None = Nothing
schema_as (Some held) = Fields (held.rec.sd.cols ++ held.rec.keys)
