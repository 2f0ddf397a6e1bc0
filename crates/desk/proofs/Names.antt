-- The names of databases, and those of the tables of each, rise along a history.
use Rattle.std.proofs.Common.{◌≡◌, ℕ, List, [], ◌∷◌, Option, Some, None, refl, sym, subst}
use Rattle.std.specs.List.{AllByRecursion}
use Rattle.std.specs.List.Sorted.{IsStrictlySortedBy}
use Rattle.cat_types.specs.declared.changes.Event.{Event}
use Rattle.cat_types.specs.declared.changes.Op.{Op}
use Rattle.cat_types.specs.declared.changes.Op.TheVariants.{DropDb, DropPart, DropTable, MovePart, MoveTable, PutDb, PutPart, PutTable}
use Rattle.cat_objects.specs.Catalogue.{Catalogue, at_name, database, is_name, new_catalogue, parts_of}
use Rattle.cat_objects.specs.Changes.{changed_in, changed_parts, changed_tables, done, done_op, done_ops, moved_table, put_table, with_parts, with_record, with_tables, without_table}
use Rattle.cat_objects.specs.Parts.{PartList, moved_part, put_part, without_part}
use Rattle.cat_values.specs.declared.records.PartRec.{PartRec}
use Rattle.cat_values.specs.declared.records.TableRec.{TableRec}
use Rattle.cat_objects.specs.declared.held.HeldDb.{HeldDb}
use Rattle.cat_objects.specs.declared.held.HeldTable.{HeldTable}
use Rattle.desk.specs.History.{events_from, point_of}
use Rattle.desk.specs.Laws.{AreRising, EachValuesRise, NamesGoOnRising, NamesRise, NamesOfNewStoresRise, PartValuesGoOnRising, PartValuesOfNewStoresRise, PartValuesRise, TableNamesGoOnRising, TableNamesOfNewStoresRise, TableNamesRise, ValuesRise, catalogue_after}
use Rattle.desk.specs.State.{start}
use Rattle.desk.proofs.Events.{always_together}
use Rattle.desk.proofs.Rising.{each_changed, each_put, each_removed, each_set, less_part, no_names, no_values, one_found, with_changed_value, with_name, with_other_value, with_part, without_name}

-- ---- along a history

-- what each operation keeps all of a history keeps
module _ (P : Catalogue → Type 0) (by_op : (name : List ℕ) (born : ℕ) (cat : Catalogue) (op : Op) → P cat → P (done_op name born cat op)) where
  after_ops : (name : List ℕ) (born : ℕ) (cat : Catalogue) (ops : List Op) → P cat → P (done_ops name born cat ops)
  after_ops name born cat [] has = has
  after_ops name born cat (op ∷ ops) has = after_ops name born (done_op name born cat op) ops (by_op name born cat op has)

  after_events : (cat : Catalogue) (es : List Event) → P cat → P (catalogue_after cat es)
  after_events cat [] has = has
  after_events cat (e ∷ es) has = after_events (done e.change cat) es (after_ops e.change.db e.change.db_born cat e.change.ops has)

-- ---- the names of databases

in_database : (o : Option HeldDb) (db : List ℕ) (change : List (List ℕ × HeldTable) → List (List ℕ × HeldTable)) (cat : Catalogue) → NamesRise cat → NamesRise (changed_in o db change cat)
in_database None db change cat rise = rise
in_database (Some held) db change cat rise = with_other_value (is_name db) cat.databases (with_tables (change held.tables) held) rise

in_tables : (db : List ℕ) (change : List (List ℕ × HeldTable) → List (List ℕ × HeldTable)) (cat : Catalogue) → NamesRise cat → NamesRise (changed_tables db change cat)
in_tables db change cat rise = in_database (database cat db) db change cat rise

after_op : (name : List ℕ) (born : ℕ) (cat : Catalogue) (op : Op) → NamesRise cat → NamesRise (done_op name born cat op)
after_op name born cat (PutDb rec) rise = with_name name (with_record born rec (database cat name)) cat.databases rise
after_op name born cat DropDb rise = without_name name cat.databases rise
after_op name born cat (PutTable table at rec) rise = in_tables name (put_table table at rec) cat rise
after_op name born cat (DropTable table at) rise = in_tables name (without_table table) cat rise
after_op name born cat (MoveTable table at to rec) rise = in_tables name (moved_table table to at rec) cat rise
after_op name born cat (PutPart table at values rec) rise = in_tables name (changed_parts table (put_part values rec)) cat rise
after_op name born cat (DropPart table at values) rise = in_tables name (changed_parts table (without_part values)) cat rise
after_op name born cat (MovePart table at values to rec) rise = in_tables name (changed_parts table (moved_part values to rec)) cat rise

pub go_on_rising : NamesGoOnRising
go_on_rising s ms rise =
    subst (λ (c : Catalogue). NamesRise c) (sym (always_together s ms).catalogue) (after_events NamesRise after_op s.state.catalogue (events_from (point_of s) ms) rise)

new_rise : NamesRise new_catalogue
unfolding IsStrictlySortedBy
new_rise = (tt, tt)

pub of_new_stores : NamesOfNewStoresRise
of_new_stores id base fault past ms = go_on_rising (record { state = start id base; fault = fault; past = past }) ms new_rise

-- ---- what holds of the tables of each database

abbrev Tables : Type 0
Tables = List (List ℕ × HeldTable)

-- changes of tables, each of which keeps what holds of tables
record Keeping (T : Tables → Type 0) : Type 0 where
  none : T []
  put : (name : List ℕ) (born : ℕ) (rec : TableRec) (tables : Tables) → T tables → T (put_table name born rec tables)
  less : (name : List ℕ) (tables : Tables) → T tables → T (without_table name tables)
  moved : (name to : List ℕ) (born : ℕ) (rec : TableRec) (tables : Tables) → T tables → T (moved_table name to born rec tables)
  part_put : (name : List ℕ) (values : List (List ℕ)) (rec : PartRec) (tables : Tables) → T tables → T (changed_parts name (put_part values rec) tables)
  part_less : (name : List ℕ) (values : List (List ℕ)) (tables : Tables) → T tables → T (changed_parts name (without_part values) tables)
  part_moved : (name : List ℕ) (values to : List (List ℕ)) (rec : PartRec) (tables : Tables) → T tables → T (changed_parts name (moved_part values to rec) tables)

module _ (T : Tables → Type 0) (keeping : Keeping T) where
  abbrev Has : HeldDb → Type 0
  Has held = T held.tables

  abbrev Throughout : Catalogue → Type 0
  Throughout cat = AllByRecursion (λ e. Has e.1) cat.databases

  record_put : (new : HeldDb) (o : Option HeldDb) → ((held : HeldDb) → o ≡ Some held → Has held) → Has (with_record new.born new.rec o)
  record_put new None has = keeping.none
  record_put new (Some held) has = has held refl

  tables_in : (o : Option HeldDb) (db : List ℕ) (change : Tables → Tables) (cat : Catalogue) → database cat db ≡ o → ((tables : Tables) → T tables → T (change tables)) → Throughout cat → Throughout (changed_in o db change cat)
  tables_in None db change cat is keeps all = all
  tables_in (Some held) db change cat is keeps all =
      each_set Has (is_name db) cat.databases (with_tables (change held.tables) held) (keeps held.tables (one_found Has (is_name db) cat.databases held all is)) all

  tables_changed : (db : List ℕ) (change : Tables → Tables) (cat : Catalogue) → ((tables : Tables) → T tables → T (change tables)) → Throughout cat → Throughout (changed_tables db change cat)
  tables_changed db change cat keeps all = tables_in (database cat db) db change cat refl keeps all

  throughout : (name : List ℕ) (born : ℕ) (cat : Catalogue) (op : Op) → Throughout cat → Throughout (done_op name born cat op)
  throughout name born cat (PutDb rec) all =
      each_put Has name (with_record born rec (database cat name)) cat.databases (record_put (record { born = born; rec = rec; tables = [] }) (database cat name) (λ held is. one_found Has (is_name name) cat.databases held all is)) all
  throughout name born cat DropDb all = each_removed Has (is_name name) cat.databases all
  throughout name born cat (PutTable table at rec) all = tables_changed name (put_table table at rec) cat (keeping.put table at rec) all
  throughout name born cat (DropTable table at) all = tables_changed name (without_table table) cat (keeping.less table) all
  throughout name born cat (MoveTable table at to rec) all = tables_changed name (moved_table table to at rec) cat (keeping.moved table to at rec) all
  throughout name born cat (PutPart table at values rec) all = tables_changed name (changed_parts table (put_part values rec)) cat (keeping.part_put table values rec) all
  throughout name born cat (DropPart table at values) all = tables_changed name (changed_parts table (without_part values)) cat (keeping.part_less table values) all
  throughout name born cat (MovePart table at values to rec) all = tables_changed name (changed_parts table (moved_part values to rec)) cat (keeping.part_moved table values to rec) all

-- ---- the names of tables

with_changed : (name : List ℕ) (change : PartList → PartList) (tables : Tables) → AreRising tables → AreRising (changed_parts name change tables)
with_changed name change tables rise = with_changed_value (is_name name) (λ (held : HeldTable). with_parts (change held.parts) held) tables rise

names_kept : Keeping AreRising
names_kept = record {
  none = no_names HeldTable;
  put = λ name born rec tables rise. with_name name _ tables rise;
  less = λ name tables rise. without_name name tables rise;
  moved = λ name to born rec tables rise. without_name name _ (with_name to _ tables rise);
  part_put = λ name values rec tables rise. with_changed name (put_part values rec) tables rise;
  part_less = λ name values tables rise. with_changed name (without_part values) tables rise;
  part_moved = λ name values to rec tables rise. with_changed name (moved_part values to rec) tables rise;
}

pub tables_go_on : TableNamesGoOnRising
tables_go_on s ms rise =
    subst (λ (c : Catalogue). TableNamesRise c) (sym (always_together s ms).catalogue) (after_events TableNamesRise (throughout AreRising names_kept) s.state.catalogue (events_from (point_of s) ms) rise)

pub tables_of_new : TableNamesOfNewStoresRise
tables_of_new id base fault past ms = tables_go_on (record { state = start id base; fault = fault; past = past }) ms (no_names HeldTable, tt)

-- ---- the values of partitions

abbrev Rises : HeldTable → Type 0
Rises held = ValuesRise held.parts

-- those of a table that is there, and of one that isn't
found_rise : (name : List ℕ) (tables : Tables) → EachValuesRise tables → ValuesRise (parts_of (at_name name tables))
found_rise name tables all = by_found (at_name name tables) refl
  where
    by_found : (o : Option HeldTable) → at_name name tables ≡ o → ValuesRise (parts_of o)
    by_found None is = no_values
    by_found (Some held) is = one_found Rises (is_name name) tables held all is

parts_changed : (name : List ℕ) (change : PartList → PartList) (tables : Tables) → ((parts : PartList) → ValuesRise parts → ValuesRise (change parts)) → EachValuesRise tables → EachValuesRise (changed_parts name change tables)
parts_changed name change tables keeps all = each_changed Rises (is_name name) (λ (held : HeldTable). with_parts (change held.parts) held) tables (λ held rise. keeps held.parts rise) all

values_kept : Keeping EachValuesRise
values_kept = record {
  none = tt;
  put = λ name born rec tables all. each_put Rises name (record { born = born; rec = rec; parts = parts_of (at_name name tables) }) tables (found_rise name tables all) all;
  less = λ name tables all. each_removed Rises (is_name name) tables all;
  moved = λ name to born rec tables all. each_removed Rises (is_name name) _ (each_put Rises to (record { born = born; rec = rec; parts = parts_of (at_name name tables) }) tables (found_rise name tables all) all);
  part_put = λ name values rec tables all. parts_changed name (put_part values rec) tables (with_part values rec) all;
  part_less = λ name values tables all. parts_changed name (without_part values) tables (less_part values) all;
  part_moved = λ name values to rec tables all. parts_changed name (moved_part values to rec) tables (λ parts rise. less_part values (put_part to rec parts) (with_part to rec parts rise)) all;
}

pub values_go_on : PartValuesGoOnRising
values_go_on s ms rise =
    subst (λ (c : Catalogue). PartValuesRise c) (sym (always_together s ms).catalogue) (after_events PartValuesRise (throughout EachValuesRise values_kept) s.state.catalogue (events_from (point_of s) ms) rise)

pub values_of_new : PartValuesOfNewStoresRise
values_of_new id base fault past ms = values_go_on (record { state = start id base; fault = fault; past = past }) ms (tt, tt)
