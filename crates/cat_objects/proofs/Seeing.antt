-- What stands at a name after operations that drop no database.
use Rattle.std.proofs.Common.{◌≡◌, ℕ, Bool, true, false, not, List, [], ◌∷◌, Option, Some, None, cond, refl, sym, ap, subst, ◌∙◌}
use Rattle.std.specs.Cmp.Lexicographic.{nat_list_cmp_total, slice_cmp}
use Rattle.std.specs.List.Sorted.{IsStrictlySortedBy}
use Rattle.std.specs.Map.{keys_of}
use Rattle.std.specs.Option.{option_map}
use Rattle.std.specs.Ordering.{nat_cmp}
use Rattle.cat_types.specs.declared.changes.Op.{Op}
use Rattle.cat_types.specs.declared.changes.Op.TheVariants.{DropDb, DropPart, DropTable, MovePart, MoveTable, PutDb, PutPart, PutTable}
use Rattle.cat_objects.specs.Catalogue.{Catalogue, at_name, database, is_name, parts_of, put_at, tables_of}
use Rattle.cat_objects.specs.Changes.{changed_in, changed_parts, changed_tables, done_op, done_ops, is_drop_db, moved_table, put_table, with_parts, with_record, with_tables, without_table}
use Rattle.cat_objects.specs.Lawful.{keep_database}
use Rattle.cat_objects.specs.Parts.{PartList, moved_part, put_part, without_part}
use Rattle.cat_objects.specs.Seen.{seen_after, seen_after_all, seen_of, shape_of, table_after}
use Rattle.cat_objects.specs.declared.held.HeldDb.{HeldDb}
use Rattle.cat_objects.specs.declared.held.HeldTable.{HeldTable}
use Rattle.cat_objects.specs.declared.seen.Seen.{Seen}
use Rattle.cat_objects.specs.declared.seen.Shape.{Shape}
use Rattle.cat_objects.proofs.Editing.{Tables}
use Rattle.cat_objects.proofs.Found.{found_changed, found_own, found_put, found_removed}
use Rattle.cat_objects.proofs.Maps.{set_found}
use Rattle.cat_objects.proofs.Rising.{rising_changed, rising_put, rising_remove}
use Rattle.cat_objects.proofs.Taking.{first_of, is_free, last_of}

abbrev pub Rises : Tables → Type 0
Rises tables = IsStrictlySortedBy (slice_cmp nat_cmp) (keys_of tables)

-- ---- the database after an operation

-- what an operation does to tables
abbrev pub tables_after : Op → Tables → Tables
tables_after (PutDb rec) tables = tables
tables_after DropDb tables = tables
tables_after (PutTable table at rec) tables = put_table table at rec tables
tables_after (DropTable table at) tables = without_table table tables
tables_after (MoveTable table at to rec) tables = moved_table table to at rec tables
tables_after (PutPart table at values rec) tables = changed_parts table (put_part values rec) tables
tables_after (DropPart table at values) tables = changed_parts table (without_part values) tables
tables_after (MovePart table at values to rec) tables = changed_parts table (moved_part values to rec) tables

abbrev pub with_after : Op → Option HeldDb → Option HeldDb
with_after op found = option_map (λ held. with_tables (tables_after op held.tables) held) found

-- what an operation does to a database
abbrev pub db_after : ℕ → Op → Option HeldDb → Option HeldDb
db_after born (PutDb rec) found = Some (with_record born rec found)
db_after born DropDb found = found
db_after born (PutTable table at rec) found = with_after (PutTable table at rec) found
db_after born (DropTable table at) found = with_after (DropTable table at) found
db_after born (MoveTable table at to rec) found = with_after (MoveTable table at to rec) found
db_after born (PutPart table at values rec) found = with_after (PutPart table at values rec) found
db_after born (DropPart table at values) found = with_after (DropPart table at values) found
db_after born (MovePart table at values to rec) found = with_after (MovePart table at values to rec) found

changed_by : (cat : Catalogue) (db : List ℕ) (change : Tables → Tables) (o : Option HeldDb) → database cat db ≡ o → database (changed_in o db change cat) db ≡ option_map (λ held. with_tables (change held.tables) held) o
changed_by cat db change None is = is
changed_by cat db change (Some held) is = set_found (is_name db) cat.databases held (with_tables (change held.tables) held) is

changed : (cat : Catalogue) (db : List ℕ) (change : Tables → Tables) → database (changed_tables db change cat) db ≡ option_map (λ held. with_tables (change held.tables) held) (database cat db)
changed cat db change = changed_by cat db change (database cat db) refl

pub after_is : (cat : Catalogue) (db : List ℕ) (born : ℕ) (op : Op) → is_drop_db op ≡ false → database (done_op db born cat op) db ≡ db_after born op (database cat db)
after_is cat db born (PutDb rec) keeps = found_own (slice_cmp nat_cmp) nat_list_cmp_total db (with_record born rec (database cat db)) cat.databases
after_is cat db born DropDb keeps = absurd cc
after_is cat db born (PutTable table at rec) keeps = changed cat db (put_table table at rec)
after_is cat db born (DropTable table at) keeps = changed cat db (without_table table)
after_is cat db born (MoveTable table at to rec) keeps = changed cat db (moved_table table to at rec)
after_is cat db born (PutPart table at values rec) keeps = changed cat db (changed_parts table (put_part values rec))
after_is cat db born (DropPart table at values) keeps = changed cat db (changed_parts table (without_part values))
after_is cat db born (MovePart table at values to rec) keeps = changed cat db (changed_parts table (moved_part values to rec))

-- ---- names of tables still rise

put_rises : (table : List ℕ) (held : HeldTable) (tables : Tables) → Rises tables → Rises (put_at table held tables)
put_rises table held tables rise = rising_put (slice_cmp nat_cmp) nat_list_cmp_total table held tables rise

parts_rise : (table : List ℕ) (change : PartList → PartList) (tables : Tables) → Rises tables → Rises (changed_parts table change tables)
parts_rise table change tables rise = rising_changed (slice_cmp nat_cmp) (is_name table) (λ (held : HeldTable). with_parts (change held.parts) held) tables rise

tables_rise : (op : Op) (tables : Tables) → Rises tables → Rises (tables_after op tables)
tables_rise (PutDb rec) tables rise = rise
tables_rise DropDb tables rise = rise
tables_rise (PutTable table at rec) tables rise = put_rises table _ tables rise
tables_rise (DropTable table at) tables rise = rising_remove (slice_cmp nat_cmp) (is_name table) tables rise
tables_rise (MoveTable table at to rec) tables rise = rising_remove (slice_cmp nat_cmp) (is_name table) _ (put_rises to _ tables rise)
tables_rise (PutPart table at values rec) tables rise = parts_rise table (put_part values rec) tables rise
tables_rise (DropPart table at values) tables rise = parts_rise table (without_part values) tables rise
tables_rise (MovePart table at values to rec) tables rise = parts_rise table (moved_part values to rec) tables rise

with_rise : (op : Op) (o : Option HeldDb) → Rises (tables_of o) → Rises (tables_of (with_after op o))
with_rise op None rise = rise
with_rise op (Some held) rise = tables_rise op held.tables rise

pub db_rises : (born : ℕ) (op : Op) (o : Option HeldDb) → Rises (tables_of o) → Rises (tables_of (db_after born op o))
db_rises born (PutDb rec) None rise = rise
db_rises born (PutDb rec) (Some held) rise = rise
db_rises born DropDb o rise = rise
db_rises born (PutTable table at rec) o rise = with_rise (PutTable table at rec) o rise
db_rises born (DropTable table at) o rise = with_rise (DropTable table at) o rise
db_rises born (MoveTable table at to rec) o rise = with_rise (MoveTable table at to rec) o rise
db_rises born (PutPart table at values rec) o rise = with_rise (PutPart table at values rec) o rise
db_rises born (DropPart table at values) o rise = with_rise (DropPart table at values) o rise
db_rises born (MovePart table at values to rec) o rise = with_rise (MovePart table at values to rec) o rise

-- ---- what is seen

map_put : {X Y : Type 0} (f : X → Y) (b : Bool) (x : X) (o : Option X) → option_map f (cond b (Some x) o) ≡ cond b (Some (f x)) (option_map f o)
map_put f true x o = refl
map_put f false x o = refl

map_none : {X Y : Type 0} (f : X → Y) (b : Bool) (o : Option X) → option_map f (cond b None o) ≡ cond b None (option_map f o)
map_none f true o = refl
map_none f false o = refl

same_shape : (b : Bool) (change : PartList → PartList) (o : Option HeldTable) → option_map shape_of (cond b (option_map (λ held. with_parts (change held.parts) held) o) o) ≡ option_map shape_of o
same_shape true change None = refl
same_shape true change (Some held) = refl
same_shape false change o = refl

parts_seen : (name table : List ℕ) (change : PartList → PartList) (tables : Tables) → option_map shape_of (at_name name (changed_parts table change tables)) ≡ option_map shape_of (at_name name tables)
parts_seen name table change tables =
    ap (λ (o : Option HeldTable). option_map shape_of o) (found_changed (slice_cmp nat_cmp) nat_list_cmp_total name table (λ (held : HeldTable). with_parts (change held.parts) held) tables)
    ∙ same_shape (is_name name table) change (at_name name tables)

tables_seen : (name : List ℕ) (op : Op) (tables : Tables) → Rises tables → option_map shape_of (at_name name (tables_after op tables)) ≡ table_after name op (option_map shape_of (at_name name tables))
tables_seen name (PutDb rec) tables rise = refl
tables_seen name DropDb tables rise = refl
tables_seen name (PutTable table at rec) tables rise =
    ap (λ (o : Option HeldTable). option_map shape_of o) (found_put (slice_cmp nat_cmp) nat_list_cmp_total name table (record { born = at; rec = rec; parts = parts_of (at_name table tables) }) tables)
    ∙ map_put shape_of (is_name name table) (record { born = at; rec = rec; parts = parts_of (at_name table tables) }) (at_name name tables)
tables_seen name (DropTable table at) tables rise =
    ap (λ (o : Option HeldTable). option_map shape_of o) (found_removed (slice_cmp nat_cmp) nat_list_cmp_total name table tables rise)
    ∙ map_none shape_of (is_name name table) (at_name name tables)
tables_seen name (MoveTable table at to rec) tables rise =
    let new : HeldTable = record { born = at; rec = rec; parts = parts_of (at_name table tables) } in
    ap (λ (o : Option HeldTable). option_map shape_of o)
    (found_removed (slice_cmp nat_cmp) nat_list_cmp_total name table (put_at to new tables) (put_rises to new tables rise)
    ∙ ap (λ (o : Option HeldTable). cond (is_name name table) None o) (found_put (slice_cmp nat_cmp) nat_list_cmp_total name to new tables))
    ∙ map_none shape_of (is_name name table) (cond (is_name name to) (Some new) (at_name name tables))
    ∙ ap (λ (o : Option Shape). cond (is_name name table) None o) (map_put shape_of (is_name name to) new (at_name name tables))
tables_seen name (PutPart table at values rec) tables rise = parts_seen name table (put_part values rec) tables
tables_seen name (DropPart table at values) tables rise = parts_seen name table (without_part values) tables
tables_seen name (MovePart table at values to rec) tables rise = parts_seen name table (moved_part values to rec) tables

abbrev in_there : Option Shape → Seen
in_there table = record { there = true; table = table }

seen_next : (born : ℕ) (name : List ℕ) (op : Op) (o : Option HeldDb) → is_drop_db op ≡ false → Rises (tables_of o) → seen_of (db_after born op o) name ≡ seen_after name op (seen_of o name)
seen_next born name (PutDb rec) None keeps rise = refl
seen_next born name (PutDb rec) (Some held) keeps rise = refl
seen_next born name DropDb o keeps rise = absurd cc
seen_next born name (PutTable table at rec) None keeps rise = refl
seen_next born name (PutTable table at rec) (Some held) keeps rise = ap in_there (tables_seen name (PutTable table at rec) held.tables rise)
seen_next born name (DropTable table at) None keeps rise = refl
seen_next born name (DropTable table at) (Some held) keeps rise = ap in_there (tables_seen name (DropTable table at) held.tables rise)
seen_next born name (MoveTable table at to rec) None keeps rise = refl
seen_next born name (MoveTable table at to rec) (Some held) keeps rise = ap in_there (tables_seen name (MoveTable table at to rec) held.tables rise)
seen_next born name (PutPart table at values rec) None keeps rise = refl
seen_next born name (PutPart table at values rec) (Some held) keeps rise = ap in_there (tables_seen name (PutPart table at values rec) held.tables rise)
seen_next born name (DropPart table at values) None keeps rise = refl
seen_next born name (DropPart table at values) (Some held) keeps rise = ap in_there (tables_seen name (DropPart table at values) held.tables rise)
seen_next born name (MovePart table at values to rec) None keeps rise = refl
seen_next born name (MovePart table at values to rec) (Some held) keeps rise = ap in_there (tables_seen name (MovePart table at values to rec) held.tables rise)

-- ---- after operations

pub first_kept : (op : Op) (ops : List Op) → keep_database (op ∷ ops) ≡ true → is_drop_db op ≡ false
first_kept op ops keep = is_free (is_drop_db op) (first_of (not (is_drop_db op)) (keep_database ops) keep)

pub rest_kept : (op : Op) (ops : List Op) → keep_database (op ∷ ops) ≡ true → keep_database ops ≡ true
rest_kept op ops keep = last_of (not (is_drop_db op)) (keep_database ops) keep

rises_next : (db : List ℕ) (born : ℕ) (cat : Catalogue) (op : Op) → is_drop_db op ≡ false → Rises (tables_of (database cat db)) → Rises (tables_of (database (done_op db born cat op) db))
rises_next db born cat op keeps rise = subst (λ (o : Option HeldDb). Rises (tables_of o)) (sym (after_is cat db born op keeps)) (db_rises born op (database cat db) rise)

-- the names of tables rise after operations
pub rises_after : (db : List ℕ) (born : ℕ) (cat : Catalogue) (ops : List Op) → keep_database ops ≡ true → Rises (tables_of (database cat db)) → Rises (tables_of (database (done_ops db born cat ops) db))
rises_after db born cat [] keep rise = rise
rises_after db born cat (op ∷ ops) keep rise = rises_after db born (done_op db born cat op) ops (rest_kept op ops keep) (rises_next db born cat op (first_kept op ops keep) rise)

-- what is seen after operations is what stands there
pub all_seen : (db name : List ℕ) (born : ℕ) (cat : Catalogue) (ops : List Op) → keep_database ops ≡ true → Rises (tables_of (database cat db)) → seen_after_all name ops (seen_of (database cat db) name) ≡ seen_of (database (done_ops db born cat ops) db) name
all_seen db name born cat [] keep rise = refl
all_seen db name born cat (op ∷ ops) keep rise =
    sym (ap (λ (s : Seen). seen_after_all name ops s) (ap (λ (o : Option HeldDb). seen_of o name) (after_is cat db born op (first_kept op ops keep)) ∙ seen_next born name op (database cat db) (first_kept op ops keep) rise))
    ∙ all_seen db name born (done_op db born cat op) ops (rest_kept op ops keep) (rises_next db born cat op (first_kept op ops keep) rise)
