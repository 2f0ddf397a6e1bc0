-- What a change that can be taken has in it.
use Rattle.std.proofs.Common.{◌≡◌, ℕ, Bool, true, false, not, ◌&&◌, ◌||◌, List, [], ◌∷◌, Some, None, Result, Ok, Err, IfOk, nat_le, ◌==◌, length, arith, refl, sym, ap, ◌∙◌}
use Rattle.std.specs.Cmp.Lexicographic.{nat_list_cmp_total, slice_cmp}
use Rattle.std.specs.List.{list_all, slice_get}
use Rattle.std.specs.Ordering.{is_eq, nat_cmp}
use Rattle.cat_types.specs.declared.changes.Change.{Change}
use Rattle.cat_types.specs.declared.changes.EventKind.{EventKind}
use Rattle.cat_types.specs.declared.changes.EventKind.TheVariants as kind
use Rattle.cat_types.specs.declared.changes.Op.{Op}
use Rattle.cat_types.specs.declared.changes.Op.TheVariants.{DropDb, DropPart, DropTable, MovePart, MoveTable, PutDb, PutPart, PutTable}
use Rattle.cat_values.specs.Names.{is_object_name}
use Rattle.cat_values.specs.declared.records.TableRec.{TableRec}
use Rattle.cat_objects.specs.Catalogue.{Catalogue, database, has_database, has_part, has_table, is_name, table, tables_of}
use Rattle.cat_objects.specs.Changes.{are_puts, are_some, can_hold, changed_parts, changed_tables, done, done_op, done_ops, fits_creation, fits_database, fits_drop, fits_kind, fits_op, fits_ops, fits_over, is_any, is_born, is_drop_db, is_lawful_table, is_one, is_put_db, is_table_born, puts_under, settled, takes_call, takes_change, with_parts}
use Rattle.cat_objects.specs.Parts.{PartList, put_part}
use Rattle.cat_objects.specs.Placing.{Places, is_placeable, put_all, table_of_puts}
use Rattle.cat_objects.specs.declared.placing.Placed.{Placed}
use Rattle.cat_objects.proofs.Editing.{alike, parts_composed, parts_unchanged}
use Rattle.cat_objects.proofs.Maps.{equal_of, equal_self, same_changed}

-- ---- tests together

pub first_of : (a b : Bool) → (a && b) ≡ true → a ≡ true
first_of true b is = refl
first_of false b is = absurd cc

pub last_of : (a b : Bool) → (a && b) ≡ true → b ≡ true
last_of true b is = is
last_of false b is = absurd cc

-- ---- one operation

-- one that makes or drops a database can be placed
put_placeable : (cat : Catalogue) (db : List ℕ) (op : Op) → is_put_db op ≡ true → is_placeable cat db op ≡ true
put_placeable cat db (PutDb rec) is = refl
put_placeable cat db DropDb is = absurd cc
put_placeable cat db (PutTable name born rec) is = refl
put_placeable cat db (DropTable name born) is = refl
put_placeable cat db (MoveTable name born to rec) is = absurd cc
put_placeable cat db (PutPart name born values rec) is = absurd cc
put_placeable cat db (DropPart name born values) is = absurd cc
put_placeable cat db (MovePart name born values to rec) is = absurd cc

drop_placeable : (cat : Catalogue) (db : List ℕ) (op : Op) → is_drop_db op ≡ true → is_placeable cat db op ≡ true
drop_placeable cat db (PutDb rec) is = refl
drop_placeable cat db DropDb is = refl
drop_placeable cat db (PutTable name born rec) is = refl
drop_placeable cat db (DropTable name born) is = refl
drop_placeable cat db (MoveTable name born to rec) is = absurd cc
drop_placeable cat db (PutPart name born values rec) is = absurd cc
drop_placeable cat db (DropPart name born values) is = absurd cc
drop_placeable cat db (MovePart name born values to rec) is = absurd cc

fit_placeable : (cat : Catalogue) (db : List ℕ) (op : Op) → table_of_puts (op ∷ []) ≡ None → fits_op cat db op ≡ true → is_placeable cat db op ≡ true
fit_placeable cat db (PutDb rec) alone is = refl
fit_placeable cat db DropDb alone is = refl
fit_placeable cat db (PutTable name born rec) alone is = refl
fit_placeable cat db (DropTable name born) alone is = refl
fit_placeable cat db (MoveTable name born to rec) alone is =
    last_of (is_lawful_table to rec) (not (has_table cat db to))
    (last_of (fits_over born rec (table cat db name)) (is_lawful_table to rec && not (has_table cat db to))
    (last_of (is_table_born born (table cat db name)) (fits_over born rec (table cat db name) && (is_lawful_table to rec && not (has_table cat db to))) is))
fit_placeable cat db (PutPart name born values rec) alone is = absurd cc
fit_placeable cat db (DropPart name born values) alone is = refl
fit_placeable cat db (MovePart name born values to rec) alone is =
    last_of (has_part cat db name values) (not (has_part cat db name to)) (last_of (can_hold born to (table cat db name)) (has_part cat db name values && not (has_part cat db name to)) is)

pub is_free : (b : Bool) → not b ≡ true → b ≡ false
is_free true is = absurd cc
is_free false is = refl

-- where a table can move, its new name is free
pub to_is_free : (cat : Catalogue) (db name : List ℕ) (born : ℕ) (to : List ℕ) (rec : TableRec) → fits_op cat db (MoveTable name born to rec) ≡ true → has_table cat db to ≡ false
to_is_free cat db name born to rec fits = is_free (has_table cat db to) (fit_placeable cat db (MoveTable name born to rec) refl fits)

-- ---- a change of one operation

by_creation : (cat : Catalogue) (id : ℕ) (db : List ℕ) (born : ℕ) (k : EventKind) (op : Op) (ops : List Op) → fits_creation cat id (record { kind = k; db = db; db_born = born; ops = op ∷ ops }) ≡ true → is_placeable cat db op ≡ true
by_creation cat id db born k op ops is =
    put_placeable cat db op
    (first_of (is_put_db op) (not (are_some ops))
    (last_of (born == id) (is_put_db op && not (are_some ops))
    (last_of (not (has_database cat db)) ((born == id) && (is_put_db op && not (are_some ops)))
    (last_of (is_object_name db) (not (has_database cat db) && ((born == id) && (is_put_db op && not (are_some ops)))) is))))

by_drop : (cat : Catalogue) (db : List ℕ) (born : ℕ) (k : EventKind) (op : Op) (ops : List Op) → fits_drop cat (record { kind = k; db = db; db_born = born; ops = op ∷ ops }) ≡ true → is_placeable cat db op ≡ true
by_drop cat db born k op ops is =
    drop_placeable cat db op (first_of (is_drop_db op) (not (are_some ops)) (last_of (is_born born (database cat db)) (is_drop_db op && not (are_some ops)) is))

by_database : (cat : Catalogue) (db : List ℕ) (born : ℕ) (k : EventKind) (op : Op) (ops : List Op) → table_of_puts (op ∷ []) ≡ None → fits_database cat (record { kind = k; db = db; db_born = born; ops = op ∷ ops }) ≡ true → is_placeable cat db op ≡ true
by_database cat db born k op ops alone is =
    fit_placeable cat db op alone
    (first_of (fits_op cat db op) (fits_ops (done_op db born cat op) db born ops)
    (last_of (is_born born (database cat db)) (fits_op cat db op && fits_ops (done_op db born cat op) db born ops) is))

by_kind : (k : EventKind) (cat : Catalogue) (id : ℕ) (db : List ℕ) (born : ℕ) (op : Op) (ops : List Op) → table_of_puts (op ∷ []) ≡ None → fits_kind k cat id (record { kind = k; db = db; db_born = born; ops = op ∷ ops }) ≡ true → is_placeable cat db op ≡ true
by_kind kind.CreateDatabase cat id db born op ops alone is = by_creation cat id db born kind.CreateDatabase op ops is
by_kind kind.AlterDatabase cat id db born op ops alone is = by_database cat db born kind.AlterDatabase op ops alone is
by_kind kind.DropDatabase cat id db born op ops alone is = by_drop cat db born kind.DropDatabase op ops is
by_kind kind.CreateTable cat id db born op ops alone is = by_database cat db born kind.CreateTable op ops alone is
by_kind kind.AlterTable cat id db born op ops alone is = by_database cat db born kind.AlterTable op ops alone is
by_kind kind.DropTable cat id db born op ops alone is = by_database cat db born kind.DropTable op ops alone is
by_kind kind.AddPartition cat id db born op ops alone is = by_database cat db born kind.AddPartition op ops alone is
by_kind kind.AlterPartition cat id db born op ops alone is = by_database cat db born kind.AlterPartition op ops alone is
by_kind kind.DropPartition cat id db born op ops alone is = by_database cat db born kind.DropPartition op ops alone is

-- what puts no partition first has its first operation alone
no_puts : (op : Op) (ops : List Op) → table_of_puts (op ∷ ops) ≡ None → are_puts (op ∷ ops) ≡ false
no_puts (PutDb rec) ops none = refl
no_puts DropDb ops none = refl
no_puts (PutTable name born rec) ops none = refl
no_puts (DropTable name born) ops none = refl
no_puts (MoveTable name born to rec) ops none = refl
no_puts (PutPart name born values rec) ops none = absurd cc
no_puts (DropPart name born values) ops none = refl
no_puts (MovePart name born values to rec) ops none = refl

one_of : (op : Op) (ops : List Op) → table_of_puts (op ∷ ops) ≡ None → table_of_puts (op ∷ []) ≡ None
one_of (PutDb rec) ops none = refl
one_of DropDb ops none = refl
one_of (PutTable name born rec) ops none = refl
one_of (DropTable name born) ops none = refl
one_of (MoveTable name born to rec) ops none = refl
one_of (PutPart name born values rec) ops none = absurd cc
one_of (DropPart name born values) ops none = refl
one_of (MovePart name born values to rec) ops none = refl

nothing_behind : (op : Op) (ops : List Op) → (not (are_some ops) || are_puts (op ∷ ops)) ≡ true → are_puts (op ∷ ops) ≡ false → ops ≡ []
nothing_behind op [] takes none = refl
nothing_behind op (x ∷ ops) takes none =
    let never : true ≡ false = sym takes ∙ none in
    absurd cc

-- the operation of a change of a call that puts no partitions stands alone
single_by : (ops : List Op) (op : Op) → Some op ≡ slice_get ops 0 → table_of_puts ops ≡ None → (is_one is_any ops || are_puts ops) ≡ true → ops ≡ op ∷ []
single_by [] op first none takes = absurd cc
single_by (x ∷ ops) op first none takes =
    let same : op ≡ x = cc in
    ap (λ (l : List Op). x ∷ l) (nothing_behind x ops takes (no_puts x ops none)) ∙ ap (λ (y : Op). y ∷ []) (sym same)

single : (cat : Catalogue) (id : ℕ) (change : Change) (op : Op) → Some op ≡ slice_get change.ops 0 → table_of_puts change.ops ≡ None → takes_call cat id change ≡ true → change.ops ≡ op ∷ []
single cat id change op first none takes = single_by change.ops op first none (last_of (takes_change cat id change) (is_one is_any change.ops || are_puts change.ops) takes)

pub single_done : (cat : Catalogue) (id : ℕ) (change : Change) (op : Op) → Some op ≡ slice_get change.ops 0 → table_of_puts change.ops ≡ None → takes_call cat id change ≡ true → done_op change.db change.db_born cat op ≡ done change cat
single_done cat id change op first none takes = sym (ap (done_ops change.db change.db_born cat) (single cat id change op first none takes))

-- and it can be placed
placeable_by : (cat : Catalogue) (id : ℕ) (k : EventKind) (db : List ℕ) (born : ℕ) (ops : List Op) (op : Op) → Some op ≡ slice_get ops 0 → table_of_puts ops ≡ None → takes_change cat id (record { kind = k; db = db; db_born = born; ops = ops }) ≡ true → is_placeable cat db op ≡ true
placeable_by cat id k db born [] op first none takes = absurd cc
placeable_by cat id k db born (x ∷ ops) op first none takes =
    let same : op ≡ x = cc in
    ap (is_placeable cat db) same ∙ by_kind k cat id db born x ops (one_of x ops none) (last_of (nat_le id 9223372036854775807) (fits_kind k cat id (record { kind = k; db = db; db_born = born; ops = x ∷ ops })) takes)

pub placeable : (cat : Catalogue) (id : ℕ) (change : Change) (op : Op) → Some op ≡ slice_get change.ops 0 → table_of_puts change.ops ≡ None → takes_call cat id change ≡ true → is_placeable cat change.db op ≡ true
placeable cat id change op first none takes = placeable_by cat id change.kind change.db change.db_born change.ops op first none (first_of (takes_change cat id change) (is_one is_any change.ops || are_puts change.ops) takes)

-- ---- puts of partitions

all_empty : (name : List ℕ) (ops : List Op) → not (are_some ops) ≡ true → list_all (puts_under name) ops ≡ true
all_empty name [] is = refl
all_empty name (op ∷ ops) is = absurd cc

either : (a b : Bool) → (a || b) ≡ true → (a ≡ true → b ≡ true) → b ≡ true
either true b is then = then refl
either false b is then = is

own_name : (name : List ℕ) → is_name name name ≡ true
own_name name = ap is_eq (equal_self (slice_cmp nat_cmp) nat_list_cmp_total name)

all_by : (ops : List Op) (name : List ℕ) → Some name ≡ table_of_puts ops → (is_one is_any ops || are_puts ops) ≡ true → list_all (puts_under name) ops ≡ true
all_by [] name first takes = absurd cc
all_by (PutDb rec ∷ ops) name first takes = absurd cc
all_by (DropDb ∷ ops) name first takes = absurd cc
all_by (PutTable table born rec ∷ ops) name first takes = absurd cc
all_by (DropTable table born ∷ ops) name first takes = absurd cc
all_by (MoveTable table born to rec ∷ ops) name first takes = absurd cc
all_by (PutPart table born values rec ∷ ops) name first takes =
    let same : name ≡ table = cc in
    ap (λ (n : List ℕ). list_all (puts_under n) (PutPart table born values rec ∷ ops)) same
    ∙ ap (λ (b : Bool). b && list_all (puts_under table) ops) (own_name table)
    ∙ either (not (are_some ops)) (list_all (puts_under table) ops) takes (all_empty table ops)
all_by (DropPart table born values ∷ ops) name first takes = absurd cc
all_by (MovePart table born values to rec ∷ ops) name first takes = absurd cc

one_done : (cat : Catalogue) (db : List ℕ) (name table : List ℕ) (change : PartList → PartList) → is_name name table ≡ true → changed_tables db (changed_parts table change) cat ≡ changed_tables db (changed_parts name change) cat
one_done cat db name other change same =
    alike cat db (changed_parts other change) (changed_parts name change)
    (sym (same_changed (slice_cmp nat_cmp) nat_list_cmp_total name other (λ held. with_parts (change held.parts) held) (tables_of (database cat db)) (equal_of (slice_cmp nat_cmp name other) same)))

-- operations that put partitions under one table
all_done : (ops : List Op) (cat : Catalogue) (db : List ℕ) (born : ℕ) (name : List ℕ) → list_all (puts_under name) ops ≡ true → done_ops db born cat ops ≡ changed_tables db (changed_parts name (put_all ops)) cat
all_done [] cat db born name all = sym (parts_unchanged cat db name (λ parts. parts) refl)
all_done (PutDb rec ∷ ops) cat db born name all = absurd cc
all_done (DropDb ∷ ops) cat db born name all = absurd cc
all_done (PutTable table at rec ∷ ops) cat db born name all = absurd cc
all_done (DropTable table at ∷ ops) cat db born name all = absurd cc
all_done (MoveTable table at to rec ∷ ops) cat db born name all = absurd cc
all_done (PutPart table at values rec ∷ ops) cat db born name all =
    all_done ops (changed_tables db (changed_parts table (put_part values rec)) cat) db born name (last_of (is_name name table) (list_all (puts_under name) ops) all)
    ∙ ap (changed_tables db (changed_parts name (put_all ops))) (one_done cat db name table (put_part values rec) (first_of (is_name name table) (list_all (puts_under name) ops) all))
    ∙ parts_composed cat db name (put_all ops) (put_part values rec)
all_done (DropPart table at values ∷ ops) cat db born name all = absurd cc
all_done (MovePart table at values to rec ∷ ops) cat db born name all = absurd cc

-- what a change of a call does that puts partitions
pub puts_done : (cat : Catalogue) (id : ℕ) (change : Change) (name : List ℕ) → Some name ≡ table_of_puts change.ops → takes_call cat id change ≡ true → changed_tables change.db (changed_parts name (put_all change.ops)) cat ≡ done change cat
puts_done cat id change name first takes =
    sym (all_done change.ops cat change.db change.db_born name (all_by change.ops name first (last_of (takes_change cat id change) (is_one is_any change.ops || are_puts change.ops) takes)))

-- what is placed so that it settles to what is wanted
pub settles : {E : Type 0} (r : Result Placed E) (after wanted before due : Catalogue) → Places r after wanted before → wanted ≡ due → IfOk r (λ placed. settled placed after ≡ due)
settles (Ok placed) after wanted before due places same = places.0 ∙ same
settles (Err e) after wanted before due places same = tt

-- ---- one operation alone

pub only_one : (ops : List Op) (op : Op) → Some op ≡ slice_get ops 0 → length ops ≡ 1 → ops ≡ op ∷ []
only_one [] op first one = absurd cc
only_one (x ∷ []) op first one =
    let same : op ≡ x = cc in
    ap (λ (y : Op). y ∷ []) (sym same)
only_one (x ∷ y ∷ ops) op first one = absurd (omega (arith, one))
