-- What is decided of the calls that change tables, and that what they change can be taken.
use Rattle.std.proofs.Common.{◌≡◌, ℕ, suc, Bool, true, false, not, ◌&&◌, List, [], ◌∷◌, length, Option, Some, None, is_some, if◌then◌else◌, nat_le, ◌==◌, refl, sym, ap, subst, ◌∙◌, eq-eqb}
use Rattle.std.specs.Str.{bytes_eq}
use Rattle.std.proofs.lemmas.Slice.Eq.{bytes_eq-Decides}
use Rattle.cat_types.specs.declared.arguments.TableArg.{TableArg}
use Rattle.cat_types.specs.declared.changes.Change.{Change}
use Rattle.cat_types.specs.declared.changes.EventKind.TheVariants as kind
use Rattle.cat_types.specs.declared.changes.Op.{Op}
use Rattle.cat_types.specs.declared.changes.Op.TheVariants.{DropTable, MoveTable, PutTable}
use Rattle.cat_types.specs.declared.replies.Reply.{Reply}
use Rattle.cat_types.specs.declared.replies.Reply.TheVariants.{Nothing}
use Rattle.cat_values.specs.declared.records.TableRec.{TableRec}
use Rattle.cat_values.specs.declared.storage.Column.{Column}
use Rattle.cat_values.specs.Names.{is_object_name}
use Rattle.cat_objects.specs.Catalogue.{Catalogue, at_name, database, has_database, has_table, table, tables_of}
use Rattle.cat_objects.specs.Changes.{are_some, fits_op, has_operation, fits_over, is_lawful_table, is_table_born, takes_call}
use Rattle.rulings.specs.Changes.{born_of, table_born}
use Rattle.rulings.specs.Names.{is_named, kept_name, names_another, names_database}
use Rattle.rulings.specs.Bars.{is_dumping, is_replica}
use Rattle.rulings.specs.Decisions.{decided_by, told}
use Rattle.rulings.specs.Rules.{first_broken}
use Rattle.table_rules.specs.Tables.{alter_table_rules, changes_keys, create_table_rules, drop_table_rules, fits_columns, renames, table_altered, table_created, table_dropped, table_put}
use Rattle.rulings.specs.declared.bars.Bars.{Bars}
use Rattle.rulings.specs.declared.decided.Decided.TheVariants as decided
use Rattle.cat_objects.specs.declared.held.HeldDb.{HeldDb}
use Rattle.cat_objects.specs.declared.held.HeldTable.{HeldTable}
use Rattle.rulings.specs.declared.refusal.Refusal.{Refusal}
use Rattle.rulings.specs.declared.refusal.Refusal.TheVariants.{InvalidOperation, IsReplica}
use Rattle.kept_records.specs.Tables.{altered_table, have_same_keys, lower_columns, made_table}
use Rattle.rulings.proofs.Rules.{both, both_last, call_taken, fits_there, holds, kept_named, passed, unbroken}

-- ---- altering

-- the last rules of altering, where the change is made if none is broken
accepted_by : (fits same dump taken : Bool) (x : Refusal) (made change : Change) (reply : Reply) → Some made ≡ (if fits && (same && (not dump && not taken)) then Some change else None)
    → decided.Change made reply ≡ told (decided_by (first_broken ((not fits, x) ∷ (not same, x) ∷ (dump, x) ∷ (taken, x) ∷ [])) (Some change) reply)
accepted_by true true false false x made change reply is = cc
accepted_by true true false true x made change reply is = absurd cc
accepted_by true true true taken x made change reply is = absurd cc
accepted_by true false dump taken x made change reply is = absurd cc
accepted_by false same dump taken x made change reply is = absurd cc

-- all rules of altering, where the first six aren't broken
pub alter_accepted : (there replica found another named sd fits same dump taken : Bool) (x y : Refusal) (made change : Change) (reply : Reply) → there ≡ true → replica ≡ false → found ≡ true → another ≡ false → named ≡ true → sd ≡ true
    → Some made ≡ (if fits && (same && (not dump && not taken)) then Some change else None)
    → decided.Change made reply ≡ told (decided_by (first_broken ((not there, x) ∷ (replica, y) ∷ (not found, x) ∷ (another, x) ∷ (not named, x) ∷ (not sd, x) ∷ (not fits, x) ∷ (not same, x) ∷ (dump, x) ∷ (taken, x) ∷ [])) (Some change) reply)
alter_accepted there replica found another named sd fits same dump taken x y made change reply p q r s t u is =
    let last : List (Bool × Refusal) = (not fits, x) ∷ (not same, x) ∷ (dump, x) ∷ (taken, x) ∷ [] in
    accepted_by fits same dump taken x made change reply is
    ∙ ap (λ (o : Option Refusal). told (decided_by o (Some change) reply))
    (sym (passed (not there) x ((replica, y) ∷ (not found, x) ∷ (another, x) ∷ (not named, x) ∷ (not sd, x) ∷ last) (ap not p)
    ∙ passed replica y ((not found, x) ∷ (another, x) ∷ (not named, x) ∷ (not sd, x) ∷ last) q
    ∙ passed (not found) x ((another, x) ∷ (not named, x) ∷ (not sd, x) ∷ last) (ap not r)
    ∙ passed another x ((not named, x) ∷ (not sd, x) ∷ last) s
    ∙ passed (not named) x ((not sd, x) ∷ last) (ap not t)
    ∙ passed (not sd) x last (ap not u)))

-- that altering a table is accepted, by the database and the table that are there
abbrev Accepts : Bars → List ℕ → List ℕ → TableArg → ℕ → Change → Option HeldDb → Option HeldTable → Type 0
Accepts bars db name new moment made in_db old =
    decided.Change made Nothing
    ≡ told (decided_by (first_broken (
    (not (is_some in_db), InvalidOperation)
    ∷ (is_replica bars db, IsReplica)
    ∷ (not (is_some old), InvalidOperation)
    ∷ (names_another new.db db, InvalidOperation)
    ∷ (not (is_named new.table), InvalidOperation)
    ∷ (not new.has_sd, InvalidOperation)
    ∷ (not (fits_columns new.rec), InvalidOperation)
    ∷ (changes_keys old new.rec, InvalidOperation)
    ∷ (renames new name && is_dumping bars db, InvalidOperation)
    ∷ (renames new name && is_some (at_name (kept_name new.table) (tables_of in_db)), InvalidOperation)
    ∷ []))
    (Some (record { kind = kind.AlterTable; db = db; db_born = born_of in_db; ops = table_put old name new moment }))
    Nothing)

-- the change that alters a table, where its last rules aren't broken; `to` is the name that it gets
abbrev alteration : Bars → List ℕ → List ℕ → TableArg → ℕ → HeldDb → HeldTable → List ℕ → Option Change
alteration bars db name new moment in_db old to =
    if fits_columns new.rec && (have_same_keys old.rec.keys (lower_columns new.rec.keys) && (not (not (bytes_eq to name) && is_dumping bars db) && not (not (bytes_eq to name) && is_some (at_name to in_db.tables))))
    then Some (record {
      kind = kind.AlterTable;
      db = db;
      db_born = in_db.born;
      ops = if not (bytes_eq to name) then MoveTable name old.born to (altered_table old.rec new.rec moment) ∷ [] else PutTable name old.born (altered_table old.rec new.rec moment) ∷ [];
    })
    else None

-- altering a table is accepted, where the first rules aren't broken and the change is made
pub table_is_altered : (cat : Catalogue) (bars : Bars) (db name : List ℕ) (new : TableArg) (moment : ℕ) (in_db : HeldDb) (old : HeldTable) (to : List ℕ) (made : Change) → database cat db ≡ Some in_db → is_replica bars db ≡ false → table cat db name ≡ Some old
    → names_another new.db db ≡ false → is_named new.table ≡ true → new.has_sd ≡ true → to ≡ kept_name new.table → Some made ≡ alteration bars db name new moment in_db old to
    → decided.Change made Nothing ≡ told (decided_by (first_broken (alter_table_rules cat bars db name new)) (Some (table_altered cat db name new moment)) Nothing)
table_is_altered cat bars db name new moment in_db old to made there free found another named sd same is =
    let to_kept : Some made ≡ alteration bars db name new moment in_db old (kept_name new.table) = is ∙ ap (λ (n : List ℕ). alteration bars db name new moment in_db old n) same in
    let accepted : Accepts bars db name new moment made (Some in_db) (Some old) =
    alter_accepted true (is_replica bars db) true (names_another new.db db) (is_named new.table) new.has_sd (fits_columns new.rec) (have_same_keys old.rec.keys (lower_columns new.rec.keys))
    (renames new name && is_dumping bars db) (renames new name && is_some (at_name (kept_name new.table) in_db.tables)) InvalidOperation IsReplica made _ Nothing refl free refl another named sd to_kept in
    subst (λ (o : Option HeldDb). Accepts bars db name new moment made o (table cat db name)) (sym there)
    (subst (λ (o : Option HeldTable). Accepts bars db name new moment made (Some in_db) o) (sym found) accepted)

-- ---- what is there

table_there : (held : Option HeldTable) → not (is_some held) ≡ false → is_table_born (table_born held) held ≡ true
table_there None is = absurd cc
table_there (Some held) is = eq-eqb held.born held.born refl

-- ---- creating

-- a table fits where there is none
fits_free : (born : ℕ) (new : TableArg) (moment : ℕ) (held : Option HeldTable) → is_some held ≡ false → fits_over born (made_table new.rec moment) held ≡ true
fits_free born new moment None is = refl
fits_free born new moment (Some held) is = absurd cc

named_there : (cat : Catalogue) (name : Option (List ℕ)) → not (names_database cat name) ≡ false → not (has_database cat (kept_name name)) ≡ false
named_there cat None is = absurd cc
named_there cat (Some name) is = is

-- what an accepted creation of a table changes can be taken
pub create_table_taken : (cat : Catalogue) (bars : Bars) (new : TableArg) (moment next : ℕ) → first_broken (create_table_rules cat bars new) ≡ None → nat_le next 9223372036854775807 ≡ true → takes_call cat next (table_created cat new moment next) ≡ true
create_table_taken cat bars new moment next none room =
    let tests = unbroken (create_table_rules cat bars new) none in
    let op : Op = PutTable (kept_name new.table) next (made_table new.rec moment) in
    let lawful : is_lawful_table (kept_name new.table) (made_table new.rec moment) ≡ true =
    both (is_object_name (kept_name new.table)) (fits_columns new.rec) (kept_named new.table tests.1.1.0) (holds (fits_columns new.rec) tests.1.1.1.1.1.0) in
    let fits : fits_op cat (kept_name new.db) op ≡ true =
    both (is_lawful_table (kept_name new.table) (made_table new.rec moment)) (fits_over next (made_table new.rec moment) (table cat (kept_name new.db) (kept_name new.table))) lawful
    (fits_free next new moment (table cat (kept_name new.db) (kept_name new.table)) tests.1.1.1.0) in
    call_taken cat kind.CreateTable (kept_name new.db) (born_of (database cat (kept_name new.db))) op next room
    (fits_there cat kind.CreateTable (kept_name new.db) op (named_there cat new.db tests.0) fits)

-- ---- dropping

-- what an accepted dropping of a table changes can be taken
pub drop_table_taken : (cat : Catalogue) (bars : Bars) (db name : List ℕ) (next : ℕ) → first_broken (drop_table_rules cat bars db name) ≡ None → nat_le next 9223372036854775807 ≡ true → takes_call cat next (table_dropped cat db name) ≡ true
drop_table_taken cat bars db name next none room =
    let tests = unbroken (drop_table_rules cat bars db name) none in
    let op : Op = DropTable name (table_born (table cat db name)) in
    call_taken cat kind.DropTable db (born_of (database cat db)) op next room
    (fits_there cat kind.DropTable db op tests.0 (table_there (table cat db name) tests.1.1.0))

-- ---- altering, once more

-- lists of columns with the same names and types are equally long
same_length : (old new : List Column) → have_same_keys old new ≡ true → length old ≡ length new
same_length [] [] same = refl
same_length [] (key ∷ keys) same = absurd cc
same_length (key ∷ keys) [] same = absurd cc
same_length (old ∷ olds) (new ∷ news) same =
    ap suc (same_length olds news (both_last (bytes_eq old.ty new.ty) (have_same_keys olds news) (both_last (bytes_eq old.name new.name) (bytes_eq old.ty new.ty && have_same_keys olds news) same)))

-- a table that keeps its keys fits over itself
fits_itself : (held : HeldTable) (rec : TableRec) → have_same_keys held.rec.keys rec.keys ≡ true → fits_over held.born rec (Some held) ≡ true
fits_itself held rec same = both (held.born == held.born) (length held.rec.keys == length rec.keys) (eq-eqb held.born held.born refl) (eq-eqb (length held.rec.keys) (length rec.keys) (same_length held.rec.keys rec.keys same))

-- the operation that alters a table, under its name or another one
altered_by : (cat : Catalogue) (db name : List ℕ) (new : TableArg) (held : HeldTable) (rec : TableRec) (next : ℕ) (renamed : Bool) → table cat db name ≡ Some held → renames new name ≡ renamed → have_same_keys held.rec.keys rec.keys ≡ true
    → is_lawful_table (kept_name new.table) rec ≡ true → (renamed && has_table cat db (kept_name new.table)) ≡ false → not (has_database cat db) ≡ false → nat_le next 9223372036854775807 ≡ true
    → takes_call cat next (record { kind = kind.AlterTable; db = db; db_born = born_of (database cat db); ops = if renamed then MoveTable name held.born (kept_name new.table) rec ∷ [] else PutTable name held.born rec ∷ [] }) ≡ true
altered_by cat db name new held rec next true is renamed same lawful free there room =
    let op : Op = MoveTable name held.born (kept_name new.table) rec in
    let fits : fits_op cat db op ≡ true =
    both (is_table_born held.born (table cat db name)) _ (ap (λ (o : Option HeldTable). is_table_born held.born o) is ∙ eq-eqb held.born held.born refl)
    (both (fits_over held.born rec (table cat db name)) _ (ap (λ (o : Option HeldTable). fits_over held.born rec o) is ∙ fits_itself held rec same)
    (both (is_lawful_table (kept_name new.table) rec) (not (has_table cat db (kept_name new.table))) lawful (ap not free))) in
    call_taken cat kind.AlterTable db (born_of (database cat db)) op next room (fits_there cat kind.AlterTable db op there fits)
altered_by cat db name new held rec next false is renamed same lawful free there room =
    let op : Op = PutTable name held.born rec in
    let same_name : kept_name new.table ≡ name = (bytes_eq-Decides (kept_name new.table) name).0 (holds (bytes_eq (kept_name new.table) name) renamed) in
    let fits : fits_op cat db op ≡ true =
    both (is_lawful_table name rec) (fits_over held.born rec (table cat db name)) (ap (λ (n : List ℕ). is_lawful_table n rec) (sym same_name) ∙ lawful)
    (ap (λ (o : Option HeldTable). fits_over held.born rec o) is ∙ fits_itself held rec same) in
    call_taken cat kind.AlterTable db (born_of (database cat db)) op next room (fits_there cat kind.AlterTable db op there fits)

alter_taken_by : (cat : Catalogue) (bars : Bars) (db name : List ℕ) (new : TableArg) (moment next : ℕ) (held : Option HeldTable) → table cat db name ≡ held → first_broken (alter_table_rules cat bars db name new) ≡ None → nat_le next 9223372036854775807 ≡ true
    → takes_call cat next (table_altered cat db name new moment) ≡ true
alter_taken_by cat bars db name new moment next None is none room =
    let tests = unbroken (alter_table_rules cat bars db name new) none in
    let absent : true ≡ false = ap (λ (o : Option HeldTable). not (is_some o)) (sym is) ∙ tests.1.1.0 in
    absurd cc
alter_taken_by cat bars db name new moment next (Some held) is none room =
    let tests = unbroken (alter_table_rules cat bars db name new) none in
    let rec_kept : TableRec = altered_table held.rec new.rec moment in
    let same : have_same_keys held.rec.keys rec_kept.keys ≡ true =
    holds (have_same_keys held.rec.keys rec_kept.keys) (ap (λ (o : Option HeldTable). changes_keys o new.rec) (sym is) ∙ tests.1.1.1.1.1.1.1.0) in
    let lawful : is_lawful_table (kept_name new.table) rec_kept ≡ true =
    both (is_object_name (kept_name new.table)) (fits_columns new.rec) (kept_named new.table tests.1.1.1.1.0) (holds (fits_columns new.rec) tests.1.1.1.1.1.1.0) in
    ap (λ (o : Option HeldTable). takes_call cat next (record { kind = kind.AlterTable; db = db; db_born = born_of (database cat db); ops = table_put o name new moment })) is
    ∙ altered_by cat db name new held rec_kept next (renames new name) is refl same lawful tests.1.1.1.1.1.1.1.1.1.0 tests.0 room

-- what an accepted altering of a table changes can be taken
pub alter_table_taken : (cat : Catalogue) (bars : Bars) (db name : List ℕ) (new : TableArg) (moment next : ℕ) → first_broken (alter_table_rules cat bars db name new) ≡ None → nat_le next 9223372036854775807 ≡ true → takes_call cat next (table_altered cat db name new moment) ≡ true
alter_table_taken cat bars db name new moment next none room = alter_taken_by cat bars db name new moment next (table cat db name) refl none room

-- ---- an altering has an operation

-- a table that is there is put or moved
either_some : (b : Bool) (first last : Op) → are_some (if b then first ∷ [] else last ∷ []) ≡ true
either_some true first last = refl
either_some false first last = refl

put_some : (held : Option HeldTable) (name : List ℕ) (new : TableArg) (moment : ℕ) → not (is_some held) ≡ false → are_some (table_put held name new moment) ≡ true
put_some None name new moment there = absurd cc
put_some (Some held) name new moment there = either_some (renames new name) _ _

-- what an accepted altering of a table changes has an operation
pub alter_table_makes : (cat : Catalogue) (bars : Bars) (db name : List ℕ) (new : TableArg) (moment : ℕ) → first_broken (alter_table_rules cat bars db name new) ≡ None → has_operation (table_altered cat db name new moment) ≡ true
alter_table_makes cat bars db name new moment none = put_some (table cat db name) name new moment (unbroken (alter_table_rules cat bars db name new) none).1.1.0
