-- That what is tested of an operation is that it is lawful.
use Rattle.std.proofs.Common.{◌≡◌, ℕ, Bool, true, false, not, ◌&&◌, List, [], ◌∷◌, Option, Some, None, is_some, refl, ap, ◌∙◌}
use Rattle.std.specs.Option.{option_map}
use Rattle.cat_rules.specs.Tables.{do_fit_together}
use Rattle.cat_types.specs.declared.changes.Op.{Op}
use Rattle.cat_types.specs.declared.changes.Op.TheVariants.{DropDb, DropPart, DropTable, MovePart, MoveTable, PutDb, PutPart, PutTable}
use Rattle.cat_values.specs.Names.{is_object_name}
use Rattle.cat_values.specs.declared.records.PartRec.{PartRec}
use Rattle.cat_values.specs.declared.records.TableRec.{TableRec}
use Rattle.cat_objects.specs.Catalogue.{Catalogue, database, has_part, has_table, table}
use Rattle.cat_objects.specs.Changes.{done_op, fits_op, fits_ops, fits_over, is_drop_db, is_lawful_table}
use Rattle.cat_objects.specs.Lawful.{FittingKeeps, is_lawful, keep_database, keeps_keys, takes_values}
use Rattle.cat_objects.specs.Seen.{goes_over, has_keys_of, has_room, seen_of, shape_of}
use Rattle.cat_objects.specs.declared.held.HeldTable.{HeldTable}
use Rattle.cat_objects.specs.declared.seen.Seen.{Seen}
use Rattle.cat_objects.proofs.Taking.{first_of, last_of}

-- ---- by the shape of a table

over_shape : (born : ℕ) (rec : TableRec) (o : Option HeldTable) → goes_over born rec (option_map shape_of o) ≡ fits_over born rec o
over_shape born rec None = refl
over_shape born rec (Some held) = refl

keys_shape : (rec : TableRec) (o : Option HeldTable) → has_keys_of rec (option_map shape_of o) ≡ keeps_keys rec o
keys_shape rec None = refl
keys_shape rec (Some held) = refl

room_shape : (values : List (List ℕ)) (o : Option HeldTable) → has_room values (option_map shape_of o) ≡ takes_values values o
room_shape values None = refl
room_shape values (Some held) = refl

pub some_shape : (o : Option HeldTable) → is_some (option_map shape_of o) ≡ is_some o
some_shape None = refl
some_shape (Some held) = refl

-- ---- tests in another order

named_put : (a b c : Bool) → ((a && b) && c) ≡ ((a && true) && (b && c))
named_put true b c = refl
named_put false b c = refl

named_one : (a b : Bool) → (a && b) ≡ ((a && true) && b)
named_one true b = refl
named_one false b = refl

named_move : (a b c d : Bool) → (a && ((b && c) && d)) ≡ ((a && (b && true)) && (c && d))
named_move true true c d = refl
named_move true false c d = refl
named_move false b c d = refl

three : (a b c : Bool) → ((a && b) && c) ≡ (a && (b && c))
three true b c = refl
three false b c = refl

-- ---- the operations

pub put_lawful : (cat : Catalogue) (db name : List ℕ) (born : ℕ) (rec : TableRec) (seen : Seen) → seen ≡ seen_of (database cat db) name → (is_lawful_table name rec && goes_over born rec seen.table) ≡ is_lawful cat db (PutTable name born rec)
put_lawful cat db name born rec seen is =
    ap (λ (s : Seen). is_lawful_table name rec && goes_over born rec s.table) is
    ∙ ap (λ (b : Bool). is_lawful_table name rec && b) (over_shape born rec (table cat db name))
    ∙ named_put (is_object_name name) (do_fit_together rec.sd.cols rec.keys) (fits_over born rec (table cat db name))

pub move_lawful : (cat : Catalogue) (db name to : List ℕ) (born : ℕ) (rec : TableRec) (seen over : Seen) → seen ≡ seen_of (database cat db) name → over ≡ seen_of (database cat db) to
    → (is_object_name name && (is_lawful_table to rec && (has_keys_of rec seen.table && not (is_some over.table)))) ≡ is_lawful cat db (MoveTable name born to rec)
move_lawful cat db name to born rec seen over is also =
    ap (λ (s : Seen). is_object_name name && (is_lawful_table to rec && (has_keys_of rec s.table && not (is_some over.table)))) is
    ∙ ap (λ (s : Seen). is_object_name name && (is_lawful_table to rec && (has_keys_of rec (option_map shape_of (table cat db name)) && not (is_some s.table)))) also
    ∙ ap (λ (b : Bool). is_object_name name && (is_lawful_table to rec && (b && not (is_some (option_map shape_of (table cat db to)))))) (keys_shape rec (table cat db name))
    ∙ ap (λ (b : Bool). is_object_name name && (is_lawful_table to rec && (keeps_keys rec (table cat db name) && not b))) (some_shape (table cat db to))
    ∙ named_move (is_object_name name) (is_object_name to) (do_fit_together rec.sd.cols rec.keys) (keeps_keys rec (table cat db name) && not (has_table cat db to))

pub part_lawful : (cat : Catalogue) (db name : List ℕ) (values : List (List ℕ)) (seen : Seen) → seen ≡ seen_of (database cat db) name → (is_object_name name && has_room values seen.table) ≡ ((is_object_name name && true) && takes_values values (table cat db name))
part_lawful cat db name values seen is =
    ap (λ (s : Seen). is_object_name name && has_room values s.table) is
    ∙ ap (λ (b : Bool). is_object_name name && b) (room_shape values (table cat db name))
    ∙ named_one (is_object_name name) (takes_values values (table cat db name))

pub part_move_lawful : (cat : Catalogue) (db name : List ℕ) (born : ℕ) (values to : List (List ℕ)) (rec : PartRec)
    → (((is_object_name name && true) && takes_values to (table cat db name)) && not (has_part cat db name to)) ≡ is_lawful cat db (MovePart name born values to rec)
part_move_lawful cat db name born values to rec = three (is_object_name name && true) (takes_values to (table cat db name)) (not (has_part cat db name to))

-- ---- operations that fit drop no database

stays_by : (cat : Catalogue) (db : List ℕ) (op : Op) → fits_op cat db op ≡ true → not (is_drop_db op) ≡ true
stays_by cat db (PutDb rec) is = refl
stays_by cat db DropDb is = absurd cc
stays_by cat db (PutTable name born rec) is = refl
stays_by cat db (DropTable name born) is = refl
stays_by cat db (MoveTable name born to rec) is = refl
stays_by cat db (PutPart name born values rec) is = refl
stays_by cat db (DropPart name born values) is = refl
stays_by cat db (MovePart name born values to rec) is = refl

pub fitting_keeps : FittingKeeps
fitting_keeps cat db born [] is = refl
fitting_keeps cat db born (op ∷ ops) is =
    ap (λ (b : Bool). b && keep_database ops) (stays_by cat db op (first_of (fits_op cat db op) (fits_ops (done_op db born cat op) db born ops) is))
    ∙ fitting_keeps (done_op db born cat op) db born ops (last_of (fits_op cat db op) (fits_ops (done_op db born cat op) db born ops) is)
