-- Partitions that are put under one table can be put one after the other.
use Rattle.std.proofs.Common.{◌≡◌, ℕ, Bool, true, false, not, ◌||◌, List, [], ◌∷◌, Option, Some, None, is_some, cond, nat_le, refl, sym, ap, ◌∙◌}
use Rattle.std.proofs.lemmas.Map.Text.{is_eq-slice_cmp}
use Rattle.std.proofs.lemmas.Slice.Eq.{bytes_eq-Decides}
use Rattle.std.specs.List.{list_all}
use Rattle.std.specs.Map.{lookup, set_value}
use Rattle.cat_types.specs.declared.changes.Change.{Change}
use Rattle.cat_types.specs.declared.changes.EventKind.{EventKind}
use Rattle.cat_types.specs.declared.changes.Op.TheVariants.{PutPart}
use Rattle.cat_values.specs.declared.records.PartRec.{PartRec}
use Rattle.cat_objects.specs.Catalogue.{Catalogue, at_name, database, is_name, table, tables_of}
use Rattle.cat_objects.specs.Changes.{are_puts, are_some, can_hold, changed_in, changed_parts, changed_value, done_op, fits_database, fits_kind, fits_op, fits_ops, has_operation, is_any, is_born, is_one, puts_under, takes_call, takes_change, with_parts, with_tables}
use Rattle.cat_objects.specs.Parts.{PartList, put_part}
use Rattle.cat_objects.specs.declared.held.HeldDb.{HeldDb}
use Rattle.cat_objects.specs.declared.held.HeldTable.{HeldTable}
use Rattle.rulings.specs.Changes.{born_of, may_have, part_change, table_born}
use Rattle.part_rules.specs.PartChanges.{ops_under}
use Rattle.rulings.proofs.Rules.{both, both_first, both_last, born_there}

-- ---- look-ups in what was changed

module _ {K X : Type 0} (test : K → Bool) where
  set_by : (b : Bool) (e : K × X) (es : List (K × X)) (w x : X) → test e.0 ≡ b → (lookup test es ≡ Some x → lookup test (set_value test es w) ≡ Some w) → lookup test (e ∷ es) ≡ Some x → lookup test (set_value test (e ∷ es) w) ≡ Some w
  set_by true e es w x is later there = ap (λ (b : Bool). lookup test (cond b ((e.0, w) ∷ es) (e ∷ set_value test es w))) is ∙ ap (λ (b : Bool). cond b (Some w) (lookup test es)) is
  set_by false e es w x is later there =
      ap (λ (b : Bool). lookup test (cond b ((e.0, w) ∷ es) (e ∷ set_value test es w))) is ∙ ap (λ (b : Bool). cond b (Some e.1) (lookup test (set_value test es w))) is
      ∙ later (sym (ap (λ (b : Bool). cond b (Some e.1) (lookup test es)) is) ∙ there)

  -- what is set at a key that is there stands there
  set_there : (es : List (K × X)) (w x : X) → lookup test es ≡ Some x → lookup test (set_value test es w) ≡ Some w
  set_there [] w x there = absurd cc
  set_there (e ∷ es) w x there = set_by (test e.0) e es w x refl (set_there es w x) there

  changed_by : (b : Bool) (change : X → X) (e : K × X) (es : List (K × X)) (x : X) → test e.0 ≡ b → (lookup test es ≡ Some x → lookup test (changed_value test change es) ≡ Some (change x)) → lookup test (e ∷ es) ≡ Some x
      → lookup test (changed_value test change (e ∷ es)) ≡ Some (change x)
  changed_by true change e es x is later there =
      ap (λ (b : Bool). lookup test (cond b ((e.0, change e.1) ∷ es) (e ∷ changed_value test change es))) is ∙ ap (λ (b : Bool). cond b (Some (change e.1)) (lookup test es)) is
      ∙ ap Some (ap change (some_same (sym (ap (λ (b : Bool). cond b (Some e.1) (lookup test es)) is) ∙ there)))
    where
      some_same : {Y : Type 0} {y z : Y} → Some y ≡ Some z → y ≡ z
      some_same is = cc
  changed_by false change e es x is later there =
      ap (λ (b : Bool). lookup test (cond b ((e.0, change e.1) ∷ es) (e ∷ changed_value test change es))) is ∙ ap (λ (b : Bool). cond b (Some e.1) (lookup test (changed_value test change es))) is
      ∙ later (sym (ap (λ (b : Bool). cond b (Some e.1) (lookup test es)) is) ∙ there)

  -- what is changed at a key that is there stands there
  changed_there : (change : X → X) (es : List (K × X)) (x : X) → lookup test es ≡ Some x → lookup test (changed_value test change es) ≡ Some (change x)
  changed_there change [] x there = absurd cc
  changed_there change (e ∷ es) x there = changed_by (test e.0) change e es x refl (changed_there change es x) there

-- ---- one put

-- a database after a partition was put under one of its tables
abbrev pub after_put : List ℕ → List (List ℕ) → PartRec → HeldDb → HeldDb
after_put name values rec within = with_tables (changed_parts name (put_part values rec) within.tables) within

database_after : (cat : Catalogue) (db name : List ℕ) (db_born at : ℕ) (values : List (List ℕ)) (rec : PartRec) (within : HeldDb) → database cat db ≡ Some within
    → database (done_op db db_born cat (PutPart name at values rec)) db ≡ Some (after_put name values rec within)
database_after cat db name db_born at values rec within there =
    ap (λ (o : Option HeldDb). database (changed_in o db (changed_parts name (put_part values rec)) cat) db) there
    ∙ set_there (is_name db) cat.databases (after_put name values rec within) within there

table_after : (name : List ℕ) (values : List (List ℕ)) (rec : PartRec) (within : HeldDb) (held : HeldTable) → at_name name within.tables ≡ Some held
    → at_name name (after_put name values rec within).tables ≡ Some (with_parts (put_part values rec held.parts) held)
table_after name values rec within held found = changed_there (is_name name) (λ t. with_parts (put_part values rec t.parts) t) within.tables held found

-- ---- one after the other

fits_puts : (cat : Catalogue) (db name : List ℕ) (db_born : ℕ) (parts : PartList) (within : HeldDb) (held : HeldTable) → database cat db ≡ Some within → at_name name within.tables ≡ Some held
    → list_all (λ p. can_hold held.born p.0 (Some held)) parts ≡ true → fits_ops cat db db_born (ops_under name held.born parts) ≡ true
fits_puts cat db name db_born [] within held there found fit = refl
fits_puts cat db name db_born (p ∷ ps) within held there found fit =
    both (fits_op cat db (PutPart name held.born p.0 p.1)) (fits_ops (done_op db db_born cat (PutPart name held.born p.0 p.1)) db db_born (ops_under name held.born ps))
    (ap (λ (o : Option HeldTable). can_hold held.born p.0 o) (ap (λ (o : Option HeldDb). at_name name (tables_of o)) there ∙ found) ∙ both_first (can_hold held.born p.0 (Some held)) (list_all (λ q. can_hold held.born q.0 (Some held)) ps) fit)
    (fits_puts (done_op db db_born cat (PutPart name held.born p.0 p.1)) db name db_born ps (after_put name p.0 p.1 within) (with_parts (put_part p.0 p.1 held.parts) held)
    (database_after cat db name db_born held.born p.0 p.1 within there) (table_after name p.0 p.1 within held found)
    (both_last (can_hold held.born p.0 (Some held)) (list_all (λ q. can_hold held.born q.0 (Some held)) ps) fit))

name_itself : (name : List ℕ) → is_name name name ≡ true
name_itself name = is_eq-slice_cmp name name ∙ (bytes_eq-Decides name name).1 refl

all_under : (name : List ℕ) (born : ℕ) (parts : PartList) → list_all (puts_under name) (ops_under name born parts) ≡ true
all_under name born [] = refl
all_under name born (p ∷ ps) = both (is_name name name) (list_all (puts_under name) (ops_under name born ps)) (name_itself name) (all_under name born ps)

or_last : (a b : Bool) → b ≡ true → (a || b) ≡ true
or_last true b is = refl
or_last false b is = is

-- operations that put partitions under one table are ones that a call may make
lawful_puts : (name : List ℕ) (born : ℕ) (parts : PartList) → are_some (ops_under name born parts) ≡ true → (is_one is_any (ops_under name born parts) || are_puts (ops_under name born parts)) ≡ true
lawful_puts name born [] some = absurd cc
lawful_puts name born (p ∷ ps) some = or_last (is_one is_any (ops_under name born (p ∷ ps))) (are_puts (ops_under name born (p ∷ ps))) (all_under name born ps)

-- a change that puts partitions under a table that is there, each of which it can have, can be taken
pub puts_taken : (cat : Catalogue) (kind : EventKind) (db name : List ℕ) (parts : PartList) (next : ℕ) (within : Option HeldDb) (held : Option HeldTable) → ((c : Change) → fits_kind kind cat next c ≡ fits_database cat c)
    → database cat db ≡ within → table cat db name ≡ held → not (is_some held) ≡ false → list_all (λ p. may_have held p.0) parts ≡ true
    → has_operation (part_change kind cat db (ops_under name (table_born held) parts)) ≡ true → nat_le next 9223372036854775807 ≡ true
    → takes_call cat next (part_change kind cat db (ops_under name (table_born held) parts)) ≡ true
puts_taken cat kind db name parts next within None same there found is fit some room = absurd cc
puts_taken cat kind db name parts next None (Some held) same there found is fit some room =
    let absent : None ≡ Some held = sym (ap (λ (o : Option HeldDb). at_name name (tables_of o)) there) ∙ found in
    absurd cc
puts_taken cat kind db name parts next (Some within) (Some held) same there found is fit some room =
    let change : Change = part_change kind cat db (ops_under name held.born parts) in
    let inside : at_name name within.tables ≡ Some held = sym (ap (λ (o : Option HeldDb). at_name name (tables_of o)) there) ∙ found in
    let born : is_born (born_of (database cat db)) (database cat db) ≡ true = born_there (database cat db) (ap (λ (o : Option HeldDb). not (is_some o)) there) in
    let ops : fits_ops cat db (born_of (database cat db)) (ops_under name held.born parts) ≡ true = fits_puts cat db name (born_of (database cat db)) parts within held there inside fit in
    both (takes_change cat next change) (is_one is_any change.ops || are_puts change.ops)
    (both (nat_le next 9223372036854775807) (fits_kind kind cat next change) room (same change ∙ both (is_born (born_of (database cat db)) (database cat db)) (fits_ops cat db (born_of (database cat db)) (ops_under name held.born parts)) born ops))
    (lawful_puts name held.born parts some)
