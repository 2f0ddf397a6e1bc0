-- Tests of the catalogue, as facts on the objects of a database.
use Rattle.std.proofs.Common.{◌≡◌, ℕ, ◌≤◌, true, not, ◌&&◌, List, [], ◌∷◌, length, Option, Some, None, is_some, refl, sym, ◌∙◌, ap, arith}
use Rattle.std.specs.Prelude.{◌==◌, nat_le}
use Rattle.std.proofs.lemmas.Bool.Decides.{nat_tests}
use Rattle.std.specs.List.{list_all}
use Rattle.std.specs.Option.{option_map}
use Rattle.cat_objects.specs.Catalogue.{Catalogue, has_part, has_table, part, table}
use Rattle.cat_objects.specs.Changes.{can_hold, fits_op, fits_over, is_lawful_table, is_table_born, is_valid_value}
use Rattle.cat_objects.specs.Lawful.{is_lawful, keeps_keys, may_stand, names_in, takes_values}
use Rattle.cat_objects.specs.declared.held.HeldTable.{HeldTable}
use Rattle.cat_objects.proofs.Fitting.{both}
use Rattle.cat_objects.proofs.Taking.{first_of, last_of}
use Rattle.cat_types.specs.declared.changes.Op.{Op}
use Rattle.cat_types.specs.declared.changes.Op.TheVariants.{DropDb, DropPart, DropTable, MovePart, MoveTable, PutDb, PutPart, PutTable}
use Rattle.cat_values.specs.Names.{is_object_name}
use Rattle.cat_values.specs.declared.records.PartRec.{PartRec}
use Rattle.cat_values.specs.declared.records.TableRec.{TableRec}
use Rattle.replicas.specs.Catalogues.{is_sound, objects_of, shown_table}
use Rattle.replicas.specs.Objects.{Name, Values, Table, Objects, Has, HasBorn, Takes}
use Rattle.replicas.specs.Operations.{Fits, FitsOver}
use Rattle.replicas.proofs.Basics.{not_both, one}
use Rattle.replicas.proofs.Tests.{has_decides}

-- ---- a table that may be there

abbrev pub shown : Option HeldTable → Option Table
shown o = option_map shown_table o

equal_of : (a b : ℕ) → (a == b) ≡ true → a ≡ b
equal_of a b is = grind (arith, nat_tests)

is_equal : (a b : ℕ) → a ≡ b → (a == b) ≡ true
is_equal a b is = grind (arith, nat_tests)

born_fact : (b : ℕ) (o : Option HeldTable) → is_table_born b o ≡ true → HasBorn b (shown o)
born_fact b None is = absurd cc
born_fact b (Some held) is = record { table = shown_table held; is = refl; born = equal_of held.born b is }

born_test : (b : ℕ) (o : Option HeldTable) → HasBorn b (shown o) → is_table_born b o ≡ true
born_test b None h = absurd (not_both refl h.is)
born_test b (Some held) h = is_equal held.born b (ap (λ (x : Table). x.0) (one refl h.is) ∙ h.born)

over_fact : (b : ℕ) (rec : TableRec) (o : Option HeldTable) → fits_over b rec o ≡ true → FitsOver b (length rec.keys) (shown o)
over_fact b rec None is t there = absurd (not_both refl there)
over_fact b rec (Some held) is t there =
    let same : shown_table held ≡ t = one refl there in (
      ap (λ (y : Table). y.0) (sym same) ∙ equal_of held.born b (first_of (held.born == b) (length held.rec.keys == length rec.keys) is),
      ap (λ (y : Table). length y.1.keys) (sym same) ∙ equal_of (length held.rec.keys) (length rec.keys) (last_of (held.born == b) (length held.rec.keys == length rec.keys) is),
    )

over_test : (b : ℕ) (rec : TableRec) (o : Option HeldTable) → FitsOver b (length rec.keys) (shown o) → fits_over b rec o ≡ true
over_test b rec None h = refl
over_test b rec (Some held) h = both (is_equal held.born b (h (shown_table held) refl).0) (is_equal (length held.rec.keys) (length rec.keys) (h (shown_table held) refl).1)

over_keys : (b : ℕ) (rec : TableRec) (o : Option HeldTable) → fits_over b rec o ≡ true → keeps_keys rec o ≡ true
over_keys b rec None is = refl
over_keys b rec (Some held) is = last_of (held.born == b) (length held.rec.keys == length rec.keys) is

-- a table that can have a partition with these values
pub record Room (b : ℕ) (v : Values) (o : Option HeldTable) : Type 0 where
  pub takes : Takes b (length v) (shown o)
  pub valid : list_all is_valid_value v ≡ true

room_fact : (b : ℕ) (v : Values) (o : Option HeldTable) → can_hold b v o ≡ true → Room b v o
room_fact b v None is = absurd cc
room_fact b v (Some held) is =
    let born = first_of (held.born == b) (nat_le 1 (length held.rec.keys) && ((length v == length held.rec.keys) && list_all is_valid_value v)) is in
    let rest = last_of (held.born == b) (nat_le 1 (length held.rec.keys) && ((length v == length held.rec.keys) && list_all is_valid_value v)) is in
    let some = first_of (nat_le 1 (length held.rec.keys)) ((length v == length held.rec.keys) && list_all is_valid_value v) rest in
    let more = last_of (nat_le 1 (length held.rec.keys)) ((length v == length held.rec.keys) && list_all is_valid_value v) rest in
    let keys = equal_of (length v) (length held.rec.keys) (first_of (length v == length held.rec.keys) (list_all is_valid_value v) more) in
    record {
      takes = record { table = shown_table held; is = refl; born = equal_of held.born b born; keys = sym keys; some_key = key_up (length held.rec.keys) (length v) keys some };
      valid = last_of (length v == length held.rec.keys) (list_all is_valid_value v) more;
    }
  where
    key_up : (keys count : ℕ) → count ≡ keys → nat_le 1 keys ≡ true → 1 ≤ count
    key_up keys count same some = grind (arith, nat_tests)

room_test : (b : ℕ) (v : Values) (o : Option HeldTable) → Takes b (length v) (shown o) → list_all is_valid_value v ≡ true → can_hold b v o ≡ true
room_test b v None h valid = absurd (not_both refl h.is)
room_test b v (Some held) h valid =
    let same : shown_table held ≡ h.table = one refl h.is in
    let keys : length held.rec.keys ≡ length v = ap (λ (x : Table). length x.1.keys) same ∙ h.keys in
    both (is_equal held.born b (ap (λ (x : Table). x.0) same ∙ h.born))
    (both (some_up (length held.rec.keys) (length v) keys h.some_key) (both (is_equal (length v) (length held.rec.keys) (sym keys)) valid))
  where
    some_up : (keys count : ℕ) → keys ≡ count → 1 ≤ count → nat_le 1 keys ≡ true
    some_up keys count same some = grind (arith, nat_tests)

takes_values_of : (b : ℕ) (v : Values) (o : Option HeldTable) → can_hold b v o ≡ true → takes_values v o ≡ true
takes_values_of b v None is = absurd cc
takes_values_of b v (Some held) is = last_of (held.born == b) (nat_le 1 (length held.rec.keys) && ((length v == length held.rec.keys) && list_all is_valid_value v)) is

-- ---- absent or there

free_fact : (o : Option HeldTable) → not (is_some o) ≡ true → shown o ≡ None
free_fact None is = refl
free_fact (Some held) is = absurd cc

free_test : (o : Option HeldTable) → shown o ≡ None → not (is_some o) ≡ true
free_test None is = refl
free_test (Some held) is = absurd (not_both is refl)

absent_fact : (o : Option PartRec) → not (is_some o) ≡ true → o ≡ None
absent_fact None is = refl
absent_fact (Some p) is = absurd cc

absent_test : (o : Option PartRec) → o ≡ None → not (is_some o) ≡ true
absent_test o is = ap (λ (x : Option PartRec). not (is_some x)) is

-- ---- what fits

pub fits_fact : (cat : Catalogue) (w : Name) (op : Op) → Has (objects_of w cat).db → fits_op cat w op ≡ true → Fits op (objects_of w cat)
fits_fact cat w (PutDb rec) there is = there
fits_fact cat w DropDb there is = absurd cc
fits_fact cat w (PutTable n b rec) there is = over_fact b rec (table cat w n) (last_of (is_lawful_table n rec) (fits_over b rec (table cat w n)) is)
fits_fact cat w (DropTable n b) there is = born_fact b (table cat w n) is
fits_fact cat w (MoveTable n b to rec) there is =
    let rest = last_of (is_table_born b (table cat w n)) (fits_over b rec (table cat w n) && (is_lawful_table to rec && not (has_table cat w to))) is in
    let more = last_of (fits_over b rec (table cat w n)) (is_lawful_table to rec && not (has_table cat w to)) rest in (
      born_fact b (table cat w n) (first_of (is_table_born b (table cat w n)) (fits_over b rec (table cat w n) && (is_lawful_table to rec && not (has_table cat w to))) is),
      over_fact b rec (table cat w n) (first_of (fits_over b rec (table cat w n)) (is_lawful_table to rec && not (has_table cat w to)) rest),
      free_fact (table cat w to) (last_of (is_lawful_table to rec) (not (has_table cat w to)) more),
    )
fits_fact cat w (PutPart n b v rec) there is = (room_fact b v (table cat w n) is).takes
fits_fact cat w (DropPart n b v) there is = (
  born_fact b (table cat w n) (first_of (is_table_born b (table cat w n)) (has_part cat w n v) is),
  (has_decides (part cat w n v)).0 (last_of (is_table_born b (table cat w n)) (has_part cat w n v) is),
)
fits_fact cat w (MovePart n b v to rec) there is =
    let rest = last_of (can_hold b to (table cat w n)) (has_part cat w n v && not (has_part cat w n to)) is in (
      (room_fact b to (table cat w n) (first_of (can_hold b to (table cat w n)) (has_part cat w n v && not (has_part cat w n to)) is)).takes,
      (has_decides (part cat w n v)).0 (first_of (has_part cat w n v) (not (has_part cat w n to)) rest),
      absent_fact (part cat w n to) (last_of (has_part cat w n v) (not (has_part cat w n to)) rest),
    )

-- ---- what is sound

-- the table that stands at a name has an object name
abbrev pub AreNamed : Objects → Type 0
AreNamed s = (n : Name) (x : Table) → s.tab n ≡ Some x → is_object_name n ≡ true

pub sound_fact : (cat : Catalogue) (w : Name) (op : Op) → Has (objects_of w cat).db → AreNamed (objects_of w cat) → fits_op cat w op ≡ true → is_sound op ≡ true
sound_fact cat w (PutDb rec) there named is = refl
sound_fact cat w DropDb there named is = refl
sound_fact cat w (PutTable n b rec) there named is = first_of (is_lawful_table n rec) (fits_over b rec (table cat w n)) is
sound_fact cat w (DropTable n b) there named is = let h = fits_fact cat w (DropTable n b) there is in named n h.table h.is
sound_fact cat w (MoveTable n b to rec) there named is =
    let h = fits_fact cat w (MoveTable n b to rec) there is in
    let rest = last_of (is_table_born b (table cat w n)) (fits_over b rec (table cat w n) && (is_lawful_table to rec && not (has_table cat w to))) is in
    let more = last_of (fits_over b rec (table cat w n)) (is_lawful_table to rec && not (has_table cat w to)) rest in
    both (named n h.0.table h.0.is) (first_of (is_lawful_table to rec) (not (has_table cat w to)) more)
sound_fact cat w (PutPart n b v rec) there named is = let h = room_fact b v (table cat w n) is in both (named n h.takes.table h.takes.is) h.valid
sound_fact cat w (DropPart n b v) there named is = let h = fits_fact cat w (DropPart n b v) there is in named n h.0.table h.0.is
sound_fact cat w (MovePart n b v to rec) there named is =
    let h = room_fact b to (table cat w n) (first_of (can_hold b to (table cat w n)) (has_part cat w n v && not (has_part cat w n to)) is) in
    both (named n h.takes.table h.takes.is) h.valid

-- ---- and back

pub fits_test : (cat : Catalogue) (w : Name) (op : Op) → is_sound op ≡ true → Fits op (objects_of w cat) → fits_op cat w op ≡ true
fits_test cat w (PutDb rec) sound h = refl
fits_test cat w DropDb sound h = absurd h
fits_test cat w (PutTable n b rec) sound h = both sound (over_test b rec (table cat w n) h)
fits_test cat w (DropTable n b) sound h = born_test b (table cat w n) h
fits_test cat w (MoveTable n b to rec) sound h =
    both (born_test b (table cat w n) h.0) (both (over_test b rec (table cat w n) h.1) (both (last_of (is_object_name n) (is_lawful_table to rec) sound) (free_test (table cat w to) h.2)))
fits_test cat w (PutPart n b v rec) sound h = room_test b v (table cat w n) h (last_of (is_object_name n) (list_all is_valid_value v) sound)
fits_test cat w (DropPart n b v) sound h = both (born_test b (table cat w n) h.0) ((has_decides (part cat w n v)).1 h.1)
fits_test cat w (MovePart n b v to rec) sound h =
    both (room_test b to (table cat w n) h.0 (last_of (is_object_name n) (list_all is_valid_value to) sound)) (both ((has_decides (part cat w n v)).1 h.1) (absent_test (part cat w n to) h.2))

one_named : (n : Name) → is_object_name n ≡ true → list_all is_object_name (n ∷ []) ≡ true
one_named n is = both is refl

table_named : (n : Name) (rec : TableRec) → is_lawful_table n rec ≡ true → is_object_name n ≡ true
table_named n rec is = first_of (is_object_name n) _ is

-- what is sound and fits is lawful
pub lawful_test : (cat : Catalogue) (w : Name) (op : Op) → is_sound op ≡ true → Fits op (objects_of w cat) → is_lawful cat w op ≡ true
lawful_test cat w (PutDb rec) sound h = refl
lawful_test cat w DropDb sound h = absurd h
lawful_test cat w (PutTable n b rec) sound h = both (one_named n (table_named n rec sound)) (both (last_of (is_object_name n) _ sound) (over_test b rec (table cat w n) h))
lawful_test cat w (DropTable n b) sound h = both (one_named n sound) refl
lawful_test cat w (MoveTable n b to rec) sound h =
    let table_rule = last_of (is_object_name n) (is_lawful_table to rec) sound in
    both (both (first_of (is_object_name n) (is_lawful_table to rec) sound) (one_named to (table_named to rec table_rule)))
    (both (last_of (is_object_name to) _ table_rule) (both (over_keys b rec (table cat w n) (over_test b rec (table cat w n) h.1)) (free_test (table cat w to) h.2)))
lawful_test cat w (PutPart n b v rec) sound h =
    both (one_named n (first_of (is_object_name n) (list_all is_valid_value v) sound)) (takes_values_of b v (table cat w n) (fits_test cat w (PutPart n b v rec) sound h))
lawful_test cat w (DropPart n b v) sound h = both (one_named n sound) refl
lawful_test cat w (MovePart n b v to rec) sound h =
    both (one_named n (first_of (is_object_name n) (list_all is_valid_value to) sound))
    (both (takes_values_of b to (table cat w n) (first_of (can_hold b to (table cat w n)) (has_part cat w n v && not (has_part cat w n to)) (fits_test cat w (MovePart n b v to rec) sound h))) (absent_test (part cat w n to) h.2))

first_named : (n : Name) (more : List Name) → list_all is_object_name (n ∷ more) ≡ true → is_object_name n ≡ true
first_named n more is = first_of (is_object_name n) (list_all is_object_name more) is

names_of : (cat : Catalogue) (w : Name) (op : Op) → is_lawful cat w op ≡ true → list_all is_object_name (names_in op) ≡ true
names_of cat w op is = first_of (list_all is_object_name (names_in op)) (may_stand cat w op) is

-- a lawful operation that fits is sound
pub lawful_sound : (cat : Catalogue) (w : Name) (op : Op) → is_lawful cat w op ≡ true → fits_op cat w op ≡ true → is_sound op ≡ true
lawful_sound cat w (PutDb rec) lawful is = refl
lawful_sound cat w DropDb lawful is = refl
lawful_sound cat w (PutTable n b rec) lawful is = first_of (is_lawful_table n rec) (fits_over b rec (table cat w n)) is
lawful_sound cat w (DropTable n b) lawful is = first_named n [] (names_of cat w (DropTable n b) lawful)
lawful_sound cat w (MoveTable n b to rec) lawful is =
    let rest = last_of (is_table_born b (table cat w n)) (fits_over b rec (table cat w n) && (is_lawful_table to rec && not (has_table cat w to))) is in
    let more = last_of (fits_over b rec (table cat w n)) (is_lawful_table to rec && not (has_table cat w to)) rest in
    both (first_named n (to ∷ []) (names_of cat w (MoveTable n b to rec) lawful)) (first_of (is_lawful_table to rec) (not (has_table cat w to)) more)
lawful_sound cat w (PutPart n b v rec) lawful is = both (first_named n [] (names_of cat w (PutPart n b v rec) lawful)) (room_fact b v (table cat w n) is).valid
lawful_sound cat w (DropPart n b v) lawful is = first_named n [] (names_of cat w (DropPart n b v) lawful)
lawful_sound cat w (MovePart n b v to rec) lawful is =
    both (first_named n [] (names_of cat w (MovePart n b v to rec) lawful)) (room_fact b to (table cat w n) (first_of (can_hold b to (table cat w n)) (has_part cat w n v && not (has_part cat w n to)) is)).valid
