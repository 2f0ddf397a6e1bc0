-- The changes of a history are a life of each database.
use Rattle.std.proofs.Common.{◌≡◌, inl, inr, ℕ, ◌+◌, ◌≤◌, ◌<◌, Bool, true, false, not, ◌&&◌, List, [], ◌∷◌, Option, Some, None, is_some, refl, sym, ◌∙◌, ap, subst, arith}
use Rattle.std.specs.Prelude.{◌==◌, nat_le}
use Rattle.std.specs.Option.{option_map}
use Rattle.std.proofs.lemmas.Bool.Decides.{nat_tests}
use Rattle.cat_objects.specs.Catalogue.{Catalogue, at_name, database, has_database, parts_of, tables_of}
use Rattle.cat_objects.specs.Changes.{done, done_op, done_ops, fits_creation, fits_database, fits_drop, fits_kind, fits_op, fits_ops, is_born, is_drop_db, is_one, is_put_db, takes_change}
use Rattle.cat_objects.specs.declared.held.HeldDb.{HeldDb}
use Rattle.cat_objects.specs.declared.held.HeldTable.{HeldTable}
use Rattle.cat_objects.specs.Parts.{at_values}
use Rattle.cat_objects.proofs.Fitting.{fitting_finds}
use Rattle.cat_objects.proofs.Seeing.{after_is, db_after}
use Rattle.cat_objects.proofs.Taking.{first_of, last_of}
use Rattle.cat_types.specs.declared.changes.Change.{Change}
use Rattle.cat_types.specs.declared.changes.EventKind.{EventKind}
use Rattle.cat_types.specs.declared.changes.EventKind.TheVariants as kind
use Rattle.cat_types.specs.declared.changes.Op.{Op}
use Rattle.cat_types.specs.declared.changes.Op.TheVariants.{DropDb, DropPart, DropTable, MovePart, MoveTable, PutDb, PutPart, PutTable}
use Rattle.cat_values.specs.Names.{is_object_name}
use Rattle.cat_values.specs.declared.records.DbRec.{DbRec}
use Rattle.replicas.specs.Catalogues.{IsInOrder, is_sound, objects_in, objects_of, shown_db, shown_table}
use Rattle.replicas.specs.Histories.{AreChanges, AreLawful, BornsAreNew, source_of}
use Rattle.replicas.specs.Laws.{Passes}
use Rattle.replicas.specs.Life.{BeginsEmpty, Happened, HasDb, Life, called, created, dropped, elsewhere}
use Rattle.replicas.specs.Objects.{Name, Values, Table, Objects, Has, SameObjects}
use Rattle.replicas.specs.Operations.{Done, touches_tab}
use Rattle.replicas.specs.Source.{AllApart, Each, Steps}
use Rattle.replicas.specs.StoreLaws.{ChangesAreLives, HistoriesAreLawful, HistoriesStayInOrder}
use Rattle.replicas.proofs.Basics.{Same, same_name, not_both}
use Rattle.replicas.proofs.CatalogueDone.{done_by_catalogue, dropped_is_gone, order_stays, orders_stay, others_stay, same_in}
use Rattle.replicas.proofs.Fitting.{AreNamed, fits_fact, lawful_test, sound_fact}
use Rattle.replicas.proofs.Growing.{tells_tab}
use Rattle.replicas.proofs.Invariants.{numbers_up}
use Rattle.replicas.proofs.LiveKeeps.{db_stays_there}

-- ---- an absent table has no partitions

pub no_part : (w n : Name) (v : Values) (cat : Catalogue) → (objects_of w cat).tab n ≡ None → (objects_of w cat).par n v ≡ None
no_part w n v cat gone = by (at_name n (tables_of (database cat w))) gone
  where
    by : (o : Option HeldTable) → option_map shown_table o ≡ None → at_values v (parts_of o) ≡ None
    by None none = refl
    by (Some held) none = absurd (cc)

-- ---- names of tables stay object names

-- a table that is put has an object name
put_named : (op : Op) (s t : Objects) → is_sound op ≡ true → Done op s t → (m : Name) (x : Table) → touches_tab op m → t.tab m ≡ Some x → is_object_name m ≡ true
put_named (PutDb rec) s t sound done m x touched is = absurd touched
put_named DropDb s t sound done m x touched is = absurd touched
put_named (PutTable n b rec) s t sound done m x touched is = ap is_object_name touched ∙ first_of (is_object_name n) _ sound
put_named (DropTable n b) s t sound done m x touched is = absurd (not_both (subst (λ (k : Name). t.tab k ≡ None) (sym touched) done.puts.1) is)
put_named (MoveTable n b to rec) s t sound done m x touched is = elim touched [
  | inl at ↦ absurd (not_both (subst (λ (k : Name). t.tab k ≡ None) (sym at) done.puts.1) is)
  | inr at ↦ ap is_object_name at ∙ first_of (is_object_name to) _ (last_of (is_object_name n) _ sound)
]
put_named (PutPart n b v rec) s t sound done m x touched is = absurd touched
put_named (DropPart n b v) s t sound done m x touched is = absurd touched
put_named (MovePart n b v to rec) s t sound done m x touched is = absurd touched

named_step : (op : Op) (s t : Objects) → is_sound op ≡ true → Done op s t → AreNamed s → AreNamed t
named_step op s t sound done named m x is = elim (tells_tab op m) [
  | inl touched ↦ put_named op s t sound done m x touched is
  | inr off ↦ named m x (sym (done.tabs m off) ∙ is)
]

named_same : (s t : Objects) → SameObjects s t → AreNamed s → AreNamed t
named_same s t same named m x is = named m x (sym (same.tab m) ∙ is)

-- ---- operations that can be done, one after the other

same_self : (s : Objects) → SameObjects s s
same_self s = record { db = refl; tab = λ n. refl; par = λ n w. refl }

-- what they come to on the objects
pub record Come (e : ℕ) (ops : List Op) (s u : Objects) : Type 0 where
  pub steps : Steps e ops s u
  pub sound : Each (Passes is_sound) ops
  pub named : AreNamed u
  pub there : Has u.db

pub ops_come : (d : Name) (born e : ℕ) (ops : List Op) (cat : Catalogue) → IsInOrder cat → Has (objects_of d cat).db → AreNamed (objects_of d cat) → fits_ops cat d born ops ≡ true → BornsAreNew e d born cat ops
    → Come e ops (objects_of d cat) (objects_of d (done_ops d born cat ops))
ops_come d born e [] cat order there named fits new = record { steps = same_self (objects_of d cat); sound = tt; named = named; there = there }
ops_come d born e (op ∷ ops) cat order there named fits new =
    let first = first_of (fits_op cat d op) (fits_ops (done_op d born cat op) d born ops) fits in
    let rest = last_of (fits_op cat d op) (fits_ops (done_op d born cat op) d born ops) fits in
    let sound = sound_fact cat d op there named first in
    let fact = fits_fact cat d op there first in
    let step = done_by_catalogue d born op cat order there fact in
    let more = ops_come d born e ops (done_op d born cat op) (order_stays d born op cat order) (db_stays_there op (objects_of d cat) (objects_of d (done_op d born cat op)) step there)
    (named_step op (objects_of d cat) (objects_of d (done_op d born cat op)) sound step named) rest new.1 in record {
      steps = (objects_of d (done_op d born cat op), record { fits = fact; new = new.0; done = step }, more.steps);
      sound = (sound, more.sound);
      named = more.named;
      there = more.there;
    }

-- each of them is lawful and finds what it needs
pub ops_lawful : (d : Name) (born : ℕ) (ops : List Op) (cat : Catalogue) → IsInOrder cat → Has (objects_of d cat).db → AreNamed (objects_of d cat) → fits_ops cat d born ops ≡ true → AreLawful d born cat ops
ops_lawful d born [] cat order there named fits = tt
ops_lawful d born (op ∷ ops) cat order there named fits =
    let first = first_of (fits_op cat d op) (fits_ops (done_op d born cat op) d born ops) fits in
    let rest = last_of (fits_op cat d op) (fits_ops (done_op d born cat op) d born ops) fits in
    let sound = sound_fact cat d op there named first in
    let fact = fits_fact cat d op there first in
    let step = done_by_catalogue d born op cat order there fact in (
      lawful_test cat d op sound fact,
      fitting_finds cat d op first,
      ops_lawful d born ops (done_op d born cat op) (order_stays d born op cat order) (db_stays_there op (objects_of d cat) (objects_of d (done_op d born cat op)) step there)
          (named_step op (objects_of d cat) (objects_of d (done_op d born cat op)) sound step named) rest,
    )

-- ---- a change by its kind

-- it makes a database, drops one, or does operations on one
pub data IsOneOf (cat : Catalogue) (e : ℕ) (c : Change) : Type 0 where
  makes : (rec : DbRec) → c.ops ≡ PutDb rec ∷ [] → c.db_born ≡ e → database cat c.db ≡ None → IsOneOf cat e c
  drops : has_database cat c.db ≡ true → c.ops ≡ DropDb ∷ [] → IsOneOf cat e c
  works : HasDb c.db_born (objects_of c.db cat) → fits_ops cat c.db c.db_born c.ops ≡ true → IsOneOf cat e c

only_put : (ops : List Op) → is_one is_put_db ops ≡ true → (rec : DbRec) × (ops ≡ PutDb rec ∷ [])
only_put [] is = absurd cc
only_put (op ∷ first ∷ rest) is = absurd (no_both (is_put_db op) is)
  where
    no_both : (b : Bool) → (b && false) ≡ true → ⊥
    no_both true h = absurd cc
    no_both false h = absurd cc
only_put (op ∷ []) is = by op (first_of (is_put_db op) true is)
  where
    by : (op : Op) → is_put_db op ≡ true → (rec : DbRec) × (op ∷ [] ≡ PutDb rec ∷ [])
    by (PutDb rec) on = (rec, refl)
    by DropDb on = absurd cc
    by (PutTable n b rec) on = absurd cc
    by (DropTable n b) on = absurd cc
    by (MoveTable n b to rec) on = absurd cc
    by (PutPart n b v rec) on = absurd cc
    by (DropPart n b v) on = absurd cc
    by (MovePart n b v to rec) on = absurd cc

only_drop : (ops : List Op) → is_one is_drop_db ops ≡ true → ops ≡ DropDb ∷ []
only_drop [] is = absurd cc
only_drop (op ∷ first ∷ rest) is = absurd (no_both (is_drop_db op) is)
  where
    no_both : (b : Bool) → (b && false) ≡ true → ⊥
    no_both true h = absurd cc
    no_both false h = absurd cc
only_drop (op ∷ []) is = by op (first_of (is_drop_db op) true is)
  where
    by : (op : Op) → is_drop_db op ≡ true → op ∷ [] ≡ DropDb ∷ []
    by (PutDb rec) on = absurd cc
    by DropDb on = refl
    by (PutTable n b rec) on = absurd cc
    by (DropTable n b) on = absurd cc
    by (MoveTable n b to rec) on = absurd cc
    by (PutPart n b v rec) on = absurd cc
    by (DropPart n b v) on = absurd cc
    by (MovePart n b v to rec) on = absurd cc

no_database : (o : Option HeldDb) → not (is_some o) ≡ true → o ≡ None
no_database None is = refl
no_database (Some held) is = absurd cc

equal_born : (a b : ℕ) → (a == b) ≡ true → a ≡ b
equal_born a b is = grind (arith, nat_tests)

born_there : (b : ℕ) (o : Option HeldDb) → is_born b o ≡ true → HasDb b (objects_in o)
born_there b None is = absurd cc
born_there b (Some held) is = record { held = shown_db held; is = refl; born = equal_born held.born b is }

creation : (cat : Catalogue) (e : ℕ) (c : Change) → fits_creation cat e c ≡ true → IsOneOf cat e c
creation cat e c is =
    let free = last_of (is_object_name c.db) (not (has_database cat c.db) && ((c.db_born == e) && is_one is_put_db c.ops)) is in
    let rest = last_of (not (has_database cat c.db)) ((c.db_born == e) && is_one is_put_db c.ops) free in
    let only = only_put c.ops (last_of (c.db_born == e) (is_one is_put_db c.ops) rest) in
    makes only.0 only.1 (equal_born c.db_born e (first_of (c.db_born == e) (is_one is_put_db c.ops) rest))
    (no_database (database cat c.db) (first_of (not (has_database cat c.db)) ((c.db_born == e) && is_one is_put_db c.ops) free))

has_born : (b : ℕ) (o : Option HeldDb) → is_born b o ≡ true → is_some o ≡ true
has_born b None is = absurd cc
has_born b (Some held) is = refl

dropping : (cat : Catalogue) (e : ℕ) (c : Change) → fits_drop cat c ≡ true → IsOneOf cat e c
dropping cat e c is = drops (has_born c.db_born (database cat c.db) (first_of (is_born c.db_born (database cat c.db)) (is_one is_drop_db c.ops) is)) (only_drop c.ops (last_of (is_born c.db_born (database cat c.db)) (is_one is_drop_db c.ops) is))

working : (cat : Catalogue) (e : ℕ) (c : Change) → fits_database cat c ≡ true → IsOneOf cat e c
working cat e c is =
    works (born_there c.db_born (database cat c.db) (first_of (is_born c.db_born (database cat c.db)) (fits_ops cat c.db c.db_born c.ops) is))
    (last_of (is_born c.db_born (database cat c.db)) (fits_ops cat c.db c.db_born c.ops) is)

by_kind : (k : EventKind) (cat : Catalogue) (e : ℕ) (c : Change) → fits_kind k cat e c ≡ true → IsOneOf cat e c
by_kind kind.CreateDatabase cat e c is = creation cat e c is
by_kind kind.AlterDatabase cat e c is = working cat e c is
by_kind kind.DropDatabase cat e c is = dropping cat e c is
by_kind kind.CreateTable cat e c is = working cat e c is
by_kind kind.AlterTable cat e c is = working cat e c is
by_kind kind.DropTable cat e c is = working cat e c is
by_kind kind.AddPartition cat e c is = working cat e c is
by_kind kind.AlterPartition cat e c is = working cat e c is
by_kind kind.DropPartition cat e c is = working cat e c is

pub taken_is : (cat : Catalogue) (e : ℕ) (c : Change) → takes_change cat e c ≡ true → IsOneOf cat e c
taken_is cat e c is = by_kind c.kind cat e c (last_of (nat_le e 9223372036854775807) (fits_kind c.kind cat e c) is)

-- ---- one event, as a database sees it

-- a database that was made is empty
empty_made : (d : Name) (born : ℕ) (rec : DbRec) (cat : Catalogue) → database cat d ≡ None → BeginsEmpty born (objects_of d (done_op d born cat (PutDb rec)))
empty_made d born rec cat none = subst (λ (o : Option HeldDb). BeginsEmpty born (objects_in o)) (sym (after_is cat d born (PutDb rec) refl ∙ ap (λ (o : Option HeldDb). db_after born (PutDb rec) o) none))
    (record { db = record { held = (born, rec); is = refl; born = refl }; no_tables = λ n. refl; no_parts = λ n v. refl })

pub happens : (e : ℕ) (c : Change) (cat : Catalogue) (w : Name) → IsInOrder cat → AreNamed (objects_of c.db cat) → IsOneOf cat e c → BornsAreNew e c.db c.db_born cat c.ops → AllApart c.ops
    → Happened (Passes is_sound) w e c (objects_of w cat) (objects_of w (done c cat))
happens e c cat w order named is new apart = by_name (same_name c.db w)
  where
    here : IsOneOf cat e c → Happened (Passes is_sound) c.db e c (objects_of c.db cat) (objects_of c.db (done c cat))
    here (makes rec only born none) =
        created (ap (λ (o : Option HeldDb). (objects_in o).db) none)
        (subst (λ (l : List Op). BeginsEmpty e (objects_of c.db (done_ops c.db c.db_born cat l))) (sym only)
        (subst (λ (k : ℕ). BeginsEmpty k (objects_of c.db (done_ops c.db c.db_born cat (PutDb rec ∷ [])))) born (empty_made c.db c.db_born rec cat none)))
    here (drops there only) =
        dropped (subst (λ (l : List Op). (objects_of c.db (done_ops c.db c.db_born cat l)).db ≡ None) (sym only) (ap (λ (o : Option HeldDb). (objects_in o).db) (dropped_is_gone c.db c.db_born cat order)))
    here (works db fits) =
        let come = ops_come c.db c.db_born e c.ops cat order (record { value = db.held; is = db.is }) named fits new in
        called refl db come.steps apart come.sound

    by_name : Same c.db w → Happened (Passes is_sound) w e c (objects_of w cat) (objects_of w (done c cat))
    by_name (inl at) = subst (λ (k : Name). Happened (Passes is_sound) k e c (objects_of k cat) (objects_of k (done c cat))) at (here is)
    by_name (inr off) = elsewhere off (same_in (database cat w) (database (done c cat) w) (others_stay c.db c.db_born c.ops cat w (λ x. off (sym x))))

-- ---- along a history

-- the order, and the names of tables in each database
pub record Stays (cat : Catalogue) : Type 0 where
  pub order : IsInOrder cat
  pub named : (w : Name) → AreNamed (objects_of w cat)

named_behind : (e : ℕ) (c : Change) (cat : Catalogue) (w : Name) → Stays cat → IsOneOf cat e c → BornsAreNew e c.db c.db_born cat c.ops → AreNamed (objects_of w (done c cat))
named_behind e c cat w stays is new = by_name (same_name c.db w)
  where
    here : IsOneOf cat e c → AreNamed (objects_of c.db (done c cat))
    here (makes rec only born none) m x there =
        absurd (not_both ((empty_made c.db c.db_born rec cat none).no_tables m) (subst (λ (l : List Op). (objects_of c.db (done_ops c.db c.db_born cat l)).tab m ≡ Some x) only there))
    here (drops has only) m x there =
        absurd (not_both (ap (λ (o : Option HeldDb). (objects_in o).tab m) (dropped_is_gone c.db c.db_born cat stays.order)) (subst (λ (l : List Op). (objects_of c.db (done_ops c.db c.db_born cat l)).tab m ≡ Some x) only there))
    here (works db fits) m x there = (ops_come c.db c.db_born e c.ops cat stays.order (record { value = db.held; is = db.is }) (stays.named c.db) fits new).named m x there

    by_name : Same c.db w → AreNamed (objects_of w (done c cat))
    by_name (inl at) = subst (λ (k : Name). AreNamed (objects_of k (done c cat))) at (here is)
    by_name (inr off) = named_same (objects_of w cat) (objects_of w (done c cat)) (same_in (database cat w) (database (done c cat) w) (others_stay c.db c.db_born c.ops cat w (λ x. off (sym x)))) (stays.named w)

module _ (cats : ℕ → Catalogue) (changes : ℕ → Change) (base newest : ℕ) (h : AreChanges cats changes base newest) where
  step_is : (e : ℕ) → base ≤ e → e < newest → IsOneOf (cats e) (e + 1) (changes (e + 1))
  step_is e low high = taken_is (cats e) (e + 1) (changes (e + 1)) (h.taken e low high)

  next_stays : (e : ℕ) → base ≤ e → e < newest → Stays (cats e) → Stays (cats (e + 1))
  next_stays e low high stays = subst Stays (sym (h.next e low high)) (record {
    order = orders_stay (changes (e + 1)).db (changes (e + 1)).db_born (changes (e + 1)).ops (cats e) stays.order;
    named = λ w. named_behind (e + 1) (changes (e + 1)) (cats e) w stays (step_is e low high) (h.news e low high);
  })

  start_stays : Stays (cats base)
  start_stays = record { order = h.start.order; named = λ w m x is. absurd (not_both (h.start.no_tables w m) is) }

  pub all_stay : (e : ℕ) → base ≤ e → e ≤ newest → Stays (cats e)
  all_stay e low high = numbers_up (λ k. objects_of [] (cats k)) (λ k s. Stays (cats k)) base e low start_stays (λ k from lt stays. next_stays k from (omega (arith, lt, high)) stays)

  pub history_is_life : (w : Name) → Life (Passes is_sound) w (source_of w cats) changes base newest
  history_is_life w = record {
    start = elim (h.start.databases w) [
      | inl gone ↦ inl gone
      | inr born ↦ inr (record { db = born; no_tables = h.start.no_tables w; no_parts = λ n v. no_part w n v (cats base) (h.start.no_tables w n) })
    ];
    happened = λ e low high.
        let stays = all_stay e low (omega (arith, high)) in
        subst (λ (c : Catalogue). Happened (Passes is_sound) w (e + 1) (changes (e + 1)) (source_of w cats e) (objects_of w c)) (sym (h.next e low high))
        (happens (e + 1) (changes (e + 1)) (cats e) w stays.order (stays.named (changes (e + 1)).db) (step_is e low high) (h.news e low high) (h.apart e low high));
  }

pub changes_are_lives : ChangesAreLives
changes_are_lives w cats changes base newest h = history_is_life cats changes base newest h w

pub stay_in_order : HistoriesStayInOrder
stay_in_order cats changes base newest e h low high = (all_stay cats changes base newest h e low high).order

-- ---- what is lawful

change_lawful : (e : ℕ) (c : Change) (cat : Catalogue) → Stays cat → IsOneOf cat e c → AreLawful c.db c.db_born cat c.ops
change_lawful e c cat stays (makes rec only born none) = subst (λ (l : List Op). AreLawful c.db c.db_born cat l) (sym only) (refl, refl, tt)
change_lawful e c cat stays (drops has only) = subst (λ (l : List Op). AreLawful c.db c.db_born cat l) (sym only) (refl, has, tt)
change_lawful e c cat stays (works db fits) = ops_lawful c.db c.db_born c.ops cat stays.order (record { value = db.held; is = db.is }) (stays.named c.db) fits

pub are_lawful : HistoriesAreLawful
are_lawful cats changes base newest e h low high =
    let stays = all_stay cats changes base newest h e low (omega (arith, high)) in
    change_lawful (e + 1) (changes (e + 1)) (cats e) stays (taken_is (cats e) (e + 1) (changes (e + 1)) (h.taken e low high))
