-- Where an operation takes effect, and that what is replayed by the function is replayed.
use Rattle.std.proofs.Common.{◌≡◌, inl, inr, ℕ, Bool, true, false, ◌&&◌, cond, refl, sym, ◌∙◌, ap}
use Rattle.cat_objects.specs.Catalogue.{is_name}
use Rattle.cat_objects.specs.Changes.{done_op, is_drop_db}
use Rattle.cat_objects.specs.Parts.{are_values}
use Rattle.cat_objects.proofs.Fitting.{fitting_finds, lawful_that_finds_fits}
use Rattle.cat_types.specs.declared.changes.Op.{Op}
use Rattle.cat_types.specs.declared.changes.Op.TheVariants.{DropDb, DropPart, DropTable, MovePart, MoveTable, PutDb, PutPart, PutTable}
use Rattle.replicas.specs.Catalogues.{is_sound}
use Rattle.replicas.specs.Objects.{Name, Values, Marks, SameMarks}
use Rattle.replicas.specs.Replay.{Marked}
use Rattle.replicas.specs.StoreLaws.{ActsWhereItTakesEffect, DoneOnCatalogues, DropsNeverAct, FittingActs, ReplaysAreDone}
use Rattle.replicas.specs.Stores.{Redoes, marked, replica_of}
use Rattle.replicas.specs.Tests.{acts}
use Rattle.replicas.proofs.CatalogueDone.{done_by_catalogue, order_stays}
use Rattle.replicas.proofs.Fitting.{fits_fact, fits_test, lawful_sound, lawful_test, sound_fact}
use Rattle.replicas.proofs.Keys.{name_here, name_off, values_here, values_off}
use Rattle.replicas.proofs.Basics.{Same, same_name, same_values}

keeps_db : (op : Op) → (op ≡ DropDb → ⊥) → is_drop_db op ≡ false
keeps_db (PutDb rec) off = refl
keeps_db DropDb off = absurd (off refl)
keeps_db (PutTable n b rec) off = refl
keeps_db (DropTable n b) off = refl
keeps_db (MoveTable n b to rec) off = refl
keeps_db (PutPart n b v rec) off = refl
keeps_db (DropPart n b v) off = refl
keeps_db (MovePart n b v to rec) off = refl

pub acts_where : ActsWhereItTakesEffect
acts_where w e op s there off = (
  λ a.
      let fits = fits_test s.catalogue w op a.sound a.fits in
      record { lawful = lawful_test s.catalogue w op a.sound a.fits; found = fitting_finds s.catalogue w op fits; below = a.below },
  λ t.
      let fits = lawful_that_finds_fits s.catalogue w op (keeps_db op off) t.lawful t.found in
      record { sound = lawful_sound s.catalogue w op t.lawful fits; fits = fits_fact s.catalogue w op there fits; below = t.below },
)

pub drops_never_act : DropsNeverAct
drops_never_act w e s a = a.fits

pub fitting_acts : FittingActs
fitting_acts cat w op there named is = (sound_fact cat w op there named is, fits_fact cat w op there is)

pub done_on_catalogues : DoneOnCatalogues
done_on_catalogues w born op cat order there fits = (done_by_catalogue w born op cat order there fits, order_stays w born op cat order)

-- ---- marks by the function

at_name_here : (n : Name) (e k : ℕ) → cond (is_name n n) e k ≡ e
at_name_here n e k = ap (λ (c : Bool). cond c e k) (name_here n)

at_name_off : (m n : Name) (e k : ℕ) → (m ≡ n → ⊥) → cond (is_name m n) e k ≡ k
at_name_off m n e k off = ap (λ (c : Bool). cond c e k) (name_off m n off)

at_both_here : (n : Name) (v : Values) (e k : ℕ) → cond (is_name n n && are_values v v) e k ≡ e
at_both_here n v e k = ap (λ (c : Bool). cond (c && are_values v v) e k) (name_here n) ∙ ap (λ (c : Bool). cond c e k) (values_here v)

at_both_off : (m n : Name) (w v : Values) (e k : ℕ) → ((m ≡ n) × (w ≡ v) → ⊥) → cond (is_name m n && are_values w v) e k ≡ k
at_both_off m n w v e k off = by (same_name m n) (same_values w v)
  where
    none : (c : Bool) → (c && false) ≡ false
    none true = refl
    none false = refl

    by : Same m n → Same w v → cond (is_name m n && are_values w v) e k ≡ k
    by (inr f) g = ap (λ (c : Bool). cond (c && are_values w v) e k) (name_off m n f)
    by (inl f) (inr g) = ap (λ (c : Bool). cond (is_name m n && c) e k) (values_off w v g) ∙ ap (λ (c : Bool). cond c e k) (none (is_name m n))
    by (inl f) (inl g) = absurd (off (f, g))

marks_same : (m : Marks) → SameMarks m m
marks_same m = record { db = refl; tab = λ n. refl; par = λ n w. refl }

marked_is : (e : ℕ) (op : Op) (m : Marks) → Marked e op m (marked e op m)
marked_is e (PutDb rec) m = record { tabs = λ k off. refl; parts = λ k w off. refl; puts = refl }
marked_is e DropDb m = record { tabs = λ k off. refl; parts = λ k w off. refl; puts = refl }
marked_is e (PutTable n b rec) m = record { tabs = λ k off. at_name_off k n e (m.tab k) off; parts = λ k w off. refl; puts = (refl, at_name_here n e (m.tab n)) }
marked_is e (DropTable n b) m = record { tabs = λ k off. refl; parts = λ k w off. refl; puts = refl }
marked_is e (MoveTable n b to rec) m = record {
  tabs = λ k off. at_name_off k to e (m.tab k) (λ x. off (inr x));
  parts = λ k w off. at_name_off k to (m.par n w) (m.par k w) (λ x. off (inr x));
  puts = (refl, at_name_here to e (m.tab to), λ w. at_name_here to (m.par n w) (m.par to w));
}
marked_is e (PutPart n b v rec) m = record { tabs = λ k off. refl; parts = λ k w off. at_both_off k n w v e (m.par k w) off; puts = (refl, at_both_here n v e (m.par n v)) }
marked_is e (DropPart n b v) m = record { tabs = λ k off. refl; parts = λ k w off. refl; puts = refl }
marked_is e (MovePart n b v to rec) m = record {
  tabs = λ k off. refl;
  parts = λ k w off. at_both_off k n w to e (m.par k w) (λ x. off (x.0, inr x.1));
  puts = (refl, at_both_here n to e (m.par n to));
}

pub replays_are_done : ReplaysAreDone
replays_are_done w born e op s = by (acts is_sound e op (replica_of w s)) refl
  where
    by : (c : Bool) → acts is_sound e op (replica_of w s) ≡ c → Redoes w born e op s (cond c (record { catalogue = done_op w born s.catalogue op; marks = marked e op s.marks }) s)
    by true is = record { does = λ on. (refl, marked_is e op s.marks); leaves = λ off. absurd (let no_more : true ≡ false = sym is ∙ off in cc) }
    by false is = record { does = λ on. absurd (let no_more : true ≡ false = sym on ∙ is in cc); leaves = λ off. (refl, marks_same s.marks) }
