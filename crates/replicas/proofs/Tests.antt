-- The tests decide.
use Rattle.std.proofs.Common.{◌≡◌, ◌⊎◌, inl, inr, ℕ, ◌≤◌, ◌<◌, Bool, true, false, length, Option, Some, None, refl, sym, ◌∙◌, ap, arith}
use Rattle.std.specs.Prelude.{◌==◌, ◌&&◌, nat_lt, nat_le, is_some, is_none, Decides}
use Rattle.std.proofs.lemmas.Bool.Decides.{nat_tests}
use Rattle.cat_types.specs.declared.changes.Op.{Op}
use Rattle.cat_types.specs.declared.changes.Op.TheVariants.{DropDb, DropPart, DropTable, MovePart, MoveTable, PutDb, PutPart, PutTable}
use Rattle.replicas.specs.Objects.{Table, Objects, Replica, Has, HasBorn, Takes, SameObjects, SameMarks}
use Rattle.replicas.specs.Operations.{Fits, FitsOver, Done}
use Rattle.replicas.specs.Replay.{Below, Acts, Marked, Replays}
use Rattle.replicas.specs.Laws.{Passes}
use Rattle.replicas.specs.Tests.{has_born, fits_over, takes, fits, absent_or, below, acts}
use Rattle.replicas.proofs.Basics.{not_both, one}

is_equal : (a b : ℕ) → Decides (a == b) (a ≡ b)
is_equal a b = (λ e. grind (arith, nat_tests), λ e. grind (arith, nat_tests))

is_below : (a b : ℕ) → Decides (nat_lt a b) (a < b)
is_below a b = (λ e. grind (arith, nat_tests), λ e. grind (arith, nat_tests))

pub both : {p q : Bool} {P Q R : Type 0} → Decides p P → Decides q Q → (P → Q → R) → (R → P) → (R → Q) → Decides (p && q) R
both {p = true} {q = true} f g join left right = (λ e. join (f.0 refl) (g.0 refl), λ r. refl)
both {p = true} {q = false} f g join left right = (λ e. absurd (cc), λ r. g.1 (right r))
both {p = false} f g join left right = (λ e. absurd (cc), λ r. f.1 (left r))

pub has_decides : {A : Type 0} (o : Option A) → Decides (is_some o) (Has o)
has_decides None = (λ e. absurd (cc), λ h. absurd (not_both refl h.is))
has_decides (Some x) = (λ e. record { value = x; is = refl }, λ h. refl)

none_decides : {A : Type 0} (o : Option A) → Decides (is_none o) (o ≡ None)
none_decides None = (λ e. refl, λ h. refl)
none_decides (Some x) = (λ e. absurd (cc), λ h. absurd (not_both h refl))

born_decides : (b : ℕ) (o : Option Table) → Decides (has_born b o) (HasBorn b o)
born_decides b None = (λ e. absurd (cc), λ h. absurd (not_both refl h.is))
born_decides b (Some t) = (λ e. record { table = t; is = refl; born = (is_equal t.0 b).0 e }, λ h. (is_equal t.0 b).1 (ap (λ (x : Table). x.0) (one refl h.is) ∙ h.born))

over_decides : (b keys : ℕ) (o : Option Table) → Decides (fits_over b keys o) (FitsOver b keys o)
over_decides b keys None = (λ e t is. absurd (not_both refl is), λ h. refl)
over_decides b keys (Some t) = both (is_equal t.0 b) (is_equal (length t.1.keys) keys)
    (λ p q x is. let same : t ≡ x = one refl is in (ap (λ (y : Table). y.0) (sym same) ∙ p, ap (λ (y : Table). length y.1.keys) (sym same) ∙ q))
    (λ h. (h t refl).0) (λ h. (h t refl).1)

takes_decides : (b count : ℕ) (o : Option Table) → Decides (takes b count o) (Takes b count o)
takes_decides b count None = (λ e. absurd (cc), λ h. absurd (not_both refl h.is))
takes_decides b count (Some t) = both (is_equal t.0 b) rest
    (λ p q. record { table = t; is = refl; born = p; keys = q.0; some_key = q.1 }) (λ h. ap (λ (y : Table). y.0) (one refl h.is) ∙ h.born) (λ h. (ap (λ (y : Table). length y.1.keys) (one refl h.is) ∙ h.keys, h.some_key))
  where
    rest : Decides ((length t.1.keys == count) && nat_le 1 count) ((length t.1.keys ≡ count) × (1 ≤ count))
    rest = both (is_equal (length t.1.keys) count) (λ e. grind (arith, nat_tests), λ e. grind (arith, nat_tests)) (λ p q. (p, q)) (λ h. h.0) (λ h. h.1)

pub fits_decides : (op : Op) (s : Objects) → Decides (fits op s) (Fits op s)
fits_decides (PutDb rec) s = has_decides s.db
fits_decides DropDb s = (λ e. absurd (cc), λ h. absurd h)
fits_decides (PutTable n b rec) s = over_decides b (length rec.keys) (s.tab n)
fits_decides (DropTable n b) s = born_decides b (s.tab n)
fits_decides (MoveTable n b to rec) s = both {Q = FitsOver b (length rec.keys) (s.tab n) × (s.tab to ≡ None)} (born_decides b (s.tab n)) (both (over_decides b (length rec.keys) (s.tab n)) (none_decides (s.tab to)) (λ p q. (p, q)) (λ h. h.0) (λ h. h.1))
    (λ p q. (p, q.0, q.1)) (λ h. h.0) (λ h. (h.1, h.2))
fits_decides (PutPart n b v rec) s = takes_decides b (length v) (s.tab n)
fits_decides (DropPart n b v) s = both (born_decides b (s.tab n)) (has_decides (s.par n v)) (λ p q. (p, q)) (λ h. h.0) (λ h. h.1)
fits_decides (MovePart n b v to rec) s = both {Q = Has (s.par n v) × (s.par n to ≡ None)} (takes_decides b (length to) (s.tab n)) (both (has_decides (s.par n v)) (none_decides (s.par n to)) (λ p q. (p, q)) (λ h. h.0) (λ h. h.1))
    (λ p q. (p, q.0, q.1)) (λ h. h.0) (λ h. (h.1, h.2))

or_decides : {A : Type 0} (o : Option A) (m e : ℕ) → Decides (absent_or o (nat_lt m e)) ((o ≡ None) ⊎ (m < e))
or_decides None m e = (λ h. inl refl, λ h. refl)
or_decides (Some x) m e = (
  λ h. inr ((is_below m e).0 h),
  λ h. elim h [
    | inl gone ↦ absurd (not_both gone refl)
    | inr lt ↦ (is_below m e).1 lt
  ],
)

pub below_decides : (e : ℕ) (op : Op) (r : Replica) → Decides (below e op r) (Below e op r)
below_decides e (PutDb rec) r = is_below _ _
below_decides e DropDb r = (λ f. absurd (cc), λ h. absurd h)
below_decides e (PutTable n b rec) r = or_decides (r.objects.tab n) _ _
below_decides e (DropTable n b) r = is_below _ _
below_decides e (MoveTable n b to rec) r = is_below _ _
below_decides e (PutPart n b v rec) r = or_decides (r.objects.par n v) _ _
below_decides e (DropPart n b v) r = is_below _ _
below_decides e (MovePart n b v to rec) r = is_below _ _

pub acts_decides : (test : Op → Bool) (e : ℕ) (op : Op) (r : Replica) → Decides (acts test e op r) (Acts (Passes test) e op r)
acts_decides test e op r = both {Q = Fits op r.objects × Below e op r} (λ h. h, λ h. h) (both (fits_decides op r.objects) (below_decides e op r) (λ p q. (p, q)) (λ h. h.0) (λ h. h.1))
    (λ p q. record { sound = p; fits = q.0; below = q.1 }) (λ h. h.sound) (λ h. (h.fits, h.below))

-- what code that tests and then does or leaves it makes
pub replays_by : (test : Op → Bool) (e : ℕ) (op : Op) (r r' : Replica)
    → (acts test e op r ≡ true → Done op r.objects r'.objects × Marked e op r.marks r'.marks)
    → (acts test e op r ≡ false → SameObjects r.objects r'.objects × SameMarks r.marks r'.marks) → Replays (Passes test) e op r r'
replays_by test e op r r' does leaves = by_test (acts test e op r) refl
  where
    by_test : (x : Bool) → acts test e op r ≡ x → Replays (Passes test) e op r r'
    by_test true is = let d = does is in inl (record { acts = (acts_decides test e op r).0 is; objects = d.0; marks = d.1 })
    by_test false is = let d = leaves is in inr (record { acts_not = λ a. let on = (acts_decides test e op r).1 a in absurd (cc); objects = d.0; marks = d.1 })
