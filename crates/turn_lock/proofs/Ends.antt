-- The lock at its start, and once it is closed.
use Rattle.std.proofs.Common.{◌≡◌, ◌≢◌, inl, ⊎_elim, ℕ, zero, suc, ◌+◌, ◌<◌, ◌≤◌, List, [], ◌∷◌, length, refl, sym, ◌∙◌, ap, subst, arith}
use Rattle.std.specs.Prelude.{Option, Some, None, All, AllPairs, slice_index_or}
use mathlib.Core.Option.{some, none, some-injective, some-ne-none}
use mathlib.Core.Option as Homed
use lib.ListN.{get_elem?}
use Rattle.atomic_table.specs.Table.{State, Seen, Final, opening}
use Rattle.turn_lock.specs.Histories.{own, Fits}
use Rattle.turn_lock.specs.Lock.{ViewFits, Kept, Place, at_home, Lies, HasHistory, out_of, live_of, tally}
use Rattle.turn_lock.specs.Steps.{newcomer}
use Rattle.turn_lock.proofs.Views.{out_live}
use Rattle.turn_lock.proofs.Splits.{last_at}
use Rattle.turn_lock.specs.declared.view.Past.{Past}
use Rattle.turn_lock.specs.declared.view.Stage.TheVariants.{Idle}
use Rattle.turn_lock.specs.declared.view.View.{View}

module _ {A : Type 0} where
  -- an element by its place
  element : (l : List A) (k : ℕ) (d : A) → k < length l → get_elem? l k ≡ some (slice_index_or l k d)
  element [] k d within = absurd (omega (arith, within))
  element (x ∷ xs) zero d within = refl
  element (x ∷ xs) (suc k) d within = element xs k d (omega (arith, within))

  all_of : (P : A → Type 0) (x : A) (l : List A) → P x → ((j : ℕ) (p : A) → get_elem? l j ≡ some p → P p) → All P (x ∷ l)
  all_of P x l first each zero d within = first
  all_of P x l first each (suc k) d within = each k (slice_index_or l k d) (element l k d (omega (arith, within)))

  pairs_of : (R : A → A → Type 0) (x : A) (l : List A) → ((j : ℕ) (p : A) → get_elem? l j ≡ some p → R x p)
      → ((i j : ℕ) (p q : A) → i < j → get_elem? l i ≡ some p → get_elem? l j ≡ some q → R p q) → AllPairs R (x ∷ l)
  pairs_of R x l first each zero zero d less within = absurd (omega (arith, less))
  pairs_of R x l first each zero (suc j) d less within = first j (slice_index_or l j d) (element l j d (omega (arith, within)))
  pairs_of R x l first each (suc i) zero d less within = absurd (omega (arith, less))
  pairs_of R x l first each (suc i) (suc j) d less within =
      each i j (slice_index_or l i d) (slice_index_or l j d) (omega (arith, less)) (element l i d (omega (arith, less, within))) (element l j d (omega (arith, within)))

-- what a closed lock tells of its value: the first pass and each joined one fit its list, their caller numbers differ and were given out, and nobody else has an entry
pub record Closes {E S : Type 0} (by : E → ℕ) (log : List E) (v : View E S) : Type 0 where
  pub fits : All (Fits by log) (v.past ∷ v.joined)
  pub apart : AllPairs (λ (p q : Past E). p.caller ≢ q.caller) (v.past ∷ v.joined)
  pub known : All (λ (p : Past E). p.caller ≤ v.splits) (v.past ∷ v.joined)
  pub nobody : (caller : ℕ) → v.splits < caller → own by caller log ≡ []

module _ {E S : Type 0} where
  -- the first pass has no number
  idle_first : (l : List (View E S)) (v : View E S) → get_elem? l 0 ≡ some v → v.stage ≡ Idle → tally out_of l + 1 ≤ tally live_of l
  idle_first [] v e idle = absurd (some-ne-none v (sym e))
  idle_first (x ∷ xs) v e idle =
      let same = some-injective x v e in
      let a : out_of x.stage ≡ 0 = ap (λ (y : View E S). out_of y.stage) same ∙ ap out_of idle in
      let b : live_of x.stage ≡ 1 = ap (λ (y : View E S). live_of y.stage) same ∙ ap live_of idle in
      omega (arith, a, b, out_live xs)

module _ {T E S : Type 0} (by : E → ℕ) (history : T → List E) (begin : T → S) (start : Option S) where
  -- with every other pass joined, the value is at home
  home_at_end : (s : State (Option T) (View E S)) (k : Kept by (HasHistory history begin) start s) (v : View E S) → get_elem? s.views 0 ≡ some v → v.stage ≡ Idle → length v.joined ≡ v.splits → k.place ≡ at_home
  home_at_end s k v at idle all =
      let f = k.passes.first v at in
      let j : length k.joined ≡ length v.joined = ap length (sym f.1) in
      let h = idle_first s.views v at idle in
      ⊎_elim (λ t. t) (λ t. absurd (omega (arith, t, h, j, all, f.0, k.live, k.out))) k.due

  ends : (s : State (Option T) (View E S)) (k : Kept by (HasHistory history begin) start s) (v : View E S) → get_elem? s.views 0 ≡ some v → v.stage ≡ Idle → Closes by k.log v
  ends s k v at idle = record {
    fits = all_of (Fits by k.log) v.past v.joined now.past.fits (λ j p here. (k.passes.told j p (among j p here)).fits);
    apart = pairs_of (λ (p q : Past E). p.caller ≢ q.caller) v.past v.joined
        (λ j p here same. k.passes.strange j 0 p v (among j p here) at live (sym same))
        (λ i j p q less hp hq same. let e = k.passes.once i j p q (among i p hp) (among j q hq) same in absurd (omega (arith, less, e)));
    known = all_of (λ (p : Past E). p.caller ≤ v.splits) v.past v.joined (omega (arith, now.past.known, f.0)) (λ j p here. omega (arith, (k.passes.told j p (among j p here)).known, f.0));
    nobody = λ c late. k.passes.none_later c (subst (λ (n : ℕ). n < c) f.0 late);
  }
    where
      live : live_of v.stage ≡ 1
      live = ap live_of idle

      f : (v.splits ≡ k.splits) × (v.joined ≡ k.joined)
      f = k.passes.first v at

      now : ViewFits by start k.log k.drawn k.splits k.place v
      now = k.passes.fits 0 v at live

      among : (j : ℕ) (p : Past E) → get_elem? v.joined j ≡ some p → get_elem? k.joined j ≡ some p
      among j p here = ap (λ (l : List (Past E)). get_elem? l j) (sym f.1) ∙ here

  pub closes : (ws : List ℕ) (xs : List (Option T)) (id : ℕ) (v : View E S) → id ≡ 0 → v.stage ≡ Idle → length v.joined ≡ v.splits → Final (Seen (Kept by (HasHistory history begin) start) id v) ws xs
      → (x : T) × (get_elem? xs 0 ≡ some (Some x)) × Closes by (history x) v × (Some (begin x) ≡ v.start)
  closes ws xs id v first idle all end =
      let s = end.0 in
      let k = end.1.0 in
      let at : get_elem? s.views 0 ≡ some v = ap (λ (n : ℕ). get_elem? s.views n) (sym first) ∙ end.1.1 in
      let lies : Lies (HasHistory history begin start) k.log at_home s.homes = subst (λ (p : Place E). Lies (HasHistory history begin start) k.log p s.homes) (home_at_end s k v at idle all) k.lies in
      let here : get_elem? s.homes 0 ≡ some (some (Some lies.0)) = ap (λ (hs : List (Homed.Option (Option T))). get_elem? hs 0) lies.1 in
      let now : ViewFits by start k.log k.drawn k.splits k.place v = k.passes.fits 0 v at (ap live_of idle) in (
        lies.0,
        end.4 0 (Some lies.0) here,
        subst (λ (l : List E). Closes by l v) (sym lies.2.0) (ends s k v at idle),
        lies.2.1 ∙ sym now.start_known,
      )

module _ {T E S : Type 0} (by : E → ℕ) (history : T → List E) (begin : T → S) where
  opens : (x : T) → history x ≡ [] → Kept by (HasHistory history begin) (Some (begin x)) (opening (0 ∷ 0 ∷ []) (Some x ∷ []) (newcomer (Some (begin x)) 0 []))
  opens x none_yet = record {
    log = [];
    drawn = 0;
    splits = 0;
    joined = [];
    place = at_home;
    words = refl;
    lies = (x, refl, (none_yet, refl));
    out = refl;
    due = inl refl;
    live = refl;
    few = omega arith;
    passes = record {
      first = λ u here. (ap (λ (y : View E S). y.splits) (sym (some-injective v u here)), ap (λ (y : View E S). y.joined) (sym (some-injective v u here)));
      fits = λ i u here alive. subst (ViewFits by (Some (begin x)) [] 0 0 at_home) (only i u here).1 (record {
        start_known = refl;
        past = record { fits = record { begins = ([], refl); calls = refl; calls_seen = refl }; known = omega arith };
        stage = tt;
      });
      told = λ j p here. absurd (some-ne-none p (sym here));
      callers = λ i j u y hu hy lu ly same. (only i u hu).0 ∙ sym (only j y hy).0;
      strange = λ i j p u hp hu lu. absurd (some-ne-none p (sym hp));
      once = λ i j p q hp hq same. absurd (some-ne-none p (sym hp));
      numbers = λ i j n u y hu hy nu ny. (only i u hu).0 ∙ sym (only j y hy).0;
      none_later = λ c late. refl;
    };
  }
    where
      v : View E S
      v = newcomer (Some (begin x)) 0 []

      only : (i : ℕ) (u : View E S) → get_elem? (v ∷ []) i ≡ some u → (i ≡ 0) × (v ≡ u)
      only i u here = ⊎_elim (λ t. absurd (some-ne-none u (sym t))) (λ t. t) (last_at [] v u i here)

  pub starts : (x y : T) (slots : List (Option T)) → y ≡ x → history x ≡ [] → slots ≡ Some x ∷ []
      → Kept by (HasHistory history begin) (Some (begin y)) (opening (0 ∷ 0 ∷ []) slots (newcomer (Some (begin y)) 0 []))
  starts x y slots same none_yet is =
      subst (λ (z : T). Kept by (HasHistory history begin) (Some (begin z)) (opening (0 ∷ 0 ∷ []) slots (newcomer (Some (begin z)) 0 []))) (sym same)
      (subst (λ (l : List (Option T)). Kept by (HasHistory history begin) (Some (begin x)) (opening (0 ∷ 0 ∷ []) l (newcomer (Some (begin x)) 0 []))) (sym is) (opens x none_yet))

-- what was taken out of the slot
pub value_taken : {T E S : Type 0} (by : E → ℕ) (history : T → List E) (begin : T → S) (start : Option S) (ws : List ℕ) (xs : List (Option T)) (id : ℕ) (v : View E S) (r : Option T) → id ≡ 0 → v.stage ≡ Idle → length v.joined ≡ v.splits
    → Final (Seen (Kept by (HasHistory history begin) start) id v) ws xs → get_elem? xs 0 ≡ some r → (x : T) × (r ≡ Some x) × Closes by (history x) v × (Some (begin x) ≡ v.start)
value_taken {T} {E} {S} by history begin start ws xs id v r first idle all end there =
    let t = closes by history begin start ws xs id v first idle all end in (t.0, some-injective r (Some t.0) (sym there ∙ t.1), t.2, t.3)

abbrev unsome : {T : Type 0} → T → Option T → T
unsome {T} d (Some y) = y
unsome {T} d None = d

pub same_one : {T : Type 0} (r : Option T) (x y : T) → r ≡ Some x → r ≡ Some y → x ≡ y
same_one {T} r x y a b = ap (unsome x) (sym a ∙ b)
