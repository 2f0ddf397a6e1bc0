-- How a split keeps the rule.
use Rattle.std.proofs.Common.{◌≡◌, ◌≢◌, ◌⊎◌, inl, inr, ⊎_elim, ℕ, zero, suc, ◌+◌, ◌<◌, List, [], ◌∷◌, ◌++◌, length, set, refl, sym, ◌∙◌, ap, subst, arith}
use Rattle.std.specs.Prelude.{Option}
use Rattle.std.proofs.Math.ListN.{length-set}
use mathlib.Core.Option.{some, some-injective, some-ne-none}
use lib.ListN.{get_elem?}
use Rattle.atomic_table.specs.Table.{Splits}
use Rattle.atomic_table.proofs.Lists.{at_set}
use Rattle.turn_lock.specs.Histories.{own}
use Rattle.turn_lock.specs.Lock.{ViewFits, Kept, Place, number_of, out_of, live_of, tally}
use Rattle.turn_lock.specs.Steps.{one_more, newcomer_of}
use Rattle.turn_lock.proofs.Entries.{own-append}
use Rattle.turn_lock.proofs.Views.{tally_set}
use Rattle.turn_lock.specs.declared.view.Past.{Past}
use Rattle.turn_lock.specs.declared.view.Stage.{Stage}
use Rattle.turn_lock.specs.declared.view.Stage.TheVariants.{Idle}
use Rattle.turn_lock.specs.declared.view.View.{View}

-- where a view came from when one was set and one was added
data Came {E S : Type 0} (views : List (View E S)) (id : ℕ) (w r u : View E S) (i : ℕ) : Type 0 where
  was_set : i ≡ id → w ≡ u → Came views id w r u i
  stayed : i ≢ id → get_elem? views i ≡ some u → Came views id w r u i
  was_added : i ≡ length views → r ≡ u → Came views id w r u i

pub last_at : {A : Type 0} (l : List A) (r u : A) (i : ℕ) → get_elem? (l ++ r ∷ []) i ≡ some u → (get_elem? l i ≡ some u) ⊎ ((i ≡ length l) × (r ≡ u))
last_at {A} [] r u zero e = inr (refl, some-injective r u e)
last_at {A} [] r u (suc i) e = absurd (some-ne-none u (sym e))
last_at {A} (x ∷ l) r u zero e = inl e
last_at {A} (x ∷ l) r u (suc i) e = ⊎_elim (λ t. inl t) (λ t. inr (ap suc t.0, t.1)) (last_at l r u i e)

module _ {E : Type 0} where
  nothing_left : (xs ys : List E) → xs ++ ys ≡ [] → xs ≡ []
  nothing_left [] ys e = refl
  nothing_left (x ∷ xs) ys e = absurd (cc)

module _ {E S : Type 0} where
  came : (views : List (View E S)) (id : ℕ) (w r u : View E S) (i : ℕ) → get_elem? (set views id w ++ r ∷ []) i ≡ some u → Came views id w r u i
  came views id w r u i here = ⊎_elim
      (λ t. ⊎_elim (λ p. was_set p.0 p.1) (λ p. stayed p.0 p.1) (at_set views id i w u t))
      (λ t. was_added (t.0 ∙ length-set views id w) t.1)
      (last_at (set views id w) r u i here)

  in_range : (l : List (View E S)) (i : ℕ) (u : View E S) → get_elem? l i ≡ some u → i < length l
  in_range [] i u e = absurd (some-ne-none u (sym e))
  in_range (x ∷ l) zero u e = omega arith
  in_range (x ∷ l) (suc i) u e = omega (arith, in_range l i u e)

  pub tally_more : (f : Stage E → ℕ) (l : List (View E S)) (r : View E S) → tally f (l ++ r ∷ []) ≡ tally f l + f r.stage
  tally_more f [] r = omega arith
  tally_more f (x ∷ l) r = let h = tally_more f l r in omega (arith, h)

module _ {E S : Type 0} (by : E → ℕ) (start : Option S) where
  stage_same : (log : List E) (drawn : ℕ) (place : Place E) (v : View E S) (splits : ℕ) → ViewFits by start log drawn splits place v → ViewFits by start log drawn (splits + 1) place v
  stage_same log drawn place v splits f = record { start_known = f.start_known; past = record { fits = f.past.fits; known = omega (arith, f.past.known) }; stage = f.stage }

module _ {T E S : Type 0} (by : E → ℕ) (stands : Option S → T → List E → Type 0) (start : Option S) where
  -- a new pass, with the next number
  splits_off : (v : View E S) → live_of v.stage ≡ 1 → v.splits < 4294967294 → Splits (Kept by stands start) 0 v (one_more v) (newcomer_of v)
  splits_off v live few s k at = record {
    log = k.log;
    drawn = k.drawn;
    splits = k.splits + 1;
    joined = k.joined;
    place = k.place;
    words = k.words;
    lies = k.lies;
    out = let h = tally_set out_of s.views 0 v w at in let g = tally_more out_of (set s.views 0 w) r in omega (arith, h, g, k.out);
    due = k.due;
    live = let h = tally_set live_of s.views 0 v w at in let g = tally_more live_of (set s.views 0 w) r in omega (arith, h, g, k.live);
    few = omega (arith, few, counted);
    passes = record {
      first = λ u here. first_of u (came s.views 0 w r u 0 here);
      fits = λ i u here alive. fits_of i u (came s.views 0 w r u i here) alive;
      told = λ j p here. let f = k.passes.told j p here in record { fits = f.fits; known = omega (arith, f.known) };
      callers = λ i j u x hu hx lu lx same. apart_of i j u x (came s.views 0 w r u i hu) (came s.views 0 w r x j hx) lu lx same;
      strange = λ i j p u hp hu lu. strange_of i j p u hp (came s.views 0 w r u j hu) lu;
      once = k.passes.once;
      numbers = λ i j n u x hu hx nu nx. numbers_of i j n u x (came s.views 0 w r u i hu) (came s.views 0 w r x j hx) nu nx;
      none_later = λ c late. k.passes.none_later c (omega (arith, late));
    };
  }
    where
      w : View E S
      w = one_more v

      r : View E S
      r = newcomer_of v

      counted : v.splits ≡ k.splits
      counted = (k.passes.first v at).0

      f : ViewFits by start k.log k.drawn k.splits k.place v
      f = k.passes.fits 0 v at live

      fresh : own by (v.splits + 1) k.log ≡ []
      fresh = k.passes.none_later (v.splits + 1) (omega (arith, counted))

      seen_fresh : own by (v.splits + 1) v.past.seen ≡ []
      seen_fresh =
          let b = f.past.fits.begins in
          nothing_left (own by (v.splits + 1) v.past.seen) (own by (v.splits + 1) b.0) (sym (own-append by (v.splits + 1) v.past.seen b.0) ∙ ap (own by (v.splits + 1)) (sym b.1) ∙ fresh)

      first_of : (u : View E S) → Came s.views 0 w r u 0 → (u.splits ≡ k.splits + 1) × (u.joined ≡ k.joined)
      first_of u (was_set i is) = (ap (λ (x : View E S). x.splits) (sym is) ∙ ap (λ (n : ℕ). n + 1) counted, ap (λ (x : View E S). x.joined) (sym is) ∙ (k.passes.first v at).1)
      first_of u (stayed i is) = absurd (i refl)
      first_of u (was_added i is) = absurd (omega (arith, in_range s.views 0 v at, i))

      right_fits : ViewFits by start k.log k.drawn (k.splits + 1) k.place r
      right_fits = record { start_known = f.start_known; past = record { fits = record { begins = f.past.fits.begins; calls = fresh; calls_seen = seen_fresh }; known = omega (arith, counted) }; stage = tt }

      left_fits : ViewFits by start k.log k.drawn (k.splits + 1) k.place w
      left_fits = let g = stage_same by start k.log k.drawn k.place v k.splits f in record { start_known = g.start_known; past = g.past; stage = g.stage }

      fits_of : (i : ℕ) (u : View E S) → Came s.views 0 w r u i → live_of u.stage ≡ 1 → ViewFits by start k.log k.drawn (k.splits + 1) k.place u
      fits_of i u (was_set z is) alive = subst (ViewFits by start k.log k.drawn (k.splits + 1) k.place) is left_fits
      fits_of i u (stayed z is) alive = stage_same by start k.log k.drawn k.place u k.splits (k.passes.fits i u is alive)
      fits_of i u (was_added z is) alive = subst (ViewFits by start k.log k.drawn (k.splits + 1) k.place) is right_fits

      -- an old pass with the caller number and stage of this one
      old_of : (i : ℕ) (u : View E S) → Came s.views 0 w r u i → ((y : View E S) × (get_elem? s.views i ≡ some y) × (u.past.caller ≡ y.past.caller) × (u.stage ≡ y.stage)) ⊎ ((i ≡ length s.views) × (r ≡ u))
      old_of i u (was_set z is) = inl (v, ap (λ (n : ℕ). get_elem? s.views n) z ∙ at, ap (λ (x : View E S). x.past.caller) (sym is), ap (λ (x : View E S). x.stage) (sym is))
      old_of i u (stayed away_from is) = inl (u, is, refl, refl)
      old_of i u (was_added end is) = inr (end, is)

      new_caller : (u : View E S) → r ≡ u → u.past.caller ≡ k.splits + 1
      new_caller u is = ap (λ (y : View E S). y.past.caller) (sym is) ∙ ap (λ (n : ℕ). n + 1) counted

      new_number : (u : View E S) (n : ℕ) → r ≡ u → number_of u.stage ≡ some n → ⊥
      new_number u n is e = some-ne-none n (sym (ap (λ (y : View E S). number_of y.stage) is ∙ e))

      too_new : (i : ℕ) (y : View E S) → get_elem? s.views i ≡ some y → live_of y.stage ≡ 1 → y.past.caller ≡ k.splits + 1 → ⊥
      too_new i y there alive a = absurd (omega (arith, (k.passes.fits i y there alive).past.known, a))

      apart_of : (i j : ℕ) (u x : View E S) → Came s.views 0 w r u i → Came s.views 0 w r x j → live_of u.stage ≡ 1 → live_of x.stage ≡ 1 → u.past.caller ≡ x.past.caller → i ≡ j
      apart_of i j u x cu cx lu lx same = ⊎_elim
          (λ a. ⊎_elim
          (λ b. k.passes.callers i j a.0 b.0 a.1 b.1 (ap live_of (sym a.3) ∙ lu) (ap live_of (sym b.3) ∙ lx) (sym a.2 ∙ same ∙ b.2))
          (λ b. absurd (too_new i a.0 a.1 (ap live_of (sym a.3) ∙ lu) (sym a.2 ∙ same ∙ new_caller x b.1)))
          (old_of j x cx))
          (λ a. ⊎_elim
          (λ b. absurd (too_new j b.0 b.1 (ap live_of (sym b.3) ∙ lx) (sym b.2 ∙ sym same ∙ new_caller u a.1)))
          (λ b. a.0 ∙ sym b.0)
          (old_of j x cx))
          (old_of i u cu)

      strange_of : (i j : ℕ) (p : Past E) (u : View E S) → get_elem? k.joined i ≡ some p → Came s.views 0 w r u j → live_of u.stage ≡ 1 → p.caller ≢ u.past.caller
      strange_of i j p u hp cu lu same = ⊎_elim
          (λ a. k.passes.strange i j p a.0 hp a.1 (ap live_of (sym a.3) ∙ lu) (same ∙ a.2))
          (λ a. absurd (omega (arith, (k.passes.told i p hp).known, same, new_caller u a.1)))
          (old_of j u cu)

      numbers_of : (i j n : ℕ) (u x : View E S) → Came s.views 0 w r u i → Came s.views 0 w r x j → number_of u.stage ≡ some n → number_of x.stage ≡ some n → i ≡ j
      numbers_of i j n u x cu cx nu nx = ⊎_elim
          (λ a. ⊎_elim
          (λ b. k.passes.numbers i j n a.0 b.0 a.1 b.1 (ap number_of (sym a.3) ∙ nu) (ap number_of (sym b.3) ∙ nx))
          (λ b. absurd (new_number x n b.1 nx))
          (old_of j x cx))
          (λ a. absurd (new_number u n a.1 nu))
          (old_of i u cu)

  pub split_at : (id : ℕ) (v : View E S) → id ≡ 0 → v.stage ≡ Idle → v.splits < 4294967294 → Splits (Kept by stands start) id v (one_more v) (newcomer_of v)
  split_at id v is idle few = subst (λ (n : ℕ). Splits (Kept by stands start) n v (one_more v) (newcomer_of v)) (sym is) (splits_off v (ap live_of idle) few)
