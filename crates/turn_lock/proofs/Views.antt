-- How the passes keep their rule when one view is set.
use Rattle.std.proofs.Common.{◌≡◌, ◌≢◌, ◌⊎◌, inl, inr, ⊎_elim, ℕ, zero, suc, ◌+◌, ◌<◌, ◌≤◌, List, [], ◌∷◌, ◌++◌, length, set, refl, sym, ◌∙◌, ap, subst, arith}
use Rattle.std.specs.Prelude.{Option}
use mathlib.Core.Option.{some, some-injective, some-ne-none}
use lib.ListN.{get_elem?}
use Rattle.atomic_table.proofs.Lists.{at_set}
use Rattle.turn_lock.specs.Histories.{own}
use Rattle.turn_lock.specs.Lock.{Told, ViewFits, StageFits, Passes, Place, at_home, away, settled, number_of, out_of, live_of, tally}
use Rattle.turn_lock.proofs.Entries.{length_more}
use Rattle.turn_lock.specs.declared.view.Past.{Past}
use Rattle.turn_lock.specs.declared.view.Stage.{Stage}
use Rattle.turn_lock.specs.declared.view.Stage.TheVariants.{Spent, Idle, Waits, Holds, Leaves}
use Rattle.turn_lock.specs.declared.view.View.{View}

module _ {E : Type 0} where
  out_live_of : (st : Stage E) → out_of st ≤ live_of st
  out_live_of Spent = omega arith
  out_live_of Idle = omega arith
  out_live_of (Waits n) = omega arith
  out_live_of (Holds n) = omega arith
  out_live_of (Leaves n e) = omega arith

  pub live_number : (st : Stage E) (n : ℕ) → number_of st ≡ some n → live_of st ≡ 1
  live_number Spent n e = absurd (some-ne-none n (sym e))
  live_number Idle n e = refl
  live_number (Waits m) n e = refl
  live_number (Holds m) n e = refl
  live_number (Leaves m d) n e = refl

  pub home_away : (p : Place E) → p ≡ at_home → p ≡ away → ⊥
  home_away p e f = absurd (cc)

  pub home_settled : (p : Place E) (d : E) → p ≡ at_home → p ≡ settled d → ⊥
  home_settled p d e f = absurd (cc)

module _ {E S : Type 0} where
  -- one view is set, and a sum changes by its weights
  pub tally_set : (f : Stage E → ℕ) (l : List (View E S)) (i : ℕ) (v w : View E S) → get_elem? l i ≡ some v → tally f (set l i w) + f v.stage ≡ tally f l + f w.stage
  tally_set f [] i v w e = absurd (some-ne-none v (sym e))
  tally_set f (x ∷ xs) zero v w e = let h : f v.stage ≡ f x.stage = ap (λ (y : View E S). f y.stage) (sym (some-injective x v e)) in omega (arith, h)
  tally_set f (x ∷ xs) (suc i) v w e = let h = tally_set f xs i v w e in omega (arith, h)

  -- one live pass counts
  pub live_one : (l : List (View E S)) (i : ℕ) (v : View E S) → get_elem? l i ≡ some v → live_of v.stage ≡ 1 → 1 ≤ tally live_of l
  live_one [] i v e live = absurd (some-ne-none v (sym e))
  live_one (x ∷ xs) zero v e live = let h : live_of v.stage ≡ live_of x.stage = ap (λ (y : View E S). live_of y.stage) (sym (some-injective x v e)) in omega (arith, h, live)
  live_one (x ∷ xs) (suc i) v e live = let h = live_one xs i v e live in omega (arith, h)

  pub out_live : (l : List (View E S)) → tally out_of l ≤ tally live_of l
  out_live [] = omega arith
  out_live (v ∷ vs) = let h = out_live vs in let g = out_live_of v.stage in omega (arith, h, g)

module _ {E : Type 0} (by : E → ℕ) where
  -- each number out was drawn
  pub below : (log : List E) (drawn : ℕ) (place : Place E) (p : Past E) (st : Stage E) (n : ℕ) → StageFits by log drawn place p st → number_of st ≡ some n → n < drawn
  below log drawn place p Spent n f e = absurd (some-ne-none n (sym e))
  below log drawn place p Idle n f e = absurd (some-ne-none n (sym e))
  below log drawn place p (Waits m) n f e = let h = some-injective m n e in omega (arith, h, f.1)
  below log drawn place p (Holds m) n f e = let h = some-injective m n e in omega (arith, h, f.1)
  below log drawn place p (Leaves m d) n f e = let h = some-injective m n e in omega (arith, h, f.1)

  -- the others, while one pass does a step
  pub at_draw : (log : List E) (drawn : ℕ) (place : Place E) (p : Past E) (st : Stage E) → StageFits by log drawn place p st → StageFits by log (drawn + 1) place p st
  at_draw log drawn place p Spent f = tt
  at_draw log drawn place p Idle f = tt
  at_draw log drawn place p (Waits n) f = (f.0, omega (arith, f.1), f.2)
  at_draw log drawn place p (Holds n) f = (f.0, omega (arith, f.1), f.2, f.3)
  at_draw log drawn place p (Leaves n e) f = (f.0, omega (arith, f.1), f.2, f.3, f.4)

  pub at_take : (log : List E) (drawn : ℕ) (place : Place E) (p : Past E) (st : Stage E) → place ≡ at_home → number_of st ≢ some (length log) → StageFits by log drawn place p st → StageFits by log drawn away p st
  at_take log drawn place p Spent home away_from f = tt
  at_take log drawn place p Idle home away_from f = tt
  at_take log drawn place p (Waits n) home away_from f = let not : n ≢ length log = λ e. away_from (ap some e) in (f.0, f.1, inr (omega (arith, f.0, not)))
  at_take log drawn place p (Holds n) home away_from f = absurd (home_away place home f.2)
  at_take log drawn place p (Leaves n e) home away_from f = absurd (home_settled place e home f.2)

  pub at_settle : (log : List E) (drawn : ℕ) (place : Place E) (d : E) (p : Past E) (st : Stage E) → place ≡ away → number_of st ≢ some (length log) → StageFits by log drawn place p st → StageFits by log drawn (settled d) p st
  at_settle log drawn place d p Spent gone away_from f = tt
  at_settle log drawn place d p Idle gone away_from f = tt
  at_settle log drawn place d p (Waits n) gone away_from f = (f.0, f.1, ⊎_elim (λ t. absurd (home_away place t gone)) (λ t. inr t) f.2)
  at_settle log drawn place d p (Holds n) gone away_from f = absurd (away_from (ap some f.0))
  at_settle log drawn place d p (Leaves n e) gone away_from f = absurd (away_from (ap some f.0))

  pub at_publish : (log : List E) (drawn : ℕ) (place : Place E) (d : E) (p : Past E) (st : Stage E) → number_of st ≢ some (length log) → StageFits by log drawn place p st → StageFits by (log ++ d ∷ []) drawn at_home p st
  at_publish log drawn place d p Spent away_from f = tt
  at_publish log drawn place d p Idle away_from f = tt
  at_publish log drawn place d p (Waits n) away_from f = let not : n ≢ length log = λ e. away_from (ap some e) in let more = length_more log d in (omega (arith, f.0, not, more), f.1, inl refl)
  at_publish log drawn place d p (Holds n) away_from f = absurd (away_from (ap some f.0))
  at_publish log drawn place d p (Leaves n e) away_from f = absurd (away_from (ap some f.0))

-- what stood at a place before one view was set
-- what stood at a place before one view was set
record Was {E S : Type 0} (views : List (View E S)) (id : ℕ) (w u : View E S) (i : ℕ) : Type 0 where
  old : View E S
  there : get_elem? views i ≡ some old
  caller : u.past.caller ≡ old.past.caller
  splits : u.splits ≡ old.splits
  joined : u.joined ≡ old.joined
  live : live_of u.stage ≡ 1 → live_of old.stage ≡ 1

module _ {E S : Type 0} where
  was : (views : List (View E S)) (id : ℕ) (v w u : View E S) (i : ℕ) → get_elem? views id ≡ some v → live_of v.stage ≡ 1 → w.past.caller ≡ v.past.caller → w.splits ≡ v.splits → w.joined ≡ v.joined → get_elem? (set views id w) i ≡ some u → Was views id w u i
  was views id v w u i at live caller splits joined here = ⊎_elim
      (λ t. record {
        old = v;
        there = ap (λ (n : ℕ). get_elem? views n) t.0 ∙ at;
        caller = ap (λ (x : View E S). x.past.caller) (sym t.1) ∙ caller;
        splits = ap (λ (x : View E S). x.splits) (sym t.1) ∙ splits;
        joined = ap (λ (x : View E S). x.joined) (sym t.1) ∙ joined;
        live = λ h. live;
      })
      (λ t. record { old = u; there = t.1; caller = refl; splits = refl; joined = refl; live = λ h. h })
      (at_set views id i w u here)

module _ {E S : Type 0} (by : E → ℕ) (start : Option S) where
  pub moves_on : (log log' : List E) (drawn drawn' splits : ℕ) (joined : List (Past E)) (place place' : Place E) (views : List (View E S)) (k : Passes by start log drawn splits joined place views) (id : ℕ) (v w : View E S)
      → get_elem? views id ≡ some v → live_of v.stage ≡ 1 → w.past.caller ≡ v.past.caller → w.splits ≡ v.splits → w.joined ≡ v.joined
      → ViewFits by start log' drawn' splits place' w
      → ((i : ℕ) (u : View E S) → i ≢ id → get_elem? views i ≡ some u → live_of u.stage ≡ 1 → ViewFits by start log drawn splits place u → ViewFits by start log' drawn' splits place' u)
      → ((n : ℕ) → number_of w.stage ≡ some n → (number_of v.stage ≡ some n) ⊎ ((i : ℕ) (u : View E S) → get_elem? views i ≡ some u → number_of u.stage ≢ some n))
      → ((j : ℕ) (p : Past E) → get_elem? joined j ≡ some p → Told by log splits p → Told by log' splits p)
      → ((c : ℕ) → splits < c → own by c log ≡ [] → own by c log' ≡ [])
      → Passes by start log' drawn' splits joined place' (set views id w)
  moves_on log log' drawn drawn' splits joined place place' views k id v w at live caller same_splits same_joined now others fresh told later = record {
    first = λ u here. let b = old u 0 here in let f = k.first b.old b.there in (b.splits ∙ f.0, b.joined ∙ f.1);
    fits = λ i u here alive. ⊎_elim (λ t. subst (ViewFits by start log' drawn' splits place') t.1 now) (λ t. others i u t.0 t.1 alive (k.fits i u t.1 alive)) (at_set views id i w u here);
    told = λ j p here. told j p here (k.told j p here);
    callers = λ i j u x hu hx lu lx same. let b = old u i hu in let d = old x j hx in k.callers i j b.old d.old b.there d.there (b.live lu) (d.live lx) (sym b.caller ∙ same ∙ d.caller);
    strange = λ i j p u hp hu lu same. let b = old u j hu in k.strange i j p b.old hp b.there (b.live lu) (same ∙ b.caller);
    once = k.once;
    numbers = λ i j n u x hu hx nu nx. apart i j n u x nu nx (at_set views id i w u hu) (at_set views id j w x hx);
    none_later = λ c late. later c late (k.none_later c late);
  }
    where
      old : (u : View E S) (i : ℕ) → get_elem? (set views id w) i ≡ some u → Was views id w u i
      old u i here = was views id v w u i at live caller same_splits same_joined here

      one_new : (j n : ℕ) (x : View E S) → number_of w.stage ≡ some n → get_elem? views j ≡ some x → number_of x.stage ≡ some n → id ≡ j
      one_new j n x nw hx nx = ⊎_elim (λ t. k.numbers id j n v x at hx t nx) (λ t. absurd (t j x hx nx)) (fresh n nw)

      apart : (i j n : ℕ) (u x : View E S) → number_of u.stage ≡ some n → number_of x.stage ≡ some n
          → ((i ≡ id) × (w ≡ u)) ⊎ ((i ≢ id) × (get_elem? views i ≡ some u)) → ((j ≡ id) × (w ≡ x)) ⊎ ((j ≢ id) × (get_elem? views j ≡ some x)) → i ≡ j
      apart i j n u x nu nx (inl a) (inl b) = a.0 ∙ sym b.0
      apart i j n u x nu nx (inl a) (inr b) = a.0 ∙ one_new j n x (ap (λ (y : View E S). number_of y.stage) a.1 ∙ nu) b.1 nx
      apart i j n u x nu nx (inr a) (inl b) = sym (one_new i n u (ap (λ (y : View E S). number_of y.stage) b.1 ∙ nx) a.1 nu) ∙ sym b.0
      apart i j n u x nu nx (inr a) (inr b) = k.numbers i j n u x a.1 b.1 nu nx
