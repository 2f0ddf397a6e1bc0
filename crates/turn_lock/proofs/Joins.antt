-- How a join keeps the rule.
use Rattle.std.proofs.Common.{◌≡◌, ◌≢◌, ◌⊎◌, inl, inr, ⊎_elim, ℕ, List, [], ◌∷◌, ◌++◌, length, set, refl, sym, ◌∙◌, ap, subst, arith}
use Rattle.std.specs.Prelude.{Option}
use mathlib.Core.Option.{some}
use lib.ListN.{get_elem?}
use Rattle.atomic_table.specs.Table.{Joins}
use Rattle.atomic_table.proofs.Lists.{at_set, set_else}
use Rattle.turn_lock.specs.Lock.{Told, ViewFits, Kept, number_of, out_of, live_of}
use Rattle.turn_lock.specs.Steps.{with_pass, spent}
use Rattle.turn_lock.proofs.Entries.{length_more}
use Rattle.turn_lock.proofs.Views.{tally_set, live_number}
use Rattle.turn_lock.proofs.Splits.{last_at}
use Rattle.turn_lock.specs.declared.view.Past.{Past}
use Rattle.turn_lock.specs.declared.view.Stage.TheVariants.{Idle}
use Rattle.turn_lock.specs.declared.view.View.{View}

-- where a view came from when the first took in another, and that one was spent
data After {E S : Type 0} (views : List (View E S)) (other : ℕ) (b u : View E S) (i : ℕ) : Type 0 where
  both : i ≡ 0 → b ≡ u → After views other b u i
  gone : i ≡ other → spent ≡ u → After views other b u i
  stayed : i ≢ 0 → i ≢ other → get_elem? views i ≡ some u → After views other b u i

module _ {E S : Type 0} where
  after : (views : List (View E S)) (other : ℕ) (b u : View E S) (i : ℕ) → get_elem? (set (set views 0 b) other spent) i ≡ some u → After views other b u i
  after views other b u i here = ⊎_elim
      (λ t. gone t.0 t.1)
      (λ t. ⊎_elim (λ p. both p.0 p.1) (λ p. stayed p.0 t.0 p.1) (at_set views 0 i b u t.1))
      (at_set (set views 0 b) other i spent u here)

module _ {T E S : Type 0} (by : E → ℕ) (stands : Option S → T → List E → Type 0) (start : Option S) where
  joins_on : (v : View E S) (other : ℕ) (o : View E S) → live_of v.stage ≡ 1 → o.stage ≡ Idle → Joins (Kept by stands start) 0 v other o (with_pass v o) spent
  joins_on v other o live idle s k at apart there = record {
    log = k.log;
    drawn = k.drawn;
    splits = k.splits;
    joined = k.joined ++ o.past ∷ [];
    place = k.place;
    words = k.words;
    lies = k.lies;
    out =
        let h = tally_set out_of s.views 0 v w at in
        let g = tally_set out_of (set s.views 0 w) other o spent there in
        let z = ap out_of idle in
        omega (arith, h, g, z, k.out);
    due = k.due;
    live =
        let h = tally_set live_of s.views 0 v w at in
        let g = tally_set live_of (set s.views 0 w) other o spent there in
        let z = length_more k.joined o.past in
        omega (arith, h, g, z, k.live, olive);
    few = k.few;
    passes = record {
      first = λ u here. first_of u (after s.views other w u 0 here);
      fits = λ i u here alive. fits_of i u (after s.views other w u i here) alive;
      told = λ j p here. ⊎_elim (λ t. k.passes.told j p t) (λ t. subst (Told by k.log k.splits) t.1 ofits.past) (last_at k.joined o.past p j here);
      callers = λ i j u x hu hx lu lx same.
          let a = old_of i u (after s.views other w u i hu) lu in
          let b = old_of j x (after s.views other w x j hx) lx in
          k.passes.callers i j a.0 b.0 a.1 b.1 (ap live_of (sym a.3) ∙ lu) (ap live_of (sym b.3) ∙ lx) (sym a.2 ∙ same ∙ b.2);
      strange = λ i j p u hp hu lu same.
          let a = old_of j u (after s.views other w u j hu) lu in
          let alive : live_of a.0.stage ≡ 1 = ap live_of (sym a.3) ∙ lu in
          ⊎_elim
          (λ t. k.passes.strange i j p a.0 t a.1 alive (same ∙ a.2))
          (λ t. a.4 (sym (k.passes.callers other j o a.0 was a.1 olive alive (ap (λ (q : Past E). q.caller) t.1 ∙ same ∙ a.2))))
          (last_at k.joined o.past p i hp);
      once = λ i j p q hp hq same. once_of i j p q (last_at k.joined o.past p i hp) (last_at k.joined o.past q j hq) same;
      numbers = λ i j n u x hu hx nu nx.
          let a = old_of i u (after s.views other w u i hu) (live_number u.stage n nu) in
          let b = old_of j x (after s.views other w x j hx) (live_number x.stage n nx) in
          k.passes.numbers i j n a.0 b.0 a.1 b.1 (ap number_of (sym a.3) ∙ nu) (ap number_of (sym b.3) ∙ nx);
      none_later = k.passes.none_later;
    };
  }
    where
      w : View E S
      w = with_pass v o

      was : get_elem? s.views other ≡ some o
      was = sym (set_else s.views 0 other w apart) ∙ there

      olive : live_of o.stage ≡ 1
      olive = ap live_of idle

      f : ViewFits by start k.log k.drawn k.splits k.place v
      f = k.passes.fits 0 v at live

      ofits : ViewFits by start k.log k.drawn k.splits k.place o
      ofits = k.passes.fits other o was olive

      first_of : (u : View E S) → After s.views other w u 0 → (u.splits ≡ k.splits) × (u.joined ≡ k.joined ++ o.past ∷ [])
      first_of u (both i is) =
          (ap (λ (x : View E S). x.splits) (sym is) ∙ (k.passes.first v at).0, ap (λ (x : View E S). x.joined) (sym is) ∙ ap (λ (l : List (Past E)). l ++ o.past ∷ []) (k.passes.first v at).1)
      first_of u (gone i is) = absurd (apart (sym i))
      first_of u (stayed i j is) = absurd (i refl)

      now : ViewFits by start k.log k.drawn k.splits k.place w
      now = record { start_known = f.start_known; past = f.past; stage = f.stage }

      spent_dead : (u : View E S) → spent ≡ u → live_of u.stage ≡ 1 → ⊥
      spent_dead u is alive = let z : 0 ≡ 1 = ap (λ (x : View E S). live_of x.stage) is ∙ alive in absurd (omega (arith, z))

      fits_of : (i : ℕ) (u : View E S) → After s.views other w u i → live_of u.stage ≡ 1 → ViewFits by start k.log k.drawn k.splits k.place u
      fits_of i u (both z is) alive = subst (ViewFits by start k.log k.drawn k.splits k.place) is now
      fits_of i u (gone z is) alive = absurd (spent_dead u is alive)
      fits_of i u (stayed z y is) alive = k.passes.fits i u is alive

      old_of : (i : ℕ) (u : View E S) → After s.views other w u i → live_of u.stage ≡ 1 → (y : View E S) × (get_elem? s.views i ≡ some y) × (u.past.caller ≡ y.past.caller) × (u.stage ≡ y.stage) × (i ≢ other)
      old_of i u (both z is) alive = (v, ap (λ (n : ℕ). get_elem? s.views n) z ∙ at, ap (λ (x : View E S). x.past.caller) (sym is), ap (λ (x : View E S). x.stage) (sym is), λ e. apart (sym e ∙ z))
      old_of i u (gone z is) alive = absurd (spent_dead u is alive)
      old_of i u (stayed z y is) alive = (u, is, refl, refl, y)

      once_of : (i j : ℕ) (p q : Past E) → (get_elem? k.joined i ≡ some p) ⊎ ((i ≡ length k.joined) × (o.past ≡ p)) → (get_elem? k.joined j ≡ some q) ⊎ ((j ≡ length k.joined) × (o.past ≡ q)) → p.caller ≡ q.caller → i ≡ j
      once_of i j p q (inl a) (inl b) same = k.passes.once i j p q a b same
      once_of i j p q (inl a) (inr b) same = absurd (k.passes.strange i other p o a was olive (same ∙ ap (λ (x : Past E). x.caller) (sym b.1)))
      once_of i j p q (inr a) (inl b) same = absurd (k.passes.strange j other q o b was olive (sym same ∙ ap (λ (x : Past E). x.caller) (sym a.1)))
      once_of i j p q (inr a) (inr b) same = a.0 ∙ sym b.0

  pub join_at : (id : ℕ) (v : View E S) (other : ℕ) (o : View E S) → id ≡ 0 → v.stage ≡ Idle → o.stage ≡ Idle → Joins (Kept by stands start) id v other o (with_pass v o) spent
  join_at id v other o is idle oidle = subst (λ (n : ℕ). Joins (Kept by stands start) n v other o (with_pass v o) spent) (sym is) (joins_on v other o (ap live_of idle) oidle)
