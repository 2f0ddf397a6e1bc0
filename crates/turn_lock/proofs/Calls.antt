-- What a pass learns over a whole call.
use Rattle.std.proofs.Common.{◌≡◌, ℕ, ◌%◌, ◌^◌, Bool, List, [], ◌∷◌, ◌++◌, sym, ◌∙◌, ap, subst, eq-eqb}
use Rattle.std.specs.Prelude.{Option, Some, None, MatchBool}
use Rattle.atomic_table.specs.Table.{Step, Me, rest}
use Rattle.turn_lock.specs.Steps.{staged, with_entry, Took, Looked, Settled, Published}
use Rattle.turn_lock.specs.declared.view.Stage.TheVariants.{Waits, Leaves}
use Rattle.turn_lock.specs.declared.view.View.{View}

module _ {E S : Type 0} where
  -- the loop's pass waits for this number
  pub waits_for : {T : Type 0} (me : Me T (View E S)) (v : View E S) (c : List (ℕ × T)) (n : ℕ) → me ≡ (staged v (Waits n), c) → me.0.stage ≡ Waits n
  waits_for {T} me v c n is = ap (λ (m : Me T (View E S)). m.0.stage) is

  pub held_one : {T : Type 0} (me : Me T (View E S)) (w : View E S) (y : T) (c : List (ℕ × T)) → me ≡ (w, (0, y) ∷ c) → me.1 ≡ (0, y) ∷ rest me.1
  held_one {T} me w y c is = ap (λ (m : Me T (View E S)). m.1) is ∙ sym (ap (λ (m : Me T (View E S)). (0, y) ∷ rest m.1) is)

  -- what an exchange of the one slot leaves
  pub put_in : {T : Type 0} (old new : Me T (View E S)) (n y : T) → old.1 ≡ (0, n) ∷ [] → new ≡ (old.0, (0, y) ∷ rest old.1) → new.1 ≡ (0, y) ∷ []
  put_in {T} old new n y had is = ap (λ (m : Me T (View E S)). m.1) is ∙ ap (λ (c : List (ℕ × T)). (0, y) ∷ rest c) had

abbrev the_value : {T : Type 0} → T → List (ℕ × Option T) → T
the_value {T} d [] = d
the_value {T} d (c ∷ cs) = of c.1
  where
    of : Option T → T
    of (Some y) = y
    of None = d

module _ {T E S : Type 0} (by : E → ℕ) (stands : Option S → T → List E → Type 0) where
  pub took_it : (st : Step (Option T)) (old new : Me (Option T) (View E S)) (found n : ℕ) → old.0.stage ≡ Waits n → found ≡ n % 2 ^ 64 → Looked by stands st old found new → Took by stands n old new
  took_it st old new found n waits hit told =
      subst (λ (b : Bool). MatchBool b (Took by stands n old new) (new ≡ old)) (eq-eqb found (n % 2 ^ 64) hit) (told n waits)

  -- given back, and published
  pub left : (s1 s2 : Step (Option T)) (m0 m1 m2 m3 : Me (Option T) (View E S)) (f1 f2 : ℕ) (value : T) → m1 ≡ (m0.0, (0, Some value) ∷ rest m0.1) → Settled by stands s1 m1 f1 m2 → Published s2 m2 f2 m3
      → (e : E) × (by e ≡ m0.0.past.caller) × stands m0.0.start value (m0.0.past.seen ++ e ∷ []) × (m3 ≡ (with_entry m0.0 e, []))
  left s1 s2 m0 m1 m2 m3 f1 f2 value had t told =
      let same : t.0 ≡ value = ap (the_value value) (sym t.3 ∙ ap (λ (m : Me (Option T) (View E S)). m.1) had) in
      let view : m1.0 ≡ m0.0 = ap (λ (m : Me (Option T) (View E S)). m.0) had in
      let a : stands m0.0.start t.0 (m0.0.past.seen ++ t.2 ∷ []) = subst (λ (v : View E S). stands v.start t.0 (v.past.seen ++ t.2 ∷ [])) view t.6 in
      let stage : m2.0.stage ≡ Leaves t.1 t.2 = ap (λ (m : Me (Option T) (View E S)). m.0.stage) t.7 in (
        t.2,
        t.5 ∙ ap (λ (v : View E S). v.past.caller) view,
        subst (λ (x : T). stands m0.0.start x (m0.0.past.seen ++ t.2 ∷ [])) same a,
        told t.1 t.2 stage ∙ ap (λ (m : Me (Option T) (View E S)). (with_entry m.0 t.2, m.1)) t.7 ∙ ap (λ (v : View E S). (with_entry v t.2, [])) view,
      )
