-- The events that a dump takes of a source's, and those of them above a position.
use Rattle.std.proofs.Common.{◌≡◌, inl, inr, ℕ, ◌+◌, ◌≤◌, ◌<◌, Bool, true, false, List, [], ◌∷◌, refl, sym, ◌∙◌, ap, subst, arith}
use Rattle.std.specs.Prelude.{◌==◌, ◌&&◌, cond, nat_lt, bytes_eq, filter}
use Rattle.std.proofs.lemmas.Bool.Decides.{nat_tests}
use Rattle.std.proofs.lemmas.Bool.{cases_lt}
use Rattle.cat_types.specs.declared.changes.Change.{Change}
use Rattle.cat_types.specs.declared.changes.Event.{Event}
use Rattle.cat_types.specs.declared.changes.Op.{Op}
use Rattle.replicas.specs.Objects.{Name}
use Rattle.replicas.specs.Stands.{AreEvents}
use Rattle.replicas.specs.Life.{ops_of, AreNumbered, is_of, is_above}

-- a longer range, whose first numbers have no operations
widen : (ops : ℕ → List Op) (low at end : ℕ) (es : List Event) → low ≤ at → ((k : ℕ) → low < k → k ≤ at → ops k ≡ []) → AreEvents ops at end es → AreEvents ops low end es
widen ops low at end [] le none quiet = λ k lt up. elim (cases_lt at k) [
  | inl above ↦ quiet k above up
  | inr below ↦ none k lt below
]
widen ops low at end (e ∷ es) le none h = (omega (arith, le, h.0), h.1, early, h.3, h.4)
  where
    early : (k : ℕ) → low < k → k < e.id → ops k ≡ []
    early k lt up = elim (cases_lt at k) [
      | inl above ↦ h.2 k above up
      | inr below ↦ none k lt below
    ]

-- what a list of events numbered one after the other reaches
reaches : (changes : ℕ → Change) (at end : ℕ) (es : List Event) → AreNumbered changes at end es → at ≤ end
reaches changes at end [] h = omega (arith, h)
reaches changes at end (e ∷ es) h = let more = reaches changes (at + 1) end es h.2 in omega (arith, more)

-- the events of the database under its born are all that have operations of it
pub of_database : (w : Name) (b : ℕ) (changes : ℕ → Change) (at end : ℕ) (es : List Event) → AreNumbered changes at end es → AreEvents (ops_of w b changes) at end (filter (is_of w b) es)
of_database w b changes at end [] h = λ k lt le. absurd (omega (arith, h, lt, le))
of_database w b changes at end (e ∷ es) h = by_test (is_of w b e) refl (of_database w b changes (at + 1) end es h.2)
  where
    test_is : is_of w b e ≡ (bytes_eq (changes (at + 1)).db w && ((changes (at + 1)).db_born == b))
    test_is = ap (λ (c : Change). bytes_eq c.db w && (c.db_born == b)) h.1

    by_test : (x : Bool) → is_of w b e ≡ x → AreEvents (ops_of w b changes) (at + 1) end (filter (is_of w b) es) → AreEvents (ops_of w b changes) at end (cond x (e ∷ filter (is_of w b) es) (filter (is_of w b) es))
    by_test true is rest = (
      omega (arith, h.0),
      let more = reaches changes (at + 1) end es h.2 in omega (arith, more, h.0),
      λ k lt up. absurd (omega (arith, lt, up, h.0)),
      ap (ops_of w b changes) h.0 ∙ ap (λ (x : Bool). cond x (changes (at + 1)).ops []) (sym test_is ∙ is) ∙ sym (ap (λ (c : Change). c.ops) h.1),
      subst (λ (k : ℕ). AreEvents (ops_of w b changes) k end (filter (is_of w b) es)) (sym h.0) rest,
    )
    by_test false is rest = widen (ops_of w b changes) at (at + 1) end (filter (is_of w b) es) (omega arith) (λ k lt up. let same : at + 1 ≡ k = omega (arith, lt, up) in subst (λ (j : ℕ). ops_of w b changes j ≡ []) same (ap (λ (x : Bool). cond x (changes (at + 1)).ops []) (sym test_is ∙ is))) rest

-- of a folder's events those above a position inside its range
pub above_position : (ops : ℕ → List Op) (low at end : ℕ) (es : List Event) → low ≤ at → AreEvents ops low end es → AreEvents ops at end (filter (is_above at) es)
above_position ops low at end [] le quiet = λ k lt up. quiet k (omega (arith, le, lt)) up
above_position ops low at end (e ∷ es) le h = elim (cases_lt at e.id) [
  | inl lt ↦
      let test : nat_lt at e.id ≡ true = grind (arith, nat_tests) in
      subst (λ (x : Bool). AreEvents ops at end (cond x (e ∷ filter (is_above at) es) (filter (is_above at) es))) (sym test)
      (lt, h.1, λ k above up. h.2 k (omega (arith, le, above)) up, h.3, all_above e.id es lt h.4)
  | inr up ↦
      let test : nat_lt at e.id ≡ false = grind (arith, nat_tests) in
      subst (λ (x : Bool). AreEvents ops at end (cond x (e ∷ filter (is_above at) es) (filter (is_above at) es))) (sym test) (above_position ops e.id at end es up h.4)
]
  where
    all_above : (id : ℕ) (rest : List Event) → at < id → AreEvents ops id end rest → AreEvents ops id end (filter (is_above at) rest)
    all_above id [] lt quiet = quiet
    all_above id (x ∷ xs) lt g =
        let test : nat_lt at x.id ≡ true = let more = g.0 in grind (arith, nat_tests) in
        subst (λ (y : Bool). AreEvents ops id end (cond y (x ∷ filter (is_above at) xs) (filter (is_above at) xs))) (sym test)
        (g.0, g.1, g.2, g.3, all_above x.id xs (let more = g.0 in omega (arith, more, lt)) g.4)
