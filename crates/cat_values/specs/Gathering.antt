-- What a call does that adds bytes to those gathered so far.
use Rattle.std.specs.Prelude.{◌≡◌, ℕ, List, ◌++◌, Result, MatchResult}

-- after Ok these bytes were added; after an Err maybe others or none, and what was there stays in front of them
abbrev pub Gathers : {T E : Type 0} → List ℕ → List ℕ → Result T E → List ℕ → Type 0
Gathers old new result bytes = MatchResult result (λ _. new ≡ old ++ bytes) (λ _. (more : List ℕ) × (new ≡ old ++ more))
