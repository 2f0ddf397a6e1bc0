-- What was gathered before memory was refused.
use Rattle.std.proofs.Common.{◌≡◌, ℕ, List, ◌++◌, ap, ◌∙◌, append_assoc}

-- some bytes were added
abbrev pub Grew : List ℕ → List ℕ → Type 0
Grew old new = (more : List ℕ) × (new ≡ old ++ more)

-- further ones behind those of a call
pub grew_behind : (old mid new bytes : List ℕ) → mid ≡ old ++ bytes → Grew mid new → Grew old new
grew_behind old mid new bytes first rest = (bytes ++ rest.0, rest.1 ∙ ap (λ w. w ++ rest.0) first ∙ append_assoc old bytes rest.0)
