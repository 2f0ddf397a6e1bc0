-- What a clock that tells its moments answers.
use Rattle.std.specs.Prelude.{◌≡◌, ℕ, List, [], ◌∷◌, Option}
use Rattle.hms_outside.specs.Told.{Goes}

-- the first moment to come, or 0 where there is none
abbrev pub first_moment : List ℕ → ℕ
first_moment [] = 0
first_moment (m ∷ ms) = m

-- the moments to come after one was answered: the last one stays
abbrev pub later_moments : List ℕ → List ℕ
later_moments [] = []
later_moments (m ∷ []) = m ∷ []
later_moments (m ∷ n ∷ ms) = n ∷ ms

-- the clock answered the first of its moments, and took it off
abbrev pub Ticks : Option (List ℕ) → Option (List ℕ) → ℕ → Type 0
Ticks old new moment = Goes (λ moments after. (moment ≡ first_moment moments) × (after ≡ later_moments moments)) old new
