-- What turns add to a list.
use Rattle.std.specs.Prelude.{◌≡◌, ℕ, zero, suc, List, [], ◌∷◌, ◌++◌}
use Rattle.turn_lock.specs.Histories.{own}

-- the first so many calls, in order
abbrev pub first_calls : {E : Type 0} → (ℕ → E) → ℕ → List E
first_calls {E} entry zero = []
first_calls {E} entry (suc n) = first_calls entry n ++ entry n ∷ []

-- entries of others were added, and then one entry of this caller
pub record AddsOne {E : Type 0} (by : E → ℕ) (caller : ℕ) (entry : E) (old new : List E) : Type 0 where
  pub between : List E
  pub others : own by caller between ≡ []
  pub added : new ≡ (old ++ between) ++ entry ∷ []
