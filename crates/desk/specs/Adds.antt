-- What a run of one caller adds to a history.
use Rattle.std.specs.Prelude.{◌≡◌, ◌==◌, ℕ, Bool, IsTrue, List, [], ◌∷◌, ◌++◌, if◌then◌else◌}
use Rattle.desk.specs.History.{Entry}

-- the entries of one caller, in order
abbrev pub own : ℕ → List Entry → List Entry
own me [] = []
own me (e ∷ es) = if e.0.caller == me then e ∷ own me es else own me es

-- entries were added, of which the caller's have P; where the caller is alone nobody else's were
pub record Adds (alone : Bool) (me : ℕ) (old new : List Entry) (P : List Entry → Type 0) : Type 0 where
  pub added : List Entry
  pub is : new ≡ old ++ added
  pub mine : P (own me added)
  pub sole : IsTrue alone → new ≡ old ++ own me added
