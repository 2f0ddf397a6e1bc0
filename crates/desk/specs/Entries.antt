-- Whose the entries of a history are.
use Rattle.std.specs.Prelude.{◌≡◌, ℕ, List, [], ◌∷◌}
use Rattle.desk.specs.History.{Entry}

-- all are of callers other than this one
abbrev pub Others : ℕ → List Entry → Type 0
Others me [] = Unit {0}
Others me (e ∷ es) = (e.0.caller ≡ me → ⊥) × Others me es
