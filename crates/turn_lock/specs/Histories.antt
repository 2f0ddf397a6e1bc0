-- Lists of entries, and what of them a pass has seen.
use Rattle.std.specs.Prelude.{◌≡◌, ℕ, ◌==◌, List, [], ◌∷◌, ◌++◌, if◌then◌else◌}
use Rattle.turn_lock.specs.declared.view.Past.{Past}

module _ {E : Type 0} where
  -- the entries of one caller, where by tells each entry's caller
  abbrev pub own : (E → ℕ) → ℕ → List E → List E
  own by caller [] = []
  own by caller (e ∷ es) = if by e == caller then e ∷ own by caller es else own by caller es

  -- the list ys begins with xs
  abbrev pub Begins : List E → List E → Type 0
  Begins xs ys = (rest : List E) × (ys ≡ xs ++ rest)

-- a pass fits a history: what it has seen is a prefix of it, and all entries of its caller in the history are its own entries, each once and in order, and were seen
pub record Fits {E : Type 0} (by : E → ℕ) (log : List E) (past : Past E) : Type 0 where
  pub begins : Begins past.seen log
  pub calls : own by past.caller log ≡ past.mine
  pub calls_seen : own by past.caller past.seen ≡ past.mine
