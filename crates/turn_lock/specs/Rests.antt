-- How a pass is between two calls: with no turn out, or with a turn out that holds the value.
use Rattle.std.specs.Prelude.{ℕ, Bool, true, false, List, [], ◌∷◌, Option, None, Some, IsSome}
use mathlib.Core.Path.{sym}
use mathlib.Core.Bool.{true≢false}
use Rattle.turn_lock.specs.declared.view.Stage.{Stage}
use Rattle.turn_lock.specs.declared.view.Stage.TheVariants.{Spent, Idle, Waits, Holds, Leaves}

module _ {E : Type 0} where
  -- it has no turn number, or holds the value
  abbrev pub rests : Stage E → Bool
  rests Spent = false
  rests Idle = true
  rests (Waits n) = false
  rests (Holds n) = true
  rests (Leaves n e) = false

  -- a turn of it is out
  abbrev pub turn_out : Stage E → Bool
  turn_out Spent = false
  turn_out Idle = false
  turn_out (Waits n) = false
  turn_out (Holds n) = true
  turn_out (Leaves n e) = false

module _ {T E : Type 0} where
  -- the slot that it has taken, which is empty while the value is in the turn
  abbrev pub carried : Stage E → List (ℕ × Option T)
  carried Spent = []
  carried Idle = []
  carried (Waits n) = []
  carried (Holds n) = (0, None) ∷ []
  carried (Leaves n e) = []

module _ {S : Type 0} where
  -- what an option that is known to have a value has
  abbrev pub given : (o : Option S) → IsSome o → S
  given (Some x) there = x
  given None there = absurd (true≢false (sym there))
