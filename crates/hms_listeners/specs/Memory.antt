-- What contracts see of a listener over memory.
use Rattle.std.specs.Prelude.{ℕ, Bool, true, false, List, [], ◌∷◌, map, Some}
use Rattle.hms_outside.specs.Memory.{Plan, Store, Supply}
use Rattle.hms_listeners.specs.Listening.{Returned, as_returned}

-- the inputs that are left, the connections that were handed back, their sinks, how many are out, and which calls are to fail
pub record Lobby : Type 0 where
  pub inputs : List (List ℕ)
  pub returned : List Returned
  pub sinks : List Store
  pub out : ℕ
  pub plan : Plan

-- a source and a sink over memory that were handed back
abbrev pub returned_of : Supply × Store → Returned
returned_of c = as_returned (Some c.1.held) c.0.plan.faults c.1.plan.faults

-- connections over memory that were handed back
abbrev pub all_returned : List (Supply × Store) → List Returned
all_returned cs = map returned_of cs

-- whether no input is left
abbrev pub is_over : List (List ℕ) → Bool
is_over [] = true
is_over (x ∷ xs) = false
