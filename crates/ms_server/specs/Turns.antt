-- What one turn of a shared store adds.
use Rattle.std.specs.Prelude.{◌≡◌, ℕ, List, [], ◌∷◌, ◌++◌}
use Rattle.atomic_table.specs.Seated.{TableId}
use Rattle.cat_types.specs.declared.steps.Answer.{Answer}
use Rattle.cat_types.specs.declared.steps.Step.{Step}
use Rattle.desk.specs.Entries.{Others}
use Rattle.desk.specs.History.{Entry, NoneAbove, Start}
use Rattle.desk.specs.State.{start}

-- names no lock
abbrev pub no_table : TableId
no_table = record { words = 0; slots = 0; views_name = 0; atom = 0; block = 0; offset = 0; slot_names = [] }

-- some start
abbrev pub no_start : Start
no_start = record { state = start [] 0; fault = 0; past = [] }

-- who made an entry
abbrev pub by_caller : Entry → ℕ
by_caller e = e.0.caller

-- an entry, of its parts
abbrev pub entry : ℕ → Step → Answer → ℕ → Entry
entry caller s answer fault = (record { caller = caller; step = s }, record { answer = answer; fault = fault })

-- the fault number with which a history ends that began with this one
abbrev pub last_fault : ℕ → List Entry → ℕ
last_fault fault [] = fault
last_fault fault (e ∷ es) = last_fault e.1.fault es

-- others' entries were seen, and then the caller's own one, which is one more of its calls; no fault number that was seen is above that entry's
pub record TakesTurn (me : ℕ) (s : Step) (answer : Answer) (seen mine seen' mine' : List Entry) : Type 0 where
  pub between : List Entry
  pub fault : ℕ
  pub others : Others me between
  pub seen_is : seen' ≡ (seen ++ between) ++ entry me s answer fault ∷ []
  pub mine_is : mine' ≡ mine ++ entry me s answer fault ∷ []
  pub counted : NoneAbove fault seen'
