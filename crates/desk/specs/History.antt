-- Histories of a store, and which of them are legal.
use Rattle.std.specs.Prelude.{◌≢◌, ℕ, ◌≤◌, zero, suc, List, [], ◌∷◌, ◌++◌, map, Option, Some, None, option_to_list, IsSome, if◌then◌else◌}
use Rattle.std.specs.List.{AllByRecursion}
use Rattle.cat_types.specs.declared.changes.Event.{Event}
use Rattle.cat_types.specs.declared.steps.Answer.TheVariants as answer
use Rattle.cat_types.specs.declared.steps.Step.{Step}
use Rattle.desk.specs.State.{State, MayAnswer, due, durable, event_of, is_refused, state_after_answer, writes}
use Rattle.desk.specs.declared.entries.CallerStep.{CallerStep}
use Rattle.desk.specs.declared.entries.Outcome.{Outcome}
use Rattle.hms_outside.specs.Disks.{Lies}

-- one turn: who asked for which step, what was answered, and the store's fault number afterwards
abbrev pub Entry : Type 0
Entry = CallerStep × Outcome

-- an entry; or an opening of the store again, with the index of a step that it found done among the pending ones, the oldest at 0, where it found one, and the fault number
pub data Transition : Type 0 where
  took : Entry → Transition
  reopened : Option ℕ → ℕ → Transition

-- a state and the fault number at the opening, and what the store's disk had gone through by then, the newest last
pub record Start : Type 0 where
  pub state : State
  pub fault : ℕ
  pub past : List Lies

-- a writing step that was refused by a fault or for memory, and may yet be found done: what is on the disks with it, and its event
pub record Pending : Type 0 where
  pub state : State
  pub event : Option Event

-- where a history stands: its state, the fault number, and the steps that may yet be found done, the oldest first
pub record Point : Type 0 where
  pub state : State
  pub fault : ℕ
  pub pending : List Pending

abbrev pub point_of : Start → Point
point_of s = record { state = s.state; fault = s.fault; pending = [] }

-- the pending step with this index
abbrev pub found : ℕ → List Pending → Option Pending
found n [] = None
found zero (l ∷ ls) = Some l
found (suc n) (l ∷ ls) = found n ls

-- the step that an opening found done
abbrev pub found_done : Option ℕ → List Pending → Option Pending
found_done None pending = None
found_done (Some n) pending = found n pending

-- what the opening gives: what is on the disks, with the step where one was found done
abbrev pub state_found : State → Option Pending → State
state_found s None = durable s
state_found s (Some l) = l.state

abbrev pub event_found : Option Pending → Option Event
event_found None = None
event_found (Some l) = l.event

-- a step that may yet be found done
abbrev pub pending_at : State → ℕ → Step → Pending
pending_at state caller step = record { state = durable (due state caller step).state; event = event_of state step }

-- a refused writing step may yet be found done; an accepted one settles all before it
abbrev pub pending_after : Point → Entry → List Pending
pending_after p e =
    if writes p.state e.0.step
    then if is_refused e.1.answer then p.pending ++ pending_at p.state e.0.caller e.0.step ∷ [] else []
    else p.pending

-- where a history stands after one transition more
abbrev pub next : Point → Transition → Point
next p (took e) = record {
  state = state_after_answer p.state e.0.caller e.0.step e.1.answer;
  fault = e.1.fault;
  pending = pending_after p e;
}
next p (reopened a fault) = record { state = state_found p.state (found_done a p.pending); fault = fault; pending = [] }

-- an opening may find none of the pending steps done, or any one of them
abbrev pub MayReopen : Option ℕ → List Pending → Type 0
MayReopen None pending = Unit {0}
MayReopen (Some n) pending = IsSome (found n pending)

-- a transition that may come next; fault numbers never fall
abbrev pub MayFollow : Point → Transition → Type 0
MayFollow p (took e) = (p.fault ≤ e.1.fault) × MayAnswer p.state p.fault e.0.caller e.0.step e.1.answer e.1.fault
MayFollow p (reopened a fault) = MayReopen a p.pending

abbrev pub point_after : Point → List Transition → Point
point_after p [] = p
point_after p (m ∷ ms) = point_after (next p m) ms

abbrev pub IsLegal : Point → List Transition → Type 0
IsLegal p [] = Unit {0}
IsLegal p (m ∷ ms) = MayFollow p m × IsLegal (next p m) ms

-- entries without openings between them are legal from a start
abbrev pub Legal : Start → List Entry → Type 0
Legal s es = IsLegal (point_of s) (map took es)

abbrev pub state_after : Start → List Entry → State
state_after s es = (point_after (point_of s) (map took es)).state

-- no entry has a fault number above this one
abbrev pub NoneAbove : ℕ → List Entry → Type 0
NoneAbove fault es = AllByRecursion (λ e. e.1.fault ≤ fault) es

-- no answer is a fault of the store
abbrev pub NoStoreFault : List Entry → Type 0
NoStoreFault es = AllByRecursion (λ e. e.1.answer ≢ answer.StoreFault) es

-- the events of a transition, and of a history, in order
abbrev pub events_at : Point → Transition → List Event
events_at p (took e) = if is_refused e.1.answer then [] else option_to_list (event_of p.state e.0.step)
events_at p (reopened a fault) = option_to_list (event_found (found_done a p.pending))

abbrev pub events_from : Point → List Transition → List Event
events_from p [] = []
events_from p (m ∷ ms) = events_at p m ++ events_from (next p m) ms
