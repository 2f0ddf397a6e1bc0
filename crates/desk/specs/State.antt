-- The state of a store, and what one step answers, writes and does.
use Rattle.std.specs.Prelude.{◌≡◌, ℕ, ◌+◌, ◌==◌, nat_le, ℤ, Bool, true, false, List, [], ◌∷◌, ◌++◌, Option, None, Some, is_some, if◌then◌else◌}
use Rattle.std.specs.List.{filter}
use Rattle.cat_types.specs.declared.calls.Call.{Call}
use Rattle.cat_types.specs.declared.changes.Change.{Change}
use Rattle.cat_types.specs.declared.changes.Event.{Event}
use Rattle.cat_types.specs.declared.replies.Reply.{Reply}
use Rattle.cat_types.specs.declared.steps.Answer.{Answer}
use Rattle.cat_types.specs.declared.steps.Answer.TheVariants as answer
use Rattle.cat_types.specs.declared.steps.Step.{Step}
use Rattle.cat_types.specs.declared.items.Item.{Item}
use Rattle.cat_types.specs.declared.steps.DumpRefusal.{DumpRefusal}
use Rattle.cat_types.specs.declared.steps.DumpRefusal.TheVariants.{NoSuchDb}
use Rattle.cat_types.specs.declared.steps.Step.TheVariants.{Client, DumpBegin, DumpEnd, DumpEvents, DumpParts, DumpSeal, DumpTable, Trim}
use Rattle.cat_values.specs.Names.{lower}
use Rattle.cat_objects.specs.Catalogue.{Catalogue, database, new_catalogue}
use Rattle.cat_objects.specs.declared.held.HeldDb.{HeldDb}
use Rattle.dump_steps.specs.Open.{dumping, first_kept, open_dump, takes_events, takes_objects, trim_end, with_dump, with_sealed, without_dump}
use Rattle.dump_steps.specs.Pieces.{answered_in, begun, first_item, is_taken_in, kind_of, next_events, next_parts, next_table, told_begun}
use Rattle.dump_steps.specs.Ranges.{begin_refusal}
use Rattle.dump_steps.specs.declared.open_dumps.OpenDump.{OpenDump}
use Rattle.dump_steps.specs.declared.ranges.Asked.{Asked}
use Rattle.cat_objects.specs.Changes.{done, has_operation}
use Rattle.rulings.specs.Decisions.{Decision, accepted, refused}
use Rattle.catalogue.specs.Polls.{poll_of}
use Rattle.rulings.specs.Refusals.{refusal_reply}
use Rattle.catalogue.specs.Rules.{decision}
use Rattle.rulings.specs.declared.bars.Bars.{Bars}
use Rattle.catalogue.specs.declared.poll.Poll.{Poll}
use Rattle.desk.specs.Polls.{poll_reply}
use Rattle.hms_outside.specs.Causes.{Rose}

-- the store's id, its catalogue, the kept events, the number of the first one that is kept, the newest event number, the last number of a dump, and the open dumps
pub record State : Type 0 where
  pub id : List ℕ
  pub catalogue : Catalogue
  pub events : List Event
  pub first : ℕ
  pub newest : ℕ
  pub last_dump : ℕ
  pub dumps : List OpenDump

-- a new store: `default` alone and no events, whose numbers begin after the base
abbrev pub start : List ℕ → ℕ → State
start id base = record { id = id; catalogue = new_catalogue; events = []; first = base + 1; newest = base; last_dump = 0; dumps = [] }

-- a state with these open dumps
abbrev pub with_dumps : List OpenDump → State → State
with_dumps dumps state = record { id = state.id; catalogue = state.catalogue; events = state.events; first = state.first; newest = state.newest; last_dump = state.last_dump; dumps = dumps }

-- what is on the disks of a state: all but the open dumps
abbrev pub durable : State → State
durable state = with_dumps [] state

-- what bars changes in a state: dumps of whole databases; so far no state has replicas or loads
abbrev pub bars_of : State → Bars
bars_of state = record { replicas = []; dumping = dumping state.dumps; loading = [] }

-- what is decided of a call in a state; a poll changes nothing, and its result isn't looked up here
abbrev pub decision_of : State → Call → ℕ → Decision
decision_of state call moment = decision state.catalogue (bars_of state) call moment (state.newest + 1)

-- ---- how a dump begins

-- how the beginning of a dump ends: it is refused; or this dump is open, with this first item
pub data Beginning : Type 0 where
  unbegun : DumpRefusal → Beginning
  opens : OpenDump → Option Item → Beginning

-- the same by what it is refused for, and by its database
abbrev pub beginning_by : Option DumpRefusal → Option HeldDb → State → ℕ → List ℕ → Asked → Beginning
beginning_by (Some refusal) held state caller db asked = unbegun refusal
beginning_by None None state caller db asked = unbegun NoSuchDb
beginning_by None (Some held) state caller db asked = opens (begun caller db held.born state.newest state.last_dump asked) (first_item (kind_of asked.from) state.newest held)

-- for what a dump of the database with this name is refused, in any case of its letters
abbrev pub refused_dump : State → List ℕ → Asked → Option DumpRefusal
refused_dump state name asked = begin_refusal (database state.catalogue (lower name)) state.first state.newest state.last_dump asked

-- how the beginning of a dump of the database with this name ends
abbrev pub beginning : State → ℕ → List ℕ → Asked → Beginning
beginning state caller name asked = beginning_by (refused_dump state name asked) (database state.catalogue (lower name)) state caller (lower name) asked

-- what the step that begins a dump asks for
abbrev pub asked_for : Option ℤ → Option ℤ → Option ℤ → Asked
asked_for from to limit = record { from = from; to = to; limit = limit }

-- how its beginning is answered
abbrev pub begin_answer : List ℕ → Beginning → Answer
begin_answer id (unbegun refusal) = answer.DumpRefused refusal
begin_answer id (opens dump first) = told_begun id dump first

-- the open dumps after it
abbrev pub dumps_begun : List OpenDump → Beginning → List OpenDump
dumps_begun dumps (unbegun refusal) = dumps
dumps_begun dumps (opens dump first) = with_dump dump dumps

-- ---- what a step writes

-- what is written to the log of a store: an event is kept, the number of a dump was drawn, or the kept events begin with this number
pub data Written : Type 0 where
  kept : Event → Written
  drew : ℕ → Written
  trimmed : ℕ → Written

-- the event that is kept by what is written, where there is one
abbrev pub event_in : Option Written → Option Event
event_in None = None
event_in (Some (kept event)) = Some event
event_in (Some (drew number)) = None
event_in (Some (trimmed first)) = None

-- the next event, which keeps a change at a moment
abbrev pub next_event : State → ℕ → Change → Event
next_event state moment change = record { id = state.newest + 1; moment = moment; change = change }

-- a change is written as the next event, where it has an operation
abbrev pub written_change : State → ℕ → Option Change → Option Written
written_change state moment None = None
written_change state moment (Some change) = if has_operation change then Some (kept (next_event state moment change)) else None

-- what is written by a decision: the change of an accepted call
abbrev pub written_by : Decision → State → ℕ → Option Written
written_by (refused refusal) state moment = None
written_by (accepted change result) state moment = written_change state moment change

-- the number after the last one of a dump is written, where a dump is begun
abbrev pub drawn_by : Option DumpRefusal → ℕ → Option Written
drawn_by (Some refusal) last = None
drawn_by None last = Some (drew (last + 1))

-- the first kept number after a trim
abbrev pub first_after_trim : State → ℤ → ℕ
first_after_trim state upto = first_kept state.first (trim_end upto state.newest state.dumps)

-- a first kept number is written where it is another one
abbrev pub written_first : ℕ → ℕ → Option Written
written_first old new = if old == new then None else Some (trimmed new)

-- what a step writes, where it is answered as is due
abbrev pub writing : State → Step → Option Written
writing state (Client call moment) = written_by (decision_of state call moment) state moment
writing state (DumpBegin db from to limit) = drawn_by (refused_dump state db (asked_for from to limit)) state.last_dump
writing state (DumpTable dump after) = None
writing state (DumpParts dump table born after) = None
writing state (DumpSeal dump) = None
writing state (DumpEvents dump after) = None
writing state (DumpEnd dump) = None
writing state (Trim upto) = written_first state.first (first_after_trim state upto)

-- whether a step writes
abbrev pub writes : State → Step → Bool
writes state step = is_some (writing state step)

-- the event that a step keeps, where it is answered as is due
abbrev pub event_of : State → Step → Option Event
event_of state step = event_in (writing state step)

-- ---- what is due

-- these events without those below this number
abbrev pub events_from_number : ℕ → List Event → List Event
events_from_number first events = filter (λ event. nat_le first event.id) events

-- a state with what was written: the event's change is done, and the event is kept; or the number of a dump is drawn; or the kept events begin with this number
abbrev pub with_written : Option Written → State → State
with_written None state = state
with_written (Some (kept event)) state = record {
  id = state.id;
  catalogue = done event.change state.catalogue;
  events = state.events ++ event ∷ [];
  first = state.first;
  newest = event.id;
  last_dump = state.last_dump;
  dumps = state.dumps;
}
with_written (Some (drew number)) state = record {
  id = state.id;
  catalogue = state.catalogue;
  events = state.events;
  first = state.first;
  newest = state.newest;
  last_dump = number;
  dumps = state.dumps;
}
with_written (Some (trimmed first)) state = record {
  id = state.id;
  catalogue = state.catalogue;
  events = events_from_number first state.events;
  first = first;
  newest = state.newest;
  last_dump = state.last_dump;
  dumps = state.dumps;
}

-- one answer, and the one state after it
pub record Due : Type 0 where
  pub answer : Answer
  pub state : State

-- the reply to a call by its decision
abbrev pub reply_by : Decision → Reply
reply_by (refused refusal) = refusal_reply refusal
reply_by (accepted change result) = result

-- the reply to a call: a poll is answered from the kept events, and any other call by its decision
abbrev pub reply_in : State → Option Poll → Decision → Reply
reply_in state (Some poll) decision = poll_reply state.events state.newest poll
reply_in state None decision = reply_by decision

-- the end of a dump is answered where it is open
abbrev pub end_answer : Option OpenDump → Answer
end_answer None = answer.NotOpen
end_answer (Some dump) = answer.Ended

-- the one answer to a caller's step
abbrev pub due_answer : State → ℕ → Step → Answer
due_answer state caller (Client call moment) = answer.Reply (reply_in state (poll_of call) (decision_of state call moment))
due_answer state caller (DumpBegin db from to limit) = begin_answer state.id (beginning state caller db (asked_for from to limit))
due_answer state caller (DumpTable dump after) = answered_in (open_dump caller dump state.dumps) takes_objects state.catalogue (next_table state.catalogue state.newest after)
due_answer state caller (DumpParts dump table born after) = answered_in (open_dump caller dump state.dumps) takes_objects state.catalogue (next_parts state.catalogue state.newest table born after)
due_answer state caller (DumpSeal dump) = answered_in (open_dump caller dump state.dumps) takes_objects state.catalogue (λ opened. answer.Sealed state.newest)
due_answer state caller (DumpEvents dump after) = answered_in (open_dump caller dump state.dumps) takes_events state.catalogue (next_events state.events after)
due_answer state caller (DumpEnd dump) = end_answer (open_dump caller dump state.dumps)
due_answer state caller (Trim upto) = answer.Kept (first_after_trim state upto)

-- the open dumps after a step that is answered as is due
abbrev pub due_dumps : State → ℕ → Step → List OpenDump
due_dumps state caller (Client call moment) = state.dumps
due_dumps state caller (DumpBegin db from to limit) = dumps_begun state.dumps (beginning state caller db (asked_for from to limit))
due_dumps state caller (DumpTable dump after) = state.dumps
due_dumps state caller (DumpParts dump table born after) = state.dumps
due_dumps state caller (DumpSeal dump) = if is_taken_in (open_dump caller dump state.dumps) takes_objects state.catalogue then with_sealed caller dump state.newest state.dumps else state.dumps
due_dumps state caller (DumpEvents dump after) = state.dumps
due_dumps state caller (DumpEnd dump) = without_dump caller dump state.dumps
due_dumps state caller (Trim upto) = state.dumps

-- the one answer to a caller's step, and the one state after it: what it writes is done, and then the open dumps are these
abbrev pub due : State → ℕ → Step → Due
due state caller step = record { answer = due_answer state caller step; state = with_dumps (due_dumps state caller step) (with_written (writing state step) state) }

-- ---- which answers may be given

-- why a step wasn't taken
pub data Untaken : Type 0 where
  by_fault : Untaken
  for_memory : Untaken

-- why the step with this answer wasn't taken, where it wasn't
abbrev pub untaken : Answer → Option Untaken
untaken (answer.Reply reply) = None
untaken (answer.Began dump source born begin end first) = None
untaken (answer.Table table) = None
untaken answer.NoTable = None
untaken (answer.Parts parts more) = None
untaken (answer.Sealed end) = None
untaken (answer.Events events more) = None
untaken answer.Ended = None
untaken (answer.DumpRefused refusal) = None
untaken (answer.Kept first) = None
untaken answer.NotOpen = None
untaken answer.StoreFault = Some by_fault
untaken answer.NoMemory = Some for_memory

-- the step was refused by a fault or for memory, and its state stays
abbrev pub is_refused : Answer → Bool
is_refused given = is_some (untaken given)

-- whether a step may be answered want of memory: none is wanted to end a dump
abbrev pub may_want : Step → Bool
may_want (Client call moment) = true
may_want (DumpBegin db from to limit) = true
may_want (DumpTable dump after) = true
may_want (DumpParts dump table born after) = true
may_want (DumpSeal dump) = true
may_want (DumpEvents dump after) = true
may_want (DumpEnd dump) = false
may_want (Trim upto) = true

-- whether an answer may be given, by why its step wasn't taken: want of memory where the step wants some; a fault of the store to a step that writes, where the fault number rose; and else what is due
abbrev pub MayBe : State → ℕ → ℕ → Step → Answer → Option Untaken → ℕ → Type 0
MayBe state before caller step given (Some for_memory) after = may_want step ≡ true
MayBe state before caller step given (Some by_fault) after = (writes state step ≡ true) × Rose before after
MayBe state before caller step given None after = given ≡ due_answer state caller step

-- an answer that a step in a state may be given, with the fault numbers before and after it
abbrev pub MayAnswer : State → ℕ → ℕ → Step → Answer → ℕ → Type 0
MayAnswer state before caller step given after = MayBe state before caller step given (untaken given) after

-- the state after a step that was given this answer: a refused step leaves it, any other has done what is due
abbrev pub state_after_answer : State → ℕ → Step → Answer → State
state_after_answer state caller step given = if is_refused given then state else (due state caller step).state
