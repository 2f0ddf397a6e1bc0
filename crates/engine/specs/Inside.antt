-- How an engine keeps its disks, step by step.
use Rattle.std.specs.Prelude.{◌≡◌, ◌⊎◌, ◌≤◌, ℕ, ⊤, Bool, true, false, List, [], ◌∷◌, ◌++◌, map, Option, Some, None, Result, Ok, IfSome, IsErrOf, is_err}
use Rattle.cat_types.specs.declared.steps.Answer.{Answer}
use Rattle.cat_types.specs.declared.steps.Answer.TheVariants as answer
use Rattle.cat_types.specs.declared.steps.Step.{Step}
use Rattle.desk.specs.History.{Entry, IsLegal, NoneAbove, Pending, Point, Start, found, next, point_after, point_of, took}
use Rattle.desk.specs.State.{Beginning, MayAnswer, State, Written, durable, is_refused, opens, start, state_after_answer, unbegun, writing}
use Rattle.engine.specs.Keeping.{KeptMeanwhile, LeavesKept}
use Rattle.engine.specs.Opening.{opened, spelled, takes}
use Rattle.engine.specs.Stores.{Stored, fault_number}
use Rattle.engine.specs.declared.dumping.Prepared.{Prepared}
use Rattle.engine.specs.declared.dumping.Prepared.TheVariants as prepared
use Rattle.engine.specs.declared.turned.Turned.{Turned}
use Rattle.hms_outside.specs.Causes.{Rose}
use Rattle.hms_outside.specs.Disks.{Lies, Went}
use Rattle.ms_journal.specs.Books.{Book, LeavesOpen, OpensTo}
use Rattle.ms_journal.specs.declared.fault.StoreFault.{StoreFault}
use Rattle.ms_journal.specs.declared.fault.StoreFault.TheVariants as fault

-- ---- a journal

-- what is seen of a journal: its head, its payloads, the one in doubt, how its disk lies, the states that the disk went through, and its count of faults
pub record Seen : Type 0 where
  pub head : List ℕ
  pub payloads : List (List ℕ)
  pub doubt : Option (List ℕ)
  pub lies : Option Lies
  pub past : List Lies
  pub faults : ℕ

abbrev pub seen_by : {D : Type 0} → (D → Option Lies) → (D → List Lies) → (D → ℕ) → Book D → Seen
seen_by lies past faults book = record { head = book.head; payloads = book.payloads; doubt = book.doubt; lies = lies book.disk; past = past book.disk; faults = faults book.disk }

-- the same with the fault number of two disks, where the other one has counted so many faults
abbrev pub with_other : ℕ → Seen → Seen
with_other other v = record { head = v.head; payloads = v.payloads; doubt = v.doubt; lies = v.lies; past = v.past; faults = fault_number v.faults other }

-- a crash now leaves a file that opens to its payloads, or to them and the one in doubt
abbrev pub IsSure : Seen → Type 0
IsSure v = IfSome v.lies (LeavesOpen v.head v.payloads v.doubt)

-- a file that opens to its payloads, to them and the one in doubt, or to them and this one
abbrev pub Meanwhile : Seen → Option (List ℕ) → List ℕ → Type 0
Meanwhile v payload c = OpensTo v.head v.payloads v.doubt c ⊎ OpensTo v.head v.payloads payload c

-- what became of a journal to which this payload, if any, was to be added: it was, and none is in doubt; or, after a refusal, its payloads stay
abbrev pub LogAfter : Option (List ℕ) → Bool → Seen → Seen → Type 0
LogAfter None refused old new = (new.payloads ≡ old.payloads) × (new.doubt ≡ old.doubt)
LogAfter (Some payload) true old new = (new.payloads ≡ old.payloads) × ((new.doubt ≡ None) ⊎ ((new.doubt ≡ old.doubt) ⊎ (new.doubt ≡ Some payload)))
LogAfter (Some payload) false old new = (new.payloads ≡ old.payloads ++ payload ∷ []) × (new.doubt ≡ None)

-- A run of calls on a journal to which this payload, if any, was to be added: a crash at any moment of it leaves a file that opens without it or with it.
pub record Ran (payload : Option (List ℕ)) (refused : Bool) (old new : Seen) : Type 0 where
  pub head : new.head ≡ old.head
  pub log : LogAfter payload refused old new
  pub went : Went old.past new.past new.lies (LeavesOpen new.head new.payloads new.doubt) (Meanwhile old payload)
  pub later : old.faults ≤ new.faults

-- the payload, if any, spells what is to be written; where there is none, nothing is, or it is refused
abbrev pub Spells : Bool → Option (List ℕ) → Option Written → Type 0
Spells refused None None = ⊤
Spells refused None (Some written) = refused ≡ true
Spells refused (Some payload) None = ⊥
Spells refused (Some payload) (Some written) = spelled payload ≡ Some written

-- the state can take what a payload, if any, spells
abbrev pub IsTaken : State → Option (List ℕ) → Option Written → Type 0
IsTaken state None written = ⊤
IsTaken state (Some payload) None = ⊤
IsTaken state (Some payload) (Some written) = takes state written ≡ true

-- what writing an entry did to a journal
pub record Logged {T : Type 0} (written : Written) (result : Result T StoreFault) (old new : Seen) : Type 0 where
  pub payload : Option (List ℕ)
  pub spells : Spells (is_err result) payload (Some written)
  pub ran : Ran payload (is_err result) old new
  pub cause : IsErrOf result fault.DiskFault → Rose old.faults new.faults

-- what a step did to the state in memory and to a journal
pub record Stepped (old : State) (caller : ℕ) (step : Step) (given : Answer) (new : State) (v u : Seen) : Type 0 where
  pub state : new ≡ state_after_answer old caller step given
  pub may : MayAnswer old v.faults caller step given u.faults
  pub payload : Option (List ℕ)
  pub spells : Spells (is_refused given) payload (writing old step)
  pub taken : IsTaken old payload (writing old step)
  pub ran : Ran payload (is_refused given) v u

-- a step that writes nothing was answered so and did this to the state in memory, whatever the journal is
abbrev pub Unwritten : State → ℕ → Step → Answer → State → Type 0
Unwritten old caller step given new = (v : Seen) → IsSure v → Stepped old caller step given new v v

-- how a dump that was prepared begins
abbrev pub begins : Prepared → Beginning
begins (prepared.Refused refusal) = unbegun refusal
begins (prepared.Ready dump item) = opens dump item

-- the answer to a step whose entry isn't written
abbrev pub refused_by : StoreFault → Answer
refused_by fault.DiskFault = answer.StoreFault
refused_by fault.NoMemory = answer.NoMemory

-- ---- an engine

-- the payload in doubt, if any, is the entry of a pending step
abbrev pub IsPending : List ℕ → List (List ℕ) → Option (List ℕ) → List Pending → Type 0
IsPending head payloads None pending = ⊤
IsPending head payloads (Some payload) pending = (n : ℕ) × (l : Pending) × (found n pending ≡ Some l) × (opened head (payloads ++ payload ∷ []) ≡ Ok l.state)

-- a state in memory and a journal are where a history stands
pub record StandsAt (p : Point) (state : State) (v : Seen) : Type 0 where
  pub is_state : p.state ≡ state
  pub fault : p.fault ≡ v.faults
  pub sure : IsSure v
  pub opens : opened v.head v.payloads ≡ Ok (durable state)
  pub doubt : IsPending v.head v.payloads v.doubt p.pending

-- the state and the fault number at the opening, and what the disk had gone through by then
abbrev pub start_of : {J : Type 0} → (J → Seen) → List (State × J) → Start
start_of seen [] = record { state = start [] 0; fault = 0; past = [] }
start_of seen (o ∷ os) = record { state = o.0; fault = (seen o.1).faults; past = (seen o.1).past }

-- the entry of a turn, with the fault number behind it
abbrev pub entry_of : {J : Type 0} → (J → Seen) → Turned × J → Entry
entry_of seen t = (t.0.asked, record { answer = t.0.answer; fault = (seen t.1).faults })

abbrev pub entries_of : {J : Type 0} → (J → Seen) → List (Turned × J) → List Entry
entries_of seen [] = []
entries_of seen (t ∷ ts) = entry_of seen t ∷ entries_of seen ts

-- where the history of these turns stands
abbrev pub point_in : {J : Type 0} → (J → Seen) → List (State × J) → List (Turned × J) → Point
point_in seen opening turns = point_after (point_of (start_of seen opening)) (map took (entries_of seen turns))

-- turn by turn: a crash at each moment of it leaves what is kept for the history before it, without the turn or with it
abbrev pub KeptAlong : {J : Type 0} → (J → Seen) → Point → List Lies → List (Turned × J) → List Lies → Type 0
KeptAlong seen p before [] after = after ≡ before
KeptAlong seen p before (t ∷ ts) after = Went before (seen t.1).past (seen t.1).lies (LeavesKept (next p (took (entry_of seen t)))) (KeptMeanwhile p (entry_of seen t)) × KeptAlong seen (next p (took (entry_of seen t))) (seen t.1).past ts after

-- what an engine keeps: its history is legal, memory and journal are where it stands, and its disk was kept all along
pub record Runs {J : Type 0} (seen : J → Seen) (state : State) (journal : J) (opening : List (State × J)) (turns : List (Turned × J)) : Type 0 where
  pub legal : IsLegal (point_of (start_of seen opening)) (map took (entries_of seen turns))
  pub none : NoneAbove (seen journal).faults (entries_of seen turns)
  pub stands : StandsAt (point_in seen opening turns) state (seen journal)
  pub along : KeptAlong seen (point_of (start_of seen opening)) (start_of seen opening).past turns (seen journal).past

-- what contracts see of an engine by what it keeps
abbrev pub stored_by : {D : Type 0} → (Book D → Seen) → D → Book D → List (State × Book D) → List (Turned × Book D) → Stored D
stored_by seen disk_b journal opening turns = record { disk_a = journal.disk; disk_b = disk_b; start = start_of seen opening; history = entries_of seen turns }
