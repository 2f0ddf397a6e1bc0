-- What is told of a store that was opened and worked at, or made.
use Rattle.std.proofs.Common.{◌≡◌, ◌∙◌, ℕ, ℤ, ◌≤◌, List, [], ◌++◌, map, Option, Some, None, ap, subst, sym, arith}
use Rattle.std.proofs.lemmas.Bool.{false≢true}
use Rattle.std.specs.Prelude.{IfSome}
use Rattle.desk.specs.History.{Entry, MayReopen, Point, Start, found_done, point_after, point_of, state_found, took}
use Rattle.desk.specs.State.{State, durable, start as new_state}
use Rattle.engine.specs.Keeping.{IsReopened, Kept, LeavesState}
use Rattle.engine.specs.Opening.{Opens}
use Rattle.engine.specs.Stores.{fault_number}
use Rattle.hms_outside.specs.Disks.{Lies, Went}
use Rattle.ms_cli.specs.Keeping.{Disk}
use Rattle.ms_cli.specs.Local.{Made}
use Rattle.ms_cli.specs.Opened.{Closed, Opened, Outside, Worked}
use Rattle.ms_cli.specs.Telling.{Tells, Writes, made_line, status_of}
use Rattle.ms_cli.proofs.Keeps.{goes_on_from}
use Rattle.ms_cli.specs.Trimming.{Trims}
use Rattle.ms_journal.specs.Found.{AsFound, LeavesAsFound}
use Rattle.ms_session.specs.declared.end.End.{End}

-- the store was opened, which left these disks, and then worked at
pub opened : (Does : List Entry → Type 0) (old new : Outside) (mid_a mid_b : Disk) (s : Start) → IfSome old.disk_a.lies (λ d. Opens d.held s.state) → s.fault ≡ fault_number mid_a.faults mid_b.faults → old.disk_a.faults ≤ mid_a.faults → mid_b ≡ old.disk_b → s.past ≡ mid_a.past
    → IfSome old.disk_a.lies (λ d. (q : Point) → Kept q d.held → IsReopened q s) → Went old.disk_a.past mid_a.past mid_a.lies (LeavesAsFound old.disk_a.lies) (AsFound old.disk_a.lies)
    → Worked Does s new.disk_a new.disk_b → Opened Does old new
opened Does old new mid_a mid_b s opens fault later other past reopened went h = record {
  start = s;
  opens = opens;
  later = omega (arith, fault, later, ap (λ (d : Disk). d.faults) other);
  worked = h;
  kept = λ p kept. goes_on_from p s h.entries old.disk_a mid_a new.disk_a kept reopened went past h.closed.since h.closed.held;
}

-- a store that had no history yet was worked at by a caller alone, and closed
pub worked : (Does : List Entry → Type 0) (start begun : Start) (a b : Disk) (before after final mine : List Entry) → begun ≡ start → before ≡ [] → after ≡ before ++ mine → final ≡ after → Closed begun final a b → Does mine → Worked Does start a b
worked Does start begun a b before after final mine starts none adds ends closed does =
    let all : mine ≡ final = sym (ends ∙ (adds ∙ ap (λ (l : List Entry). l ++ mine) none)) in
    subst (λ (s : Start). Worked Does s a b) starts (record { entries = final; closed = closed; does = subst Does all does })

-- a trim up to the same number
pub trims_again : (m n : ℤ) (old new : Outside) (status : ℕ) → m ≡ n → Opened (Trims m old new status) old new → Opened (Trims n old new status) old new
trims_again m n old new status same opened = subst (λ (k : ℤ). Opened (Trims k old new status) old new) same opened

-- what is kept for a history that just began opens to what is on the disks of its start
first_opens : (state : State) (c : List ℕ) (done : Option ℕ) → MayReopen done [] → Opens c (state_found state (found_done done [])) → Opens c (durable state)
first_opens state c None may opens = opens
first_opens state c (Some n) may opens = absurd (false≢true may)

kept_first : (s : Start) (es : List Entry) (state : State) (lies : Option Lies) → es ≡ [] → s.state ≡ state → IfSome lies (λ d. Kept (point_after (point_of s) (map took es)) d.held) → IfSome lies (λ d. Opens d.held (durable state))
kept_first s es state None none is kept = tt
kept_first s es state (Some d) none is kept =
    let first : Kept (point_of s) d.held = subst (λ (l : List Entry). Kept (point_after (point_of s) (map took l)) d.held) none kept in
    subst (λ (t : State). Opens d.held (durable t)) is (first_opens s.state d.held first.done first.may first.opens)

-- a store was made, and its line written
pub made : (id : List ℕ) (old new : Outside) (status : ℕ) (end : End) (s : Start) (es : List Entry) (left : Disk) → new.disk_a ≡ left → es ≡ [] → s.state ≡ new_state id 0 → IfSome old.disk_a.lies (λ d. d.held ≡ [])
    → IfSome left.lies (LeavesState (new_state id 0)) → IfSome new.disk_a.lies (λ d. Kept (point_after (point_of s) (map took es)) d.held) → Writes (made_line id) end old.met.held new.met.held
    → new.met.left ≡ old.met.left → new.met.clock ≡ old.met.clock → new.met.shelf ≡ old.met.shelf → Tells end old.errors new.errors → new.disk_b ≡ old.disk_b → status ≡ status_of end → Made id old new status
made id old new status end s es left same none is empty leaves kept wrote source clock shelf told other ended = record {
  ended = end;
  empty = empty;
  opens = subst (λ (d : Disk). IfSome d.lies (LeavesState (new_state id 0))) (sym same) leaves;
  held = kept_first s es (new_state id 0) new.disk_a.lies none is kept;
  wrote = wrote;
  source_stays = source;
  clock_stays = clock;
  shelf_stays = shelf;
  told = told;
  disk_b_stays = other;
  status_is = ended;
}
