-- What is told of a store that was opened, or wasn't.
use Rattle.std.proofs.Common.{inl, inr, ◌≡◌, ◌≢◌, ◌∙◌, ℕ, ◌≤◌, List, Option, ap, subst, sym, arith}
use Rattle.std.specs.Prelude.{IfSome}
use Rattle.desk.specs.History.{Entry, NoStoreFault, Point, Start, point_of}
use Rattle.engine.specs.Keeping.{IsReopened, Kept}
use Rattle.engine.specs.Opening.{IsBrokenStore, Opens}
use Rattle.hms_outside.specs.Causes.{Rose}
use Rattle.hms_outside.specs.Disks.{Lay, Lies, Went}
use Rattle.ms_cli.specs.Keeping.{Disk}
use Rattle.ms_cli.proofs.Counting.{did_not_rise, none_told}
use Rattle.ms_cli.proofs.Keeps.{goes_on_from, held_outage, stays_kept}
use Rattle.ms_cli.proofs.Refusing.{opening_bytes}
use Rattle.ms_journal.specs.Faults.{IsOpeningFault, IsOutage}
use Rattle.ms_journal.specs.Files.{IsForeign}
use Rattle.ms_journal.specs.Found.{AsFound, HeldStays, LeavesAsFound}
use Rattle.ms_journal.specs.declared.fault.OpenFault.{OpenFault}
use Rattle.ms_journal.specs.declared.fault.OpenFault.TheVariants.{Foreign, Broken, DiskFault}
use Rattle.ms_server.specs.Visits.{Around}
use Rattle.ms_server.specs.declared.post.Post.{Post}
use Rattle.server_cli.specs.Server.{Back, Closed, Disks, Given, IsEnd, Opened, Served, Unopened, both_seen, fault_of}

-- the store was opened, which left `mid`, and then served
pub opened : {L F K : Type 0} (ar : Post L F K → Around) (sessions : Option ℕ) (given : Given L F K) (back : Back L F) (old mid new : Disks) (start : Start) → IfSome old.a.lies (λ d. Opens d.held start.state) → start.fault ≡ fault_of mid → old.a.faults ≤ mid.a.faults → mid.b ≡ old.b → start.past ≡ mid.a.past
    → IfSome old.a.lies (λ d. (q : Point) → Kept q d.held → IsReopened q start) → Went old.a.past mid.a.past mid.a.lies (LeavesAsFound old.a.lies) (AsFound old.a.lies) → Served ar sessions start given back new → Opened ar sessions given back old new
opened ar sessions given back old mid new start opens fault later other past reopened went served = record {
  start = start;
  opens = opens;
  later = omega (arith, fault, later, ap (λ (d : Disk). d.faults) other);
  served = served;
  kept = λ p kept. goes_on_from p start served.log old.a mid.a new.a kept reopened went past served.closed.since served.closed.held;
}

-- the store wasn't opened, which left `left`
pub unopened : (fault : OpenFault) (old new left : Disks) → new ≡ left → IsOpeningFault fault → (fault ≡ Foreign → IfSome old.a.lies (λ d. IsForeign d.held)) → ((at : ℕ) → fault ≡ Broken at → IfSome old.a.lies (λ d. IsBrokenStore at d.held))
    → (fault ≡ DiskFault → Rose old.a.faults left.a.faults) → IfSome old.a.lies (λ d. (q : Point) → Kept q d.held → IsOutage fault) → Lay HeldStays old.a.lies left.a.lies → Went old.a.past left.a.past left.a.lies (LeavesAsFound old.a.lies) (AsFound old.a.lies) → left.b ≡ old.b
    → Unopened fault old new
unopened fault old new left same kind foreign broken cause outage stays went other = subst (λ (d : Disks). Unopened fault old d) (sym same) (record {
  kind = kind;
  bytes = opening_bytes fault old.a.lies kind foreign broken;
  cause = cause;
  outage = λ p kept. held_outage p old.a.lies fault kept outage;
  kept = λ p kept. stays_kept p old.a left.a kept stays went;
  disk_b_stays = other;
})

-- two disks that came back as they were
pub disks_seen : {D : Type 0} (lies : D → Option Lies) (past : D → List Lies) (faults : D → ℕ) (a b c d : D) → a ≡ c → b ≡ d → both_seen lies past faults a b ≡ both_seen lies past faults c d
disks_seen lies past faults a b c d is_a is_b = λ i. both_seen lies past faults (is_a i) (is_b i)

-- a status that isn't a worker's
pub no_end : (status n : ℕ) → IsEnd status → status ≡ n → n ≢ 0 → n ≢ 10 → n ≢ 12 → ⊥
no_end status n (inl zero_is) is not_0 not_10 not_12 = not_0 (sym is ∙ zero_is)
no_end status n (inr (inl ten)) is not_0 not_10 not_12 = not_10 (sym is ∙ ten)
no_end status n (inr (inr twelve)) is not_0 not_10 not_12 = not_12 (sym is ∙ twelve)

-- where no disk counted a fault, no step was answered by one
pub none_of_faults : (start : Start) (log : List Entry) (old new : Disks) → fault_of old ≤ start.fault → Closed start log new → (Rose (fault_of old) (fault_of new) → ⊥) → NoStoreFault log
none_of_faults start log old new later closed quiet =
    let d = did_not_rise (fault_of old) (fault_of new) quiet in
    none_told (point_of start) log (fault_of new) closed.legal closed.none_above (omega (arith, d.0, later)) d.1
