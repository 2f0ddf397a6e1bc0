-- A store that was opened for a command, or wasn't.
use Rattle.std.specs.Prelude.{◌≡◌, ◌≤◌, ℕ, List, map, IfSome}
use Rattle.hms_outside.specs.Causes.{Rose}
use Rattle.desk.specs.History.{Entry, Legal, NoneAbove, Point, Start, point_after, point_of, took}
use Rattle.engine.specs.Keeping.{Kept, KeptSince}
use Rattle.engine.specs.Opening.{Opens}
use Rattle.engine.specs.Stores.{fault_number}
use Rattle.ms_cli.specs.Keeping.{Disk, GoesOn, IsKept, RefusesBytes, StaysKept}
use Rattle.ms_cli.specs.Telling.{Errors, Lines, refusal_line, refusal_status}
use Rattle.ms_journal.specs.Faults.{IsOpeningFault, IsOutage}
use Rattle.ms_journal.specs.declared.fault.OpenFault.{OpenFault}
use Rattle.ms_journal.specs.declared.fault.OpenFault.TheVariants as opening
use Rattle.ms_session.specs.Session.{Met}

-- what the top call meets outside: what a session meets, the sink of errors, and the two disks
pub record Outside : Type 0 where
  pub met : Met
  pub errors : Errors
  pub disk_a : Disk
  pub disk_b : Disk

-- the fault number of the two disks
abbrev pub fault_of : Outside → ℕ
fault_of o = fault_number o.disk_a.faults o.disk_b.faults

-- a store that began here was closed: these entries are all that it went through, and are legal; no fault number in them is above that of its disks; a crash at any moment since its opening leaves what is kept for the entries up to then, and what a read gives now is kept for them all
pub record Closed (start : Start) (entries : List Entry) (a b : Disk) : Type 0 where
  pub legal : Legal start entries
  pub none_above : NoneAbove (fault_number a.faults b.faults) entries
  pub since : KeptSince (point_of start) entries start.past a.past a.lies
  pub held : IfSome a.lies (λ d. Kept (point_after (point_of start) (map took entries)) d.held)

-- A store that began here was closed, and its entries are those of what was done.
pub record Worked (Does : List Entry → Type 0) (start : Start) (a b : Disk) : Type 0 where
  pub entries : List Entry
  pub closed : Closed start entries a b
  pub does : Does entries

-- A store was opened, worked at, and closed: it began with what disk A opened to, and with a fault number at least that of the disks before; and a disk that was kept for a history goes on so.
pub record Opened (Does : List Entry → Type 0) (old new : Outside) : Type 0 where
  pub start : Start
  pub opens : IfSome old.disk_a.lies (λ d. Opens d.held start.state)
  pub later : fault_of old ≤ start.fault
  pub worked : Worked Does start new.disk_a new.disk_b
  pub kept : (p : Point) → IsKept p old.disk_a.lies → GoesOn p start worked.entries old.disk_a new.disk_a

-- there is no store, for this cause: nothing was taken, and nothing written but the line that says so; disk B is as it was
pub record NoStore (fault : OpenFault) (old new : Outside) (status : ℕ) : Type 0 where
  pub bytes : IfSome old.disk_a.lies (λ d. RefusesBytes fault d.held)
  pub cause : fault ≡ opening.DiskFault → Rose old.disk_a.faults new.disk_a.faults
  pub met_stays : new.met ≡ old.met
  pub told : Lines (refusal_line fault) old.errors new.errors
  pub disk_b_stays : new.disk_b ≡ old.disk_b
  pub status_is : status ≡ refusal_status fault

-- no store was opened; one that was kept for a history is refused by an outage alone, and stays kept
pub record Unopened (old new : Outside) (status : ℕ) : Type 0 where
  pub fault : OpenFault
  pub kind : IsOpeningFault fault
  pub none : NoStore fault old new status
  pub outage : (p : Point) → IsKept p old.disk_a.lies → IsOutage fault
  pub kept : (p : Point) → IsKept p old.disk_a.lies → StaysKept p old.disk_a new.disk_a
