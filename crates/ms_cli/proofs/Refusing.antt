-- What a refusal of a store tells.
use Rattle.std.proofs.Common.{inl, inr, ◌≡◌, ℕ, List, Option, Some, None, refl, sym, subst, ◌∙◌}
use Rattle.std.specs.Prelude.{IfSome}
use Rattle.desk.specs.History.{Point}
use Rattle.engine.specs.Keeping.{Kept}
use Rattle.engine.specs.Opening.{IsBrokenStore}
use Rattle.hms_outside.specs.Causes.{Rose}
use Rattle.hms_outside.specs.Disks.{Lay, Lies, Went}
use Rattle.ms_cli.specs.Keeping.{Disk, OpensNone, RefusesBytes}
use Rattle.ms_cli.specs.Opened.{NoStore, Outside, Unopened}
use Rattle.ms_cli.specs.Telling.{Lines, refusal_line, refusal_status}
use Rattle.ms_cli.proofs.Keeps.{held_outage, stays_kept}
use Rattle.ms_journal.specs.Faults.{IsOpeningFault, IsOutage}
use Rattle.ms_journal.specs.Files.{IsForeign}
use Rattle.ms_journal.specs.Found.{AsFound, HeldStays, LeavesAsFound}
use Rattle.ms_journal.specs.declared.fault.OpenFault.{OpenFault}
use Rattle.ms_journal.specs.declared.fault.OpenFault.TheVariants.{NotEmpty, Foreign, Broken, DiskFault, NoMemory}

-- the bytes show why they aren't opened
pub opening_bytes : (fault : OpenFault) (lies : Option Lies) → IsOpeningFault fault → (fault ≡ Foreign → IfSome lies (λ d. IsForeign d.held)) → ((at : ℕ) → fault ≡ Broken at → IfSome lies (λ d. IsBrokenStore at d.held))
    → IfSome lies (λ d. RefusesBytes fault d.held)
opening_bytes NotEmpty lies kind foreign broken = absurd kind
opening_bytes Foreign lies kind foreign broken = foreign refl
opening_bytes (Broken at) lies kind foreign broken = broken at refl
opening_bytes DiskFault None kind foreign broken = tt
opening_bytes DiskFault (Some d) kind foreign broken = tt
opening_bytes NoMemory None kind foreign broken = tt
opening_bytes NoMemory (Some d) kind foreign broken = tt

-- what was told for a refusal, and the disk that it left
no_store : (fault : OpenFault) (old new : Outside) (status : ℕ) (left : Disk) → new.disk_a ≡ left → IfSome old.disk_a.lies (λ d. RefusesBytes fault d.held) → (fault ≡ DiskFault → Rose old.disk_a.faults left.faults)
    → new.met ≡ old.met → new.disk_b ≡ old.disk_b → Lines (refusal_line fault) old.errors new.errors → status ≡ refusal_status fault → NoStore fault old new status
no_store fault old new status left same bytes cause met other told is = record {
  bytes = bytes;
  cause = subst (λ (d : Disk). fault ≡ DiskFault → Rose old.disk_a.faults d.faults) (sym same) cause;
  met_stays = met;
  told = told;
  disk_b_stays = other;
  status_is = is;
}

pub unopened : (fault : OpenFault) (old new : Outside) (status : ℕ) (left : Disk) → new.disk_a ≡ left → IsOpeningFault fault → (fault ≡ Foreign → IfSome old.disk_a.lies (λ d. IsForeign d.held))
    → ((at : ℕ) → fault ≡ Broken at → IfSome old.disk_a.lies (λ d. IsBrokenStore at d.held)) → (fault ≡ DiskFault → Rose old.disk_a.faults left.faults)
    → IfSome old.disk_a.lies (λ d. (q : Point) → Kept q d.held → IsOutage fault) → Lay HeldStays old.disk_a.lies left.lies → Went old.disk_a.past left.past left.lies (LeavesAsFound old.disk_a.lies) (AsFound old.disk_a.lies)
    → new.met ≡ old.met → new.disk_b ≡ old.disk_b → Lines (refusal_line fault) old.errors new.errors → status ≡ refusal_status fault → Unopened old new status
unopened fault old new status left same kind foreign broken cause outage stays went met other told is = record {
  fault = fault;
  kind = kind;
  none = no_store fault old new status left same (opening_bytes fault old.disk_a.lies kind foreign broken) cause met other told is;
  outage = λ p kept. held_outage p old.disk_a.lies fault kept outage;
  kept = λ p kept. stays_kept p old.disk_a new.disk_a kept (subst (λ (d : Disk). Lay HeldStays old.disk_a.lies d.lies) (sym same) stays) (subst (λ (d : Disk). Went old.disk_a.past d.past d.lies (LeavesAsFound old.disk_a.lies) (AsFound old.disk_a.lies)) (sym same) went);
}

-- status 6 is for the bytes
opening_6 : (fault : OpenFault) (c : List ℕ) → IsOpeningFault fault → refusal_status fault ≡ 6 → RefusesBytes fault c → OpensNone c
opening_6 NotEmpty c kind is due = absurd kind
opening_6 Foreign c kind is due = inl due
opening_6 (Broken at) c kind is due = inr (at, due)
opening_6 DiskFault c kind is due = absurd cc
opening_6 NoMemory c kind is due = absurd cc

-- what status 6 says of the bytes
pub store_6 : (fault : OpenFault) (lies : Option Lies) → IsOpeningFault fault → refusal_status fault ≡ 6 → IfSome lies (λ d. RefusesBytes fault d.held) → IfSome lies (λ d. OpensNone d.held)
store_6 fault None kind is due = tt
store_6 fault (Some d) kind is due = opening_6 fault d.held kind is due

-- the same where an opening was refused
pub opening_store : (fault : OpenFault) (lies : Option Lies) (status : ℕ) → IsOpeningFault fault → (fault ≡ Foreign → IfSome lies (λ d. IsForeign d.held)) → ((at : ℕ) → fault ≡ Broken at → IfSome lies (λ d. IsBrokenStore at d.held))
    → status ≡ refusal_status fault → status ≡ 6 → IfSome lies (λ d. OpensNone d.held)
opening_store fault lies status kind foreign broken is six = store_6 fault lies kind (sym is ∙ six) (opening_bytes fault lies kind foreign broken)
