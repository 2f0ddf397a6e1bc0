-- What was kept stays so while a store is opened.
use Rattle.std.proofs.Common.{inl, inr, ◌≡◌, ℕ, List, map, Option, Some, None, sym, subst, ◌∙◌}
use Rattle.std.specs.Prelude.{IfSome}
use Rattle.desk.specs.History.{Entry, Point, Start, point_after, point_of, took}
use Rattle.engine.specs.Keeping.{IsReopened, Kept, KeptSince, LeavesKept}
use Rattle.hms_outside.specs.Disks.{Lay, Lies, Went}
use Rattle.hms_outside.proofs.Moves.{went_weaker}
use Rattle.ms_cli.specs.Keeping.{Disk, GoesOn, IsKept, LiesKept, StaysKept}
use Rattle.ms_journal.specs.Faults.{IsOutage}
use Rattle.ms_journal.specs.Found.{AsFound, HeldStays, LeavesAsFound}
use Rattle.ms_journal.specs.declared.fault.OpenFault.{OpenFault}

-- what is found on a disk that was kept is kept
found_kept : (p : Point) (lies : Option Lies) (c : List ℕ) → IsKept p lies → AsFound lies c → Kept p c
found_kept p None c kept found = absurd kept
found_kept p (Some d) c kept (inl image) = kept.1 c image
found_kept p (Some d) c kept (inr held) = subst (λ (x : List ℕ). Kept p x) (sym held) kept.0

-- through a run of calls on it
stays_leaving : (p : Point) (old new : Disk) → IsKept p old.lies → Went old.past new.past new.lies (LeavesAsFound old.lies) (AsFound old.lies) → Went old.past new.past new.lies (LeavesKept p) (Kept p)
stays_leaving p old new kept went =
    went_weaker new.lies old.past new.past (LeavesAsFound old.lies) (LeavesKept p) (AsFound old.lies) (Kept p)
    (λ d leaves c image. found_kept p old.lies c kept (leaves c image)) (λ c found. found_kept p old.lies c kept found) went

-- what a read gives is kept, where it stays
held_kept : (p : Point) (old new : Option Lies) → IsKept p old → Lay HeldStays old new → IfSome new (λ d. Kept p d.held)
held_kept p None new kept stays = absurd kept
held_kept p (Some d) None kept stays = tt
held_kept p (Some d) (Some e) kept stays = subst (λ (x : List ℕ). Kept p x) (sym stays) kept.0

both_kept : (p : Point) (lies : Option Lies) → IfSome lies (λ d. Kept p d.held) → IfSome lies (LeavesKept p) → IfSome lies (LiesKept p)
both_kept p None held leaves = tt
both_kept p (Some d) held leaves = (held, leaves)

pub stays_kept : (p : Point) (old new : Disk) → IsKept p old.lies → Lay HeldStays old.lies new.lies → Went old.past new.past new.lies (LeavesAsFound old.lies) (AsFound old.lies) → StaysKept p old new
stays_kept p old new kept stays went =
    let run = stays_leaving p old new kept went in
    record { more = run.more; time = run.time; moments = run.moments; after = both_kept p new.lies (held_kept p old.lies new.lies kept stays) run.after }

-- what is said of the bytes, where the disk tells them
held_reopened : (p : Point) (lies : Option Lies) (s : Start) → IsKept p lies → IfSome lies (λ d. (q : Point) → Kept q d.held → IsReopened q s) → IsReopened p s
held_reopened p None s kept opens = absurd kept
held_reopened p (Some d) s kept opens = opens p kept.0

pub held_outage : (p : Point) (lies : Option Lies) (fault : OpenFault) → IsKept p lies → IfSome lies (λ d. (q : Point) → Kept q d.held → IsOutage fault) → IsOutage fault
held_outage p None fault kept refuses = absurd kept
held_outage p (Some d) fault kept refuses = refuses p kept.0

pub goes_on_from : (p : Point) (s : Start) (es : List Entry) (old mid new : Disk) → IsKept p old.lies → IfSome old.lies (λ d. (q : Point) → Kept q d.held → IsReopened q s)
    → Went old.past mid.past mid.lies (LeavesAsFound old.lies) (AsFound old.lies) → s.past ≡ mid.past → KeptSince (point_of s) es s.past new.past new.lies
    → IfSome new.lies (λ d. Kept (point_after (point_of s) (map took es)) d.held) → GoesOn p s es old new
goes_on_from p s es old mid new kept opens went past since held =
    let opened = stays_leaving p old mid kept went in
    record {
      reopened = held_reopened p old.lies s kept opens;
      opening = opened.more;
      time = past ∙ opened.time;
      before = opened.moments;
      since = since;
      now = both_kept (point_after (point_of s) (map took es)) new.lies held since.after;
    }
