-- What a run leaves on the disk, whatever crash comes.
use Rattle.std.specs.Prelude.{◌≡◌, ◌⊎◌, ◌<◌, ℕ, ⊤, List, ◌++◌, length, map, Option, None, Some, IfSome}
use Rattle.desk.specs.History.{Entry, Point, Start, point_after, point_of, took}
use Rattle.engine.specs.Keeping.{IsReopened, Kept, KeptSince, LeavesKept}
use Rattle.engine.specs.Opening.{IsBrokenStore}
use Rattle.hms_outside.specs.Disks.{EachImage, Lies, Went}
use Rattle.ms_cli.specs.declared.words.Command.{Command}
use Rattle.ms_cli.specs.declared.words.Command.TheVariants.{Pipe, Init, Dump, Trim, Wrong}
use Rattle.ms_journal.specs.Files.{IsForeign}
use Rattle.ms_journal.specs.declared.fault.OpenFault.{OpenFault}
use Rattle.ms_journal.specs.declared.fault.OpenFault.TheVariants as opening

-- what is seen of a disk: how it lies, what it went through, and how often it has failed
pub record Disk : Type 0 where
  pub lies : Option Lies
  pub past : List Lies
  pub faults : ℕ

-- a disk as it is seen by what it tells
abbrev pub seen : {D : Type 0} → (D → Option Lies) → (D → List Lies) → (D → ℕ) → D → Disk
seen lies past faults disk = record { lies = lies disk; past = past disk; faults = faults disk }

-- why the bytes of disk A refuse a store: there are some, they are no store's, or they are broken at this place; an outage isn't for the bytes
abbrev pub RefusesBytes : OpenFault → List ℕ → Type 0
RefusesBytes opening.NotEmpty c = 0 < length c
RefusesBytes opening.Foreign c = IsForeign c
RefusesBytes (opening.Broken at) c = IsBrokenStore at c
RefusesBytes opening.DiskFault c = ⊤
RefusesBytes opening.NoMemory c = ⊤

-- these bytes of disk A open to no store: they are no store's, or they are broken at a place
abbrev pub OpensNone : List ℕ → Type 0
OpensNone c = IsForeign c ⊎ ((at : ℕ) × IsBrokenStore at c)

-- these bytes of disk A refuse what a command does with a store: there are some already, or they open to none
abbrev pub RefusesStore : Command → List ℕ → Type 0
RefusesStore (Init id) c = 0 < length c
RefusesStore Pipe c = OpensNone c
RefusesStore (Dump db range) c = OpensNone c
RefusesStore (Trim upto) c = OpensNone c
RefusesStore (Wrong usage) c = ⊥

-- a disk that lies so is kept for a history that stands at this point: what a read of it gives, and all that a crash may leave of it
abbrev pub LiesKept : Point → Lies → Type 0
LiesKept p d = Kept p d.held × LeavesKept p d

-- the disk tells that it is kept
abbrev pub IsKept : Point → Option Lies → Type 0
IsKept p None = ⊥
IsKept p (Some d) = LiesKept p d

-- A disk that was kept for a history at this point was opened and served: the store began where that history stands behind one opening more; a crash while it was opened left what was kept before, and one at any moment since leaves what is kept for the entries up to then; and now it is kept for them all.
pub record GoesOn (p : Point) (start : Start) (entries : List Entry) (old new : Disk) : Type 0 where
  pub reopened : IsReopened p start
  pub opening : List Lies
  pub time : start.past ≡ old.past ++ opening
  pub before : EachImage opening (Kept p)
  pub since : KeptSince (point_of start) entries start.past new.past new.lies
  pub now : IfSome new.lies (LiesKept (point_after (point_of start) (map took entries)))

-- A disk that was kept for a history at this point wasn't opened: a crash at any moment left what was kept before, and it is kept so still.
abbrev pub StaysKept : Point → Disk → Disk → Type 0
StaysKept p old new = Went old.past new.past new.lies (LiesKept p) (Kept p)
