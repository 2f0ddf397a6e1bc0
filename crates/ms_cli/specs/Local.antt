-- What the top call of one process does.
use Rattle.std.specs.Prelude.{◌≡◌, ◌⊎◌, ℕ, List, [], IfSome}
use Rattle.desk.specs.History.{Entry}
use Rattle.desk.specs.State.{start as new_state}
use Rattle.engine.specs.Keeping.{LeavesState}
use Rattle.engine.specs.Opening.{Opens}
use Rattle.ms_cli.specs.Dumping.{MakesDump, wanted_of}
use Rattle.ms_cli.specs.Opened.{NoStore, Opened, Outside, Unopened}
use Rattle.ms_cli.specs.Telling.{Lines, Tells, Writes, made_line, status_of, usage_line}
use Rattle.ms_cli.specs.Trimming.{Trims}
use Rattle.ms_cli.specs.Words.{Names}
use Rattle.ms_cli.specs.declared.words.Command.{Command}
use Rattle.ms_cli.specs.declared.words.Command.TheVariants.{Pipe, Init, Dump, Trim, Wrong}
use Rattle.ms_cli.specs.declared.words.Usage.{Usage}
use Rattle.ms_journal.specs.Faults.{IsMakingFault}
use Rattle.ms_journal.specs.declared.fault.OpenFault.{OpenFault}
use Rattle.ms_journal.specs.declared.fault.OpenFault.TheVariants as opening
use Rattle.ms_session.specs.Session.{Session}
use Rattle.ms_session.specs.declared.end.End.{End}

-- a session was served to a caller alone, with these entries, and its end told
pub record Serves (old new : Outside) (status : ℕ) (entries : List Entry) : Type 0 where
  pub ended : End
  pub session : Session old.met new.met entries ended
  pub told : Tells ended old.errors new.errors
  pub status_is : status ≡ status_of ended

-- `init` made a store with this id: disk A had no bytes, and what a read gives now, and all that a crash may leave, opens to its start; then its line was written, and that ended so; disk B is as it was
pub record Made (id : List ℕ) (old new : Outside) (status : ℕ) : Type 0 where
  pub ended : End
  pub empty : IfSome old.disk_a.lies (λ d. d.held ≡ [])
  pub opens : IfSome new.disk_a.lies (LeavesState (new_state id 0))
  pub held : IfSome new.disk_a.lies (λ d. Opens d.held (new_state id 0))
  pub wrote : Writes (made_line id) ended old.met.held new.met.held
  pub source_stays : new.met.left ≡ old.met.left
  pub clock_stays : new.met.clock ≡ old.met.clock
  pub shelf_stays : new.met.shelf ≡ old.met.shelf
  pub told : Tells ended old.errors new.errors
  pub disk_b_stays : new.disk_b ≡ old.disk_b
  pub status_is : status ≡ status_of ended

-- `init` made no store; where there are bytes already, disk A lies as it did
pub record Unmade (old new : Outside) (status : ℕ) : Type 0 where
  pub fault : OpenFault
  pub kind : IsMakingFault fault
  pub none : NoStore fault old new status
  pub same : fault ≡ opening.NotEmpty → new.disk_a.lies ≡ old.disk_a.lies

-- the words name no command, for this cause: nothing was used, and nothing written but the line that says so
pub record Refused (usage : Usage) (old new : Outside) (status : ℕ) : Type 0 where
  pub met_stays : new.met ≡ old.met
  pub disk_a_stays : new.disk_a ≡ old.disk_a
  pub disk_b_stays : new.disk_b ≡ old.disk_b
  pub told : Lines (usage_line usage) old.errors new.errors
  pub status_is : status ≡ 2

-- what was done for a command: a store was made or not; or a store was opened and worked at, or not; or nothing, for this cause
abbrev pub Did : Command → Outside → Outside → ℕ → Type 0
Did Pipe old new status = Opened (Serves old new status) old new ⊎ Unopened old new status
Did (Init id) old new status = Made id old new status ⊎ Unmade old new status
Did (Dump db range) old new status = Opened (MakesDump (wanted_of db.now range) old new status) old new ⊎ Unopened old new status
Did (Trim upto) old new status = Opened (Trims upto old new status) old new ⊎ Unopened old new status
Did (Wrong usage) old new status = Refused usage old new status

-- the words name a command, and that was done
abbrev pub Runs : List (List ℕ) → Outside → Outside → ℕ → Type 0
Runs words old new status = (command : Command) × Names words command × Did command old new status
