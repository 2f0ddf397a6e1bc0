-- What the command that dumps a database does.
use Rattle.std.specs.Prelude.{◌≡◌, ℕ, List, codes, Option}
use Rattle.cat_types.specs.declared.steps.Answer.TheVariants as answer
use Rattle.cat_types.specs.declared.steps.DumpRefusal.{DumpRefusal}
use Rattle.desk.specs.History.{Entry}
use Rattle.desk.specs.Walks.{Wanted}
use Rattle.hms_outside.specs.Told.{Held}
use Rattle.ms_cli.specs.Opened.{Opened, Outside}
use Rattle.ms_cli.specs.Telling.{Errors, Lines, Says, Fails, dump_line, refused_dump_line}
use Rattle.ms_cli.specs.declared.ranges.EventRange.{EventRange}
use Rattle.ms_session.specs.Turns.{DumpedTo}
use Rattle.repl_dump.specs.Dumps.{SomeTold}
use Rattle.repl_dump.specs.declared.dumping.DumpAnswer.{DumpAnswer}
use Rattle.repl_dump.specs.declared.dumping.DumpAnswer.TheVariants.{Done, FolderFault, NoMemory, Refused, StoreFault}

-- the dump of this database that is asked for: of all of it, or of this range of events
abbrev pub wanted_of : List ℕ → EventRange → Wanted
wanted_of db range = record { db = db; from = range.from; to = range.to; limit = range.limit }

-- how an answer of a dump is told: a dump that was made by its line on the output, any other by its line on the sink of errors, and its status
abbrev pub TellsDump : DumpAnswer → Option Held → Option Held → Errors → Errors → ℕ → Type 0
TellsDump (Done dir last) old new errors errors' status = Says (dump_line dir last) old new errors errors' status
TellsDump (Refused refusal) old new errors errors' status = Fails (refused_dump_line refusal) 9 old new errors errors' status
TellsDump FolderFault old new errors errors' status = Fails (codes "folder fault\n") 11 old new errors errors' status
TellsDump StoreFault old new errors errors' status = Fails (codes "store fault\n") 5 old new errors errors' status
TellsDump NoMemory old new errors errors' status = Fails (codes "out of memory\n") 10 old new errors errors' status

-- a dump was made by a caller alone, with these entries, and its answer told: what it left of the folder is what a dump that was answered so leaves; input and clock are as they were
pub record MakesDump (wanted : Wanted) (old new : Outside) (status : ℕ) (entries : List Entry) : Type 0 where
  pub given : DumpAnswer
  pub dumped : DumpedTo wanted given entries old.met.shelf new.met.shelf
  pub told : TellsDump given old.met.held new.met.held old.errors new.errors status
  pub source_stays : new.met.left ≡ old.met.left
  pub clock_stays : new.met.clock ≡ old.met.clock

-- a dump was refused so: a store was opened, one of whose entries was answered by this refusal, and its line was told
pub record WasRefused (old new : Outside) : Type 0 where
  pub refusal : DumpRefusal
  pub opened : Opened (SomeTold (answer.DumpRefused refusal)) old new
  pub told : Lines (refused_dump_line refusal) old.errors new.errors
