-- What holds of every dump.
use Rattle.std.specs.Prelude.{List, Option}
use Rattle.cat_types.specs.declared.steps.Answer.TheVariants.{NotOpen}
use Rattle.desk.specs.History.{Entry}
use Rattle.desk.specs.Walks.{Wanted}
use Rattle.repl_dump.specs.Dumps.{Dumps, NoneTold}
use Rattle.repl_dump.specs.Files.{Files}
use Rattle.repl_dump.specs.declared.dumping.DumpAnswer.{DumpAnswer}

-- No step of a dump is answered that no dump is open, however the dump ends.
abbrev pub DumpsStayOpen : Type 0
DumpsStayOpen = (wanted : Wanted) (result : DumpAnswer) (old new : Option Files) (own : List Entry) → Dumps wanted result old new own → NoneTold NotOpen own
