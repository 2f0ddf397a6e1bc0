-- What follows from what the top call does.
use Rattle.std.specs.Prelude.{◌≡◌, ◌≤◌, ℕ, List, Some}
use Rattle.desk.specs.History.{Entry, NoStoreFault, Start}
use Rattle.hms_outside.specs.Causes.{Rose}
use Rattle.thrift_binary.specs.Messages.{Message, Ending, Spells}
use Rattle.ms_session.specs.Laws.{EndsWith}
use Rattle.ms_cli.specs.Local.{Serves}
use Rattle.ms_cli.specs.Opened.{Closed, Opened, Outside, fault_of}

-- `pipe` over a text that spells these messages, and ends so, answered them all and tells by its status how the text ends; or one of them asked for the end of the session, and those before it were answered; or its status says that something outside failed, or that memory was refused
abbrev pub WholeTextsArePiped : Type 0
WholeTextsArePiped =
    (old new : Outside) (status : ℕ) (text : List ℕ) (messages : List Message) (ending : Ending)
    (piped : Opened (Serves old new status) old new) → old.met.left ≡ Some text → Spells text messages ending → EndsWith old.met new.met piped.worked.entries messages ending piped.worked.does.ended

-- where the fault number of the disks doesn't rise, no step of a store that was opened over them and closed is answered by a fault of the store
abbrev pub StoreFaultsAreCounted : Type 0
StoreFaultsAreCounted =
    (start : Start) (entries : List Entry) (old new : Outside) → fault_of old ≤ start.fault → Closed start entries new.disk_a new.disk_b → (Rose (fault_of old) (fault_of new) → ⊥) → NoStoreFault entries
