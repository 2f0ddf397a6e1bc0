-- What follows from what the top call of a server does.
use Rattle.std.specs.Prelude.{◌≤◌, List}
use Rattle.desk.specs.History.{Entry, NoStoreFault, Start}
use Rattle.hms_outside.specs.Causes.{Rose}
use Rattle.server_cli.specs.Server.{Closed, Disks, fault_of}

-- where the fault number of the disks doesn't rise, no step of a store that was opened over them and closed is answered by a fault of the store
abbrev pub StoreFaultsAreCounted : Type 0
StoreFaultsAreCounted =
    (start : Start) (log : List Entry) (old new : Disks) → fault_of old ≤ start.fault → Closed start log new → (Rose (fault_of old) (fault_of new) → ⊥) → NoStoreFault log
