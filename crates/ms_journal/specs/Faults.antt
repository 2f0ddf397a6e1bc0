-- What a disk's outage is for a journal, and when a file can't be opened.
use Rattle.std.specs.Prelude.{ℕ, ⊤, List}
use Rattle.hms_outside.specs.declared.outage.Outage.{Outage}
use Rattle.hms_outside.specs.declared.outage.Outage.TheVariants as out
use Rattle.ms_journal.specs.Files.{IsForeign, IsBroken}
use Rattle.ms_journal.specs.declared.fault.StoreFault.{StoreFault}
use Rattle.ms_journal.specs.declared.fault.StoreFault.TheVariants as store
use Rattle.ms_journal.specs.declared.fault.OpenFault.{OpenFault}
use Rattle.ms_journal.specs.declared.fault.OpenFault.TheVariants as opening

-- what a disk's refusal is for an append
abbrev pub store_fault : Outage → StoreFault
store_fault out.Failed = store.DiskFault
store_fault out.NoMemory = store.NoMemory

-- what a disk's refusal is for making or opening a journal
abbrev pub open_fault : Outage → OpenFault
open_fault out.Failed = opening.DiskFault
open_fault out.NoMemory = opening.NoMemory

-- what a refusal says of the bytes, where they were read
abbrev pub Refuses : OpenFault → List ℕ → Type 0
Refuses opening.NotEmpty c = ⊥
Refuses opening.Foreign c = IsForeign c
Refuses (opening.Broken at) c = IsBroken at c
Refuses opening.DiskFault c = ⊥
Refuses opening.NoMemory c = ⊤

-- what it says where they may not have been read
abbrev pub RefusesOpening : OpenFault → List ℕ → Type 0
RefusesOpening opening.NotEmpty c = ⊥
RefusesOpening opening.Foreign c = IsForeign c
RefusesOpening (opening.Broken at) c = IsBroken at c
RefusesOpening opening.DiskFault c = ⊤
RefusesOpening opening.NoMemory c = ⊤

-- a refusal of making a journal: there are bytes, or an outage
abbrev pub IsMakingFault : OpenFault → Type 0
IsMakingFault opening.NotEmpty = ⊤
IsMakingFault opening.Foreign = ⊥
IsMakingFault (opening.Broken at) = ⊥
IsMakingFault opening.DiskFault = ⊤
IsMakingFault opening.NoMemory = ⊤

-- a refusal of opening a journal: anything but that there are bytes
abbrev pub IsOpeningFault : OpenFault → Type 0
IsOpeningFault opening.NotEmpty = ⊥
IsOpeningFault opening.Foreign = ⊤
IsOpeningFault (opening.Broken at) = ⊤
IsOpeningFault opening.DiskFault = ⊤
IsOpeningFault opening.NoMemory = ⊤

-- a refusal that isn't for the bytes
abbrev pub IsOutage : OpenFault → Type 0
IsOutage opening.NotEmpty = ⊥
IsOutage opening.Foreign = ⊥
IsOutage (opening.Broken at) = ⊥
IsOutage opening.DiskFault = ⊤
IsOutage opening.NoMemory = ⊤
