-- What stands in a folder under a name, and which fault is answered.
use Rattle.std.specs.Prelude.{◌≡◌, ℕ, ⊤, List, ◌++◌, codes, Option, None, Some}
use Rattle.hms_outside.specs.Folders.{file}
use Rattle.hms_outside.specs.Causes.{Rose}
use Rattle.hms_outside.specs.declared.outage.Outage.{Outage}
use Rattle.hms_outside.specs.declared.outage.Outage.TheVariants as outage
use Rattle.dump_format.specs.declared.harm.Harm.{Harm}
use Rattle.dump_format.specs.declared.harm.ReadDumpFault.{ReadDumpFault}
use Rattle.dump_format.specs.declared.harm.ReadDumpFault.TheVariants as fault

-- the name under which a folder keeps a file of a dump: the dump's folder, a slash, and the file's name
abbrev pub path : List ℕ → List ℕ → List ℕ
path dir name = dir ++ (codes "/" ++ name)

-- what was found under a name is there, where the folder tells its files
abbrev pub IsFound : Option (List (List ℕ × List ℕ)) → List ℕ → Option (List ℕ) → Type 0
IsFound None name found = ⊤
IsFound (Some files) name found = found ≡ file files name

-- a damaged file has this name and harm, a fault of the folder is told only where it was counted, and memory may always be refused
abbrev pub FaultIs : ℕ → ℕ → (List ℕ → Harm → Type 0) → ReadDumpFault → Type 0
FaultIs before now Harmed (fault.Damaged name harm) = Harmed name harm
FaultIs before now Harmed fault.FolderFault = Rose before now
FaultIs before now Harmed fault.NoMemory = ⊤

-- the same fault, of a dump
abbrev pub fault_of : Outage → ReadDumpFault
fault_of outage.Failed = fault.FolderFault
fault_of outage.NoMemory = fault.NoMemory
