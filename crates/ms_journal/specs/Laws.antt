-- Laws on the files of journals.
use Rattle.std.specs.Prelude.{◌≡◌, ◌⊎◌, ℕ, List, [], ◌∷◌, ◌++◌, Option, None, Some}
use Rattle.hms_outside.specs.Disks.{Lies, IsImage}
use Rattle.ms_journal.specs.Books.{LeavesOpen}
use Rattle.ms_journal.specs.Files.{IsBroken, IsFile, IsForeign}

-- a file opens to one list of payloads
abbrev pub FilesOpenOneWay : Type 0
FilesOpenOneWay = (head head2 : List ℕ) (ps qs : List (List ℕ)) (c : List ℕ) → IsFile head ps c → IsFile head2 qs c → (head ≡ head2) × (ps ≡ qs)

-- where a file opens, it is neither foreign nor broken
abbrev pub FilesOpen : Type 0
FilesOpen = (head : List ℕ) (ps : List (List ℕ)) (at : ℕ) (c : List ℕ) → IsFile head ps c → (IsForeign c → ⊥) × (IsBroken at c → ⊥)

-- a file is broken at one place
abbrev pub BrokenAtOnePlace : Type 0
BrokenAtOnePlace = (at at2 : ℕ) (c : List ℕ) → IsBroken at c → IsBroken at2 c → at ≡ at2

-- and then it isn't foreign
abbrev pub BrokenIsNotForeign : Type 0
BrokenIsNotForeign = (at : ℕ) (c : List ℕ) → IsBroken at c → IsForeign c → ⊥

-- these payloads, or they and the one in doubt
abbrev pub IsLog : List (List ℕ) → Option (List ℕ) → List (List ℕ) → Type 0
IsLog payloads None opened = opened ≡ payloads
IsLog payloads (Some payload) opened = (opened ≡ payloads) ⊎ (opened ≡ payloads ++ payload ∷ [])

-- what a crash leaves of a journal opens to its head and its payloads, or to them and the one in doubt
abbrev pub CrashesKeepTheLog : Type 0
CrashesKeepTheLog = (head head2 : List ℕ) (payloads opened : List (List ℕ)) (doubt : Option (List ℕ)) (d : Lies) (c : List ℕ)
    → LeavesOpen head payloads doubt d → IsImage d c → IsFile head2 opened c → (head2 ≡ head) × IsLog payloads doubt opened

-- and it is neither foreign nor broken, so that only an outage refuses it
abbrev pub CrashesLeaveWhatOpens : Type 0
CrashesLeaveWhatOpens = (head : List ℕ) (payloads : List (List ℕ)) (doubt : Option (List ℕ)) (d : Lies) (at : ℕ) (c : List ℕ)
    → LeavesOpen head payloads doubt d → IsImage d c → (IsForeign c → ⊥) × (IsBroken at c → ⊥)
