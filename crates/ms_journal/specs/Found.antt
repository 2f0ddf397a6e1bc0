-- What opening leaves of a disk.
use Rattle.std.specs.Prelude.{◌≡◌, ◌⊎◌, List, ℕ, Option, IfSome}
use Rattle.hms_outside.specs.Disks.{Lies, IsImage}

-- a file that a crash could have left before, or what a read gave
abbrev pub AsFound : Option Lies → List ℕ → Type 0
AsFound old c = IfSome old (λ d. IsImage d c ⊎ (c ≡ d.held))

-- what a read gives stays
abbrev pub HeldStays : Lies → Lies → Type 0
HeldStays old new = new.held ≡ old.held

-- a crash now leaves such a file
abbrev pub LeavesAsFound : Option Lies → Lies → Type 0
LeavesAsFound old e = (c : List ℕ) → IsImage e c → AsFound old c
