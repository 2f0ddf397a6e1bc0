-- Laws on what a crash may leave of a disk.
use Rattle.std.specs.Prelude.{◌≡◌, ℕ, List}
use Rattle.hms_outside.specs.Disks.{Lies, IsImage, HasWritten, HasSynced}

-- what a crash may leave before a write it may leave after it, so what it leaves inside a write it may leave after it
abbrev pub ImagesGrow : Type 0
ImagesGrow = (d e : Lies) (at n : ℕ) (bytes c : List ℕ) → HasWritten at n bytes d e → IsImage d c → IsImage e c

-- after a sync a crash leaves what a read gives
abbrev pub SyncsLeaveOneImage : Type 0
SyncsLeaveOneImage = (d e : Lies) (c : List ℕ) → HasSynced d e → IsImage e c → c ≡ e.held
