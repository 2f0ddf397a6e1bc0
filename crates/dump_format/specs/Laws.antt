-- What holds of all dumps that stand in folders.
use Rattle.std.specs.Prelude.{◌≡◌, ℕ, List, Some}
use Rattle.dump_format.specs.declared.dump.Dump.{Dump}
use Rattle.dump_format.specs.Dumps.{IsDump}

-- the files of a folder are one dump at most by each name
abbrev pub DumpsAreOne : Type 0
DumpsAreOne = (files : List (List ℕ × List ℕ)) (dir : List ℕ) (a b : Dump) → IsDump (Some files) dir a → IsDump (Some files) dir b → a ≡ b
