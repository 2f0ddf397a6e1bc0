use Rattle.std.proofs.Common.{◌≡◌, take, true}
use Rattle.dump_manifest.specs.Pieces.{lacks_lf}
use Rattle.dump_manifest.proofs.lines.split_line.Given as goal

abbrev pub invariant-bytes : goal.invariant-bytes
invariant-bytes l = lacks_lf (take l.at l.text) ≡ true
