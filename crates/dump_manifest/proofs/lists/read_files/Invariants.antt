use Rattle.std.proofs.Common.{length}
use Rattle.dump_manifest.proofs.Rows.{SoFar}
use Rattle.dump_manifest.proofs.lists.read_files.Given as goal

abbrev pub invariant-loop-found : goal.invariant-loop-found
invariant-loop-found l = SoFar l.bootstrap l.text l.files l.items l.rest

abbrev pub decreases-loop-found : goal.decreases-loop-found
decreases-loop-found l = length l.rest
