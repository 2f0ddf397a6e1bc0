use Rattle.std.proofs.Common.{◌≡◌, vec_len}
use Rattle.cat_objects.specs.Changes.{unput}
use Rattle.cat_objects.proofs.part_edits.unput_in.Given as goal

abbrev pub invariant-loop-put : goal.invariant-loop-put
invariant-loop-put l = unput l.fn.puts.items l.fn.parts ≡ unput l.left.items l.parts

abbrev pub decreases-loop-put : goal.decreases-loop-put
decreases-loop-put l = vec_len l.left
