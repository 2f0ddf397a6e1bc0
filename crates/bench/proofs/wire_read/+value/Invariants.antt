use Rattle.std.proofs.Common.{◌+◌, ◌*◌}
use Rattle.bench.proofs.wire_read.+value.Given as goal

abbrev pub decreases-value : goal.decreases-value
decreases-value l = 3 * l.depth

abbrev pub decreases-nested : goal.decreases-nested
decreases-nested l = 3 * l.depth + 2

abbrev pub decreases-fields : goal.decreases-fields
decreases-fields l = 3 * l.depth + 1

abbrev pub decreases-elements : goal.decreases-elements
decreases-elements l = 3 * l.depth + 1

abbrev pub decreases-pairs : goal.decreases-pairs
decreases-pairs l = 3 * l.depth + 1
