use Rattle.std.proofs.Common.{length}
use Rattle.cat_objects.proofs.Walking.{Walk}
use Rattle.cat_objects.proofs.cat.Cat.stands_after.Given as goal

abbrev pub invariant-loop-op : goal.invariant-loop-op
invariant-loop-op l = Walk l.fn.self l.fn.db l.fn.name l.fn.values l.fn.before l.rest l.name l.taken

abbrev pub decreases-loop-op : goal.decreases-loop-op
decreases-loop-op l = length l.rest
