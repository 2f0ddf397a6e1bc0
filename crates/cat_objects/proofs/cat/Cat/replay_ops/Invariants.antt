use Rattle.std.proofs.Common.{◌≡◌, drop}
use Rattle.cat_objects.specs.Changes.{done_ops, fits_ops}
use Rattle.cat_objects.proofs.cat.Cat.replay_ops.Given as goal

abbrev pub invariant-loop-op : goal.invariant-loop-op
invariant-loop-op l = record {
  fits : fits_ops l.fn.self l.fn.db l.fn.born l.fn.ops ≡ fits_ops l.self l.fn.db l.fn.born (drop l.op-index l.fn.ops);
  done : done_ops l.fn.db l.fn.born l.fn.self l.fn.ops ≡ done_ops l.fn.db l.fn.born l.self (drop l.op-index l.fn.ops);
}
