use Rattle.std.proofs.Common.{◌≡◌, drop}
use Rattle.cat_objects.specs.Seen.{seen_after_all}
use Rattle.cat_objects.proofs.seen.after_all.Given as goal

abbrev pub invariant-loop-op : goal.invariant-loop-op
invariant-loop-op l = seen_after_all l.fn.name l.fn.ops l.fn.first ≡ seen_after_all l.fn.name (drop l.op-index l.fn.ops) l.seen
