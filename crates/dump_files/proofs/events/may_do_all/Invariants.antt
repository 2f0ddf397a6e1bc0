use Rattle.std.proofs.Common.{◌≡◌, drop}
use Rattle.std.specs.List.{list_all}
use Rattle.dump_files.specs.Events.{is_creation, may_do}
use Rattle.dump_files.proofs.events.may_do_all.Given as goal

abbrev pub invariant-loop-op : goal.invariant-loop-op
invariant-loop-op l = list_all (may_do (is_creation l.fn.kind)) l.fn.ops ≡ list_all (may_do (is_creation l.fn.kind)) (drop l.op-index l.fn.ops)
