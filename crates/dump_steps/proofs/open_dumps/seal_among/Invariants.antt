use Rattle.std.proofs.Common.{◌≡◌, ◌++◌, drop, take}
use Rattle.dump_steps.specs.Open.{with_sealed}
use Rattle.dump_steps.proofs.open_dumps.seal_among.Given as goal

abbrev pub invariant-loop-dump : goal.invariant-loop-dump
invariant-loop-dump l = l.dumps ≡ with_sealed l.caller l.number l.end (take l.dump-index l.fn.dumps) ++ drop l.dump-index l.fn.dumps
