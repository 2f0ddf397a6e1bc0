use Rattle.std.proofs.Common.{◌≡◌, drop}
use Rattle.dump_steps.specs.Open.{least_begin}
use Rattle.dump_steps.proofs.open_dumps.OpenDumps.least_begin.Given as goal

abbrev pub invariant-loop-dump : goal.invariant-loop-dump
invariant-loop-dump l = least_begin l.least (drop l.dump-index l.dump-items) ≡ least_begin l.fn.number l.dump-items
