use Rattle.std.proofs.Common.{◌≡◌, take}
use Rattle.dump_steps.specs.Open.{dumping}
use Rattle.dump_steps.proofs.open_dumps.OpenDumps.databases.Given as goal

abbrev pub invariant-loop-dump : goal.invariant-loop-dump
invariant-loop-dump l = l.names ≡ dumping (take l.dump-index l.dump-items)
