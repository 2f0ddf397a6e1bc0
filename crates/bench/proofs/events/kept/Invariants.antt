use Rattle.std.proofs.Common.{◌≡◌}
use Rattle.notify_log.specs.Logs.{next_number}
use Rattle.bench.proofs.events.kept.Given as goal

abbrev pub invariant-loop-id : goal.invariant-loop-id
invariant-loop-id l = next_number l.log ≡ l.id
