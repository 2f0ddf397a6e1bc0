use Rattle.std.proofs.Common.{◌≡◌, ◌-◌, ◌≤◌, length, take}
use Rattle.hms_outside.specs.Told.{Goes, Grew}
use Rattle.hms_outside.proofs.sending.write_all.Given as goal

abbrev pub invariant-loop-at : goal.invariant-loop-at
invariant-loop-at g l = record {
  bound : l.at ≤ length l.message;
  written : Goes (Grew (take l.at l.message)) (g.K.Sink.held l.fn.sink) (g.K.Sink.held l.sink);
  faults : g.K.Sink.faults l.sink ≡ g.K.Sink.faults l.fn.sink;
}

abbrev pub decreases-loop-at : goal.decreases-loop-at
decreases-loop-at g l = length l.message - l.at
