use Rattle.std.proofs.Common.{◌≡◌, ◌+◌, ◌≤◌, length}
use Rattle.thrift_binary.specs.Taking.{Took}
use Rattle.thrift_binary.proofs.reader.WireReader.pass.Given as goal

abbrev pub invariant-loop-left : goal.invariant-loop-left
invariant-loop-left g l = record {
  same_source : l.self.source.ghost_name ≡ l.initial.self.source.ghost_name;
  stays : g.S.Source.faults l.self.source.now ≡ g.S.Source.faults l.initial.self.source.now;
  within : l.left ≤ l.n;
  size : length l.buf ≡ 512;
  so_far : Took (g.S.Source.left l.initial.self.source.now) (g.S.Source.left l.self.source.now) l.initial.self.progress l.self.progress (λ taken. length taken + l.left ≡ l.n);
}

abbrev pub decreases-loop-left : goal.decreases-loop-left
decreases-loop-left g l = l.left
