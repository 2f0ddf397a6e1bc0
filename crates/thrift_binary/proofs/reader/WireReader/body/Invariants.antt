use Rattle.std.proofs.Common.{◌≡◌, ◌-◌, ◌≤◌, vec_len}
use Rattle.thrift_binary.specs.Taking.{Took}
use Rattle.thrift_binary.proofs.reader.WireReader.body.Given as goal

abbrev pub invariant-loop-self : goal.invariant-loop-self
invariant-loop-self g l = record {
  same_source : l.self.source.ghost_name ≡ l.initial.self.source.ghost_name;
  stays : g.S.Source.faults l.self.source.now ≡ g.S.Source.faults l.initial.self.source.now;
  within : vec_len l.bytes ≤ l.n;
  so_far : Took (g.S.Source.left l.initial.self.source.now) (g.S.Source.left l.self.source.now) l.initial.self.progress l.self.progress (λ taken. taken ≡ l.bytes.items);
}

abbrev pub decreases-loop-self : goal.decreases-loop-self
decreases-loop-self g l = l.n - vec_len l.bytes
