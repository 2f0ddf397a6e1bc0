use Rattle.std.proofs.Common.{◌≡◌, ◌-◌}
use Rattle.thrift_binary.specs.Taking.{Took}
use Rattle.ms_structs.specs.Slots.{fold_fields}
use Rattle.ms_structs.proofs.FieldsSoFar.{SomeFields}
use Rattle.ms_structs.proofs.structs.read_fields.Given as goal

abbrev pub decreases-loop-ty : goal.decreases-loop-ty
decreases-loop-ty g l = l.reader.progress.limit - l.reader.progress.place

abbrev pub invariant-loop-ty : goal.invariant-loop-ty
invariant-loop-ty g l = record {
  same_source : l.reader.source.ghost_name ≡ l.initial.reader.source.ghost_name;
  stays : g.S.Source.faults l.reader.source.now ≡ g.S.Source.faults l.initial.reader.source.now;
  so_far : Took (g.S.Source.left l.initial.reader.source.now) (g.S.Source.left l.reader.source.now) l.initial.reader.progress l.reader.progress (SomeFields l.initial.reader.progress.room (λ v. l.slots ≡ fold_fields g.F.FieldSink.set l.initial.slots v));
}
