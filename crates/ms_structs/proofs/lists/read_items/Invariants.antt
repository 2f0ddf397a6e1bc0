use Rattle.std.proofs.Common.{◌≡◌, Some, []}
use Rattle.thrift_binary.specs.Taking.{Took}
use Rattle.ms_structs.specs.Slots.{typed}
use Rattle.ms_structs.specs.Values.{fold_elements, with_item}
use Rattle.ms_structs.proofs.ElementsSoFar.{SomeElements}
use Rattle.ms_structs.proofs.lists.read_items.Given as goal

abbrev pub invariant-loop : goal.invariant-loop
invariant-loop g l = record {
  same_source : l.reader.source.ghost_name ≡ l.initial.reader.source.ghost_name;
  stays : g.S.Source.faults l.reader.source.now ≡ g.S.Source.faults l.initial.reader.source.now;
  so_far : Took (g.S.Source.left l.initial.reader.source.now) (g.S.Source.left l.reader.source.now) l.initial.reader.progress l.reader.progress (SomeElements l.initial.reader.progress.room l.ty l.counter (λ es. l.items ≡ fold_elements (λ so w. with_item so (typed g.T.FromWire.CODE g.T.FromWire.means l.ty w)) (Some []) es));
}
