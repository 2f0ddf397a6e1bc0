use Rattle.std.proofs.Common.{◌≡◌}
use Rattle.thrift_binary.specs.Taking.{Took}
use Rattle.ms_structs.specs.Slots.{typed}
use Rattle.ms_structs.specs.Values.{fold_entries, no_pairs, with_pair}
use Rattle.ms_structs.proofs.EntriesSoFar.{SomeEntries}
use Rattle.ms_structs.proofs.maps.read_pairs.Given as goal

abbrev pub invariant-loop : goal.invariant-loop
invariant-loop g l = record {
  same_source : l.reader.source.ghost_name ≡ l.initial.reader.source.ghost_name;
  stays : g.S.Source.faults l.reader.source.now ≡ g.S.Source.faults l.initial.reader.source.now;
  so_far : Took (g.S.Source.left l.initial.reader.source.now) (g.S.Source.left l.reader.source.now) l.initial.reader.progress l.reader.progress (SomeEntries l.initial.reader.progress.room l.key_type l.value_type l.counter (λ ps. l.pairs ≡ fold_entries (λ so k w. with_pair g.K.Ord.cmp so (typed g.K.FromWire.CODE g.K.FromWire.means l.key_type k) (typed g.V.FromWire.CODE g.V.FromWire.means l.value_type w)) no_pairs ps));
}
