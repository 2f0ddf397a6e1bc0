use Rattle.std.proofs.Common.{◌≡◌, ◌-◌, ◌+◌, ◌*◌, ◌≤◌}
use Rattle.thrift_binary.specs.Taking.{Took}
use Rattle.thrift_binary.proofs.Passing.{SomeFields, SomeElements, SomeEntries}
use Rattle.thrift_binary.proofs.reader.WireReader.+skip.Given as goal

abbrev pub decreases-skip : goal.decreases-skip
decreases-skip g l = 5 * l.self.now.progress.room

abbrev pub decreases-skip_inside : goal.decreases-skip_inside
decreases-skip_inside g l = 5 * l.self.now.progress.room + 4

abbrev pub decreases-skip_list : goal.decreases-skip_list
decreases-skip_list g l = 5 * l.self.now.progress.room + 3

abbrev pub decreases-skip_map : goal.decreases-skip_map
decreases-skip_map g l = 5 * l.self.now.progress.room + 3

abbrev pub decreases-skip_fields : goal.decreases-skip_fields
decreases-skip_fields g l = 5 * l.self.now.progress.room + 2

abbrev pub decreases-skip_elements : goal.decreases-skip_elements
decreases-skip_elements g l = 5 * l.self.now.progress.room + 2

abbrev pub decreases-skip_entries : goal.decreases-skip_entries
decreases-skip_entries g l = 5 * l.self.now.progress.room + 2

abbrev pub decreases-skip_fields-loop-ty : goal.decreases-skip_fields-loop-ty
decreases-skip_fields-loop-ty g l = l.self.progress.limit - l.self.progress.place

abbrev pub invariant-skip_fields-loop-ty : goal.invariant-skip_fields-loop-ty
invariant-skip_fields-loop-ty g l = record {
  same_source : l.self.source.ghost_name ≡ l.initial.self.source.ghost_name;
  stays : g.S.Source.faults l.self.source.now ≡ g.S.Source.faults l.initial.self.source.now;
  so_far : Took (g.S.Source.left l.initial.self.source.now) (g.S.Source.left l.self.source.now) l.initial.self.progress l.self.progress (SomeFields l.initial.self.progress.room);
}

abbrev pub decreases-skip_elements-loop-done : goal.decreases-skip_elements-loop-done
decreases-skip_elements-loop-done g l = l.count - l.done

abbrev pub invariant-skip_elements-loop-done : goal.invariant-skip_elements-loop-done
invariant-skip_elements-loop-done g l = record {
  same_source : l.self.source.ghost_name ≡ l.initial.self.source.ghost_name;
  stays : g.S.Source.faults l.self.source.now ≡ g.S.Source.faults l.initial.self.source.now;
  within : l.done ≤ l.count;
  so_far : Took (g.S.Source.left l.initial.self.source.now) (g.S.Source.left l.self.source.now) l.initial.self.progress l.self.progress (SomeElements l.initial.self.progress.room l.ty l.done);
}

abbrev pub decreases-skip_entries-loop-done : goal.decreases-skip_entries-loop-done
decreases-skip_entries-loop-done g l = l.count - l.done

abbrev pub invariant-skip_entries-loop-done : goal.invariant-skip_entries-loop-done
invariant-skip_entries-loop-done g l = record {
  same_source : l.self.source.ghost_name ≡ l.initial.self.source.ghost_name;
  stays : g.S.Source.faults l.self.source.now ≡ g.S.Source.faults l.initial.self.source.now;
  within : l.done ≤ l.count;
  so_far : Took (g.S.Source.left l.initial.self.source.now) (g.S.Source.left l.self.source.now) l.initial.self.progress l.self.progress (SomeEntries l.initial.self.progress.room l.key l.value l.done);
}
