use Rattle.std.proofs.Common.{◌+◌, ◌*◌, length}
use Rattle.thrift_plain.specs.PlainReading.{Passed, ElementsAdded, EntriesAdded}
use Rattle.thrift_plain.proofs.PlainValues.{FieldsAdded}
use Rattle.thrift_plain.proofs.plain_reader.PlainReader.+value.Given as goal

abbrev pub decreases-nested : goal.decreases-nested
decreases-nested l = 4 * l.depth

abbrev pub decreases-value : goal.decreases-value
decreases-value l = 4 * l.depth + 1

abbrev pub decreases-fields : goal.decreases-fields
decreases-fields l = 4 * l.depth + 2

abbrev pub decreases-elements : goal.decreases-elements
decreases-elements l = 4 * l.depth + 2

abbrev pub decreases-entries : goal.decreases-entries
decreases-entries l = 4 * l.depth + 2

abbrev pub decreases-list : goal.decreases-list
decreases-list l = 4 * l.depth + 3

abbrev pub decreases-map : goal.decreases-map
decreases-map l = 4 * l.depth + 3

abbrev pub invariant-elements-loop : goal.invariant-elements-loop
invariant-elements-loop l = record {
  so_far : Passed l.initial.self.rest.now l.self.rest.now (ElementsAdded l.initial.tokens l.tokens l.depth l.ty l.counter);
}

abbrev pub invariant-entries-loop : goal.invariant-entries-loop
invariant-entries-loop l = record {
  so_far : Passed l.initial.self.rest.now l.self.rest.now (EntriesAdded l.initial.tokens l.tokens l.depth l.key l.value l.counter);
}

abbrev pub invariant-fields-loop-tokens : goal.invariant-fields-loop-tokens
invariant-fields-loop-tokens l = record {
  so_far : Passed l.initial.self.rest.now l.self.rest.now (FieldsAdded l.initial.tokens l.tokens l.depth);
}

abbrev pub decreases-fields-loop-tokens : goal.decreases-fields-loop-tokens
decreases-fields-loop-tokens l = length l.self.rest.now
