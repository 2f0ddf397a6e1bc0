use Rattle.std.proofs.Common.{◌≡◌, [], Some, drop}
use Rattle.std.specs.Prelude.{fold}
use Rattle.part_rules.specs.Partitions.{with_named}
use Rattle.part_rules.proofs.part_reads.values_named.Given as goal

abbrev pub invariant-loop-name : goal.invariant-loop-name
invariant-loop-name l = fold (with_named (Some l.held)) l.found.keys (drop l.name-index l.names) ≡ fold (with_named (Some l.held)) [] l.names
