use Rattle.std.proofs.Common.{◌≡◌, ◌++◌, [], Some}
use Rattle.std.specs.Prelude.{fold}
use Rattle.part_rules.specs.Partitions.{parts_there, with_named}
use Rattle.part_rules.proofs.part_reads.parts_named.Given as goal

abbrev pub invariant-loop-values : goal.invariant-loop-values
invariant-loop-values l = l.parts ++ parts_there l.held.parts l.db l.name l.values-iterator ≡ parts_there l.held.parts l.db l.name (fold (with_named (Some l.held)) [] l.names)
