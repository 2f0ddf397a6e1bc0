use Rattle.std.proofs.Common.{◌≡◌, ◌++◌, drop}
use Rattle.part_rules.specs.Partitions.{leading}
use Rattle.part_rules.proofs.part_reads.leading.Given as goal

abbrev pub invariant-loop-text : goal.invariant-loop-text
invariant-loop-text l = l.front ++ leading (drop l.text-index l.wanted) ≡ leading l.wanted
