use Rattle.std.proofs.Common.{◌≡◌, drop}
use Rattle.part_rules.specs.Partitions.{begin_with}
use Rattle.part_rules.proofs.part_reads.begin_with.Given as goal

abbrev pub invariant-loop-text : goal.invariant-loop-text
invariant-loop-text l = begin_with (drop l.text-index l.wanted) l.left ≡ begin_with l.wanted l.values
