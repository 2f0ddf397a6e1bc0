use Rattle.std.proofs.Common.{◌≡◌, ◌++◌, length}
use Rattle.rulings.specs.Listed.{all_named}
use Rattle.part_rules.specs.Partitions.{listed}
use Rattle.part_rules.proofs.Listing.{listed_behind}
use Rattle.part_rules.proofs.Seeking.{IsLeft}
use Rattle.part_rules.proofs.part_reads.list_parts.Given as goal

abbrev pub invariant-loop-values : goal.invariant-loop-values
invariant-loop-values l = record {
  told : l.parts ++ all_named l.db l.name (listed_behind (length l.parts) l.wanted l.max l.values-iterator) ≡ all_named l.db l.name (listed l.wanted l.max l.held.parts);
  left : IsLeft l.wanted l.values-iterator;
}
