use Rattle.std.proofs.Common.{◌≡◌, ◌++◌, length}
use Rattle.part_rules.specs.Partitions.{listed, own_names}
use Rattle.part_rules.proofs.Listing.{listed_behind}
use Rattle.part_rules.proofs.Seeking.{IsLeft}
use Rattle.part_rules.proofs.part_reads.list_names.Given as goal

abbrev pub invariant-loop-values : goal.invariant-loop-values
invariant-loop-values l = record {
  told : l.names ++ own_names l.held.rec.keys (listed_behind (length l.names) l.wanted l.max l.values-iterator) ≡ own_names l.held.rec.keys (listed l.wanted l.max l.held.parts);
  left : IsLeft l.wanted l.values-iterator;
}
