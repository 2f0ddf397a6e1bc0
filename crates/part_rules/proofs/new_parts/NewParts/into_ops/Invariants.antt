use Rattle.std.proofs.Common.{◌≡◌, ◌++◌, length}
use Rattle.std.specs.Vec.Iter.{into_iter_items, into_iter_len}
use Rattle.part_rules.specs.PartChanges.{ops_under}
use Rattle.part_rules.proofs.new_parts.NewParts.into_ops.Given as goal

abbrev pub invariant-loop-values : goal.invariant-loop-values
invariant-loop-values l = (l.ops ++ ops_under l.table l.born (into_iter_items l.values-iterator) ≡ ops_under l.table l.born l.fn.self)
    × (into_iter_len l.values-iterator ≡ length (into_iter_items l.values-iterator))
