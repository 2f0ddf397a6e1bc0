use Rattle.std.proofs.Common.{◌≡◌, ◌+◌, length, min, Option}
use Rattle.filter_expr.specs.Reading.{IsTreeOf}
use Rattle.filter_expr.specs.Trees.{Any}
use Rattle.filter_expr.specs.declared.expr.Comparison.{Comparison}
use Rattle.filter_rules.specs.Filters.{fitting}
use Rattle.filter_rules.proofs.part_filters.count_fitting.Given as goal

abbrev pub invariant-loop-values : goal.invariant-loop-values
invariant-loop-values l = (tree : Option (Any Comparison)) → IsTreeOf tree l.expr → min (l.count + length (fitting tree l.values-iterator)) 2147483647 ≡ min (length (fitting tree l.parts)) 2147483647
