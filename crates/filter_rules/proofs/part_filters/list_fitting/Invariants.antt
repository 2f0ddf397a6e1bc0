use Rattle.std.proofs.Common.{◌≡◌, ◌++◌, length, Option}
use Rattle.filter_expr.specs.Reading.{IsTreeOf}
use Rattle.filter_expr.specs.Trees.{Any}
use Rattle.filter_expr.specs.declared.expr.Comparison.{Comparison}
use Rattle.filter_rules.proofs.Fitting.{named_behind}
use Rattle.filter_rules.specs.Filters.{fitting}
use Rattle.rulings.specs.Listed.{all_named, first_of}
use Rattle.filter_rules.proofs.part_filters.list_fitting.Given as goal

abbrev pub invariant-loop-values : goal.invariant-loop-values
invariant-loop-values l = (tree : Option (Any Comparison)) → IsTreeOf tree l.expr → l.told ++ named_behind l.db l.name (length l.told) l.max tree l.values-iterator ≡ all_named l.db l.name (first_of l.max (fitting tree l.parts))
