use Rattle.std.proofs.Common.{◌≡◌, drop}
use Rattle.std.specs.List.{list_all}
use Rattle.filter_expr.specs.Keys.{fits}
use Rattle.filter_expr.proofs.keys.all_fit.Given as goal

abbrev pub invariant-loop-literal : goal.invariant-loop-literal
invariant-loop-literal l = list_all (fits l.kind) (drop l.literal-index l.literals) ≡ list_all (fits l.kind) l.literals
