use Rattle.std.proofs.Common.{◌≡◌, drop}
use Rattle.filter_expr.specs.Keys.{first_unknown}
use Rattle.filter_expr.specs.Trees.{checks}
use Rattle.filter_expr.proofs.keys.first_unknown.Given as goal

abbrev pub invariant-loop-step : goal.invariant-loop-step
invariant-loop-step l = first_unknown l.keys (checks (drop l.step-index l.steps)) ≡ first_unknown l.keys (checks l.steps)
