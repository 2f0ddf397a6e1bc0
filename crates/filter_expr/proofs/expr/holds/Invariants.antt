use Rattle.std.proofs.Common.{◌≡◌, drop, true}
use Rattle.filter_expr.specs.Truth.{comparison_holds}
use Rattle.filter_expr.proofs.Running.{run}
use Rattle.filter_expr.proofs.expr.holds.Given as goal

abbrev pub invariant-loop-step : goal.invariant-loop-step
invariant-loop-step l = run (comparison_holds l.values) l.found l.left_out (drop l.step-index l.expr.steps.items) ≡ run (comparison_holds l.values) true 0 l.expr.steps.items
