use Rattle.std.proofs.Common.{◌≡◌, map}
use Rattle.filter_expr.specs.Keys.{bound_step}
use Rattle.filter_expr.proofs.keys.bind.Given as goal

abbrev pub invariant-loop-step : goal.invariant-loop-step
invariant-loop-step l = l.bound.items ≡ map (bound_step l.keys) l.yielded
