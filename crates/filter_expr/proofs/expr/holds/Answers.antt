use Rattle.std.proofs.Common.{arith}
use Rattle.filter_expr.proofs.Running.{found_at_end}
use Rattle.filter_expr.proofs.expr.holds.Goals as goal

pub returns : goal.returns
returns c = λ tree e. found_at_end tree c.args.values.now c.args.expr.now.steps.items c.loop-step.found c.loop-step.left_out c.loop-step.step-index e (omega arith) c.loop-step.invariant
