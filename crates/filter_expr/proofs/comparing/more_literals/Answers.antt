use Rattle.filter_expr.proofs.Literals.{more_pushed}
use Rattle.filter_expr.proofs.comparing.more_literals.Goals as goal

pub loop-lexer-preserved : goal.loop-lexer-preserved
loop-lexer-preserved c = more_pushed c.in_ok-literal.literal _ _ _ _ _ _ _ _ c.loop-lexer.invariant c.if-branch.true c.in_ok-take_mark.ensures c.in_ok-literal.ensures c.in_ok-push.ensures.ok
