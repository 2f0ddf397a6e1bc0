use Rattle.std.proofs.Common.{inr}
use Rattle.filter_expr.proofs.Literals.{mark_behind, none_taken, took_it}
use Rattle.filter_expr.proofs.Calls.{parsed_as}
use Rattle.filter_expr.proofs.comparing.test.Goals as goal

pub returns-then-branch : goal.returns-then-branch
returns-then-branch c =
    let same = none_taken _ _ _ c.in_default.not-Some c.in_ok-operator.ensures in
    let not = mark_behind _ _ _ _ same (took_it _ _ _ _ c.if-branch.true c.in_ok-take_mark.ensures) in
    parsed_as _ _ _ _ _ _ _ c.range.result (λ value h. inr (inr (_, not, h))) (λ fault h. inr (inr (inr (_, not, h)))) c.range.ensures
