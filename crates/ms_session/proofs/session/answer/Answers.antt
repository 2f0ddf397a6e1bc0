use Rattle.std.proofs.Common.{sym, ◌∙◌}
use Rattle.desk.proofs.Additions.{adds_weaker}
use Rattle.ms_session.proofs.Answering.{answered, unanswered, unasked}
use Rattle.ms_session.proofs.session.answer.Goals as goal

pub returns-then-is_one_way-clause-answers : goal.returns-then-is_one_way-clause-answers
returns-then-is_one_way-clause-answers g c =
    adds_weaker _ _ _ _ _ _ (λ own did. unasked c.args.request own _ _ _ _ _ c.carry_out-due.result (sym c.is_one_way.ensures ∙ c.if-is_one_way.true) did) c.carry_out-due.ensures.carried

pub returns-in-Ok-clause-answers : goal.returns-in-Ok-clause-answers
returns-in-Ok-clause-answers g c =
    adds_weaker _ _ _ _ _ _ (λ own did. answered c.args.request own _ _ _ _ _ _ c.carry_out-due.result _ c.send.result (sym c.is_one_way.ensures ∙ c.if-is_one_way.false) did c.in-Ok.ensures c.send.ensures.ok c.send.ensures.err) c.carry_out-due.ensures.carried

pub returns-clause-answers : goal.returns-clause-answers
returns-clause-answers g c =
    adds_weaker _ _ _ _ _ _ (λ own did. unanswered c.args.request own _ _ _ _ _ c.carry_out-due.result (sym c.is_one_way.ensures ∙ c.if-is_one_way.false) did) c.carry_out-due.ensures.carried
