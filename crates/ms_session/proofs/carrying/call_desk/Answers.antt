use Rattle.std.proofs.Common.{refl}
use Rattle.ms_session.proofs.Answering.{called}
use Rattle.ms_session.proofs.Results.{call_answered, can_call}
use Rattle.ms_session.proofs.carrying.call_desk.Goals as goal

pub returns-clause-carried : goal.returns-clause-carried
returns-clause-carried g c = λ shelf.
    let t = c.step.ensures.turns in
    called g.D.Desk.alone (g.D.Desk.caller c.args.desk.now) _ _ t.0 _ c.args.call c.now-moment.result _ _ shelf _ refl refl t.1 t.2 c.step.ensures.sole c.now-moment.ensures.moment
    (call_answered (g.D.Desk.start c.step.new.self) _ t.0 _ _ c.args.call c.now-moment.result refl t.2 c.step.ensures.legal) c.reply_of.ensures

pub returns-clause-can : goal.returns-clause-can
returns-clause-can g c =
    let t = c.step.ensures.turns in
    can_call (g.D.Desk.start c.step.new.self) _ t.0 _ _ c.args.call c.now-moment.result _ refl t.2 c.step.ensures.legal c.reply_of.ensures

pub reply_of-requires : goal.reply_of-requires
reply_of-requires g c =
    let t = c.step.ensures.turns in
    call_answered (g.D.Desk.start c.step.new.self) _ t.0 _ _ c.args.call c.now-moment.result refl t.2 c.step.ensures.legal
