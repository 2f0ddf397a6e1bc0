use Rattle.std.proofs.Common.{◌≡◌, ap, refl, rules, w64, to_z, of_z}
use mir.Val.{SFits}
use Rattle.std.proofs.lemmas.Int.{to_z-of_z}
use Rattle.cat_types.specs.declared.steps.Step.TheVariants.{Trim}
use Rattle.ms_session.proofs.Dumping.{can_reply_trim, trim_answered, trimmed}
use Rattle.ms_session.proofs.carrying.trim_events.Goals as goal

pub returns-clause-carried : goal.returns-clause-carried
returns-clause-carried g c = λ clock shelf.
    let t = c.step.ensures.turns in
    let fits : SFits w64 c.args.upto = search rules in
    let same : to_z w64 (of_z w64 c.args.upto) ≡ c.args.upto = to_z-of_z w64 c.args.upto fits in
    trimmed g.D.Desk.alone (g.D.Desk.caller c.args.desk.now) _ _ t.0 _ c.args.upto clock shelf c.reply_to_trim.result refl (ap Trim same) t.1 t.2 c.step.ensures.sole
    (trim_answered (g.D.Desk.start c.step.new.self) _ t.0 _ _ c.args.upto (ap Trim same) t.2 c.step.ensures.legal) c.reply_to_trim.ensures

pub returns-clause-can : goal.returns-clause-can
returns-clause-can g c = can_reply_trim _ c.reply_to_trim.result c.reply_to_trim.ensures

pub reply_to_trim-requires : goal.reply_to_trim-requires
reply_to_trim-requires g c =
    let t = c.step.ensures.turns in
    let fits : SFits w64 c.args.upto = search rules in
    let same : to_z w64 (of_z w64 c.args.upto) ≡ c.args.upto = to_z-of_z w64 c.args.upto fits in
    trim_answered (g.D.Desk.start c.step.new.self) _ t.0 _ _ c.args.upto (ap Trim same) t.2 c.step.ensures.legal
