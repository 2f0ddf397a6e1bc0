use Rattle.std.proofs.Common.{◌≡◌, IfOk, refl, rules, subst, w16, to_z, of_z, w64}
use mir.Val.{SFits}
use Rattle.std.proofs.lemmas.Int.{to_z-of_z}
use Rattle.ms_calls.specs.Refusals.{bad_argument, unknown_method}
use Rattle.ms_calls.specs.declared.request.Asked.TheVariants.{BadArgument, Unknown}
use Rattle.ms_session.proofs.Answering.{not_called}
use Rattle.ms_session.proofs.Dumping.{trim_again}
use Rattle.ms_session.proofs.carrying.carry_out.Goals as goal

pub returns-in-Unknown-clause-carried : goal.returns-in-Unknown-clause-carried
returns-in-Unknown-clause-carried g c = rw c.in-Unknown.is (not_called _ _ _ _ _ Unknown unknown_method c.unknown_method.result (refl, refl, refl) c.unknown_method.ensures)

pub returns-in-BadArgument-clause-carried : goal.returns-in-BadArgument-clause-carried
returns-in-BadArgument-clause-carried g c =
    let fits : SFits w16 c.in-BadArgument.id = search rules in
    let same : to_z w16 (of_z w16 c.in-BadArgument.id) ≡ c.in-BadArgument.id = to_z-of_z w16 c.in-BadArgument.id fits in
    rw c.in-BadArgument.is (not_called _ _ _ _ _ (BadArgument c.in-BadArgument.id) (bad_argument c.in-BadArgument.id) c.bad_argument.result (refl, refl, refl) (subst (λ z. IfOk c.bad_argument.result (λ reply. reply ≡ bad_argument z)) same c.bad_argument.ensures))

pub returns-in-Trim-clause-carried : goal.returns-in-Trim-clause-carried
returns-in-Trim-clause-carried g c =
    let fits : SFits w64 c.in-Trim.upto = search rules in
    let same : to_z w64 (of_z w64 c.in-Trim.upto) ≡ c.in-Trim.upto = to_z-of_z w64 c.in-Trim.upto fits in
    rw c.in-Trim.is (trim_again _ _ _ _ _ _ _ _ c.trim_events.result same (c.trim_events.ensures.carried _ _))
