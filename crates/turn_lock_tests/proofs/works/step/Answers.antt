use Rattle.std.proofs.Common.{◌≡◌, ◌++◌, ◌∷◌, [], ◌∙◌, ap, subst}
use Rattle.turn_lock.specs.Histories.{own}
use Rattle.turn_lock.proofs.Entries.{others_behind}
use Rattle.turn_lock.specs.Passes.{seen_of, past_of}
use Rattle.turn_lock_tests.proofs.works.step.Goals as goal

pub returns-clause-turn : goal.returns-clause-turn
returns-clause-turn g c =
    let pass = c.args.pass.now in
    let by = g.V.Standing.caller_of in
    let entry = g.V.Works.entry in
    let history = g.V.Standing.history in
    let fits = c.enter-turn.ensures.fits in
    record {
      between = fits.begins.0;
      others = subst (λ n. own by n fits.begins.0 ≡ []) pass.caller_told (others_behind by (seen_of c.enter-turn.new.pass) (past_of pass) fits);
      added = c.leave.ensures.seen ∙ c.work.ensures.entry
          ∙ ap (λ x. history x ++ entry c.caller.result c.args.number ∷ []) c.value.ensures.value
          ∙ ap (λ l. l ++ entry c.caller.result c.args.number ∷ []) (c.enter-turn.ensures.history ∙ fits.begins.1)
          ∙ ap (λ n. (seen_of pass ++ fits.begins.0) ++ entry n c.args.number ∷ []) (c.caller.ensures ∙ c.enter-turn.ensures.same.caller);
    }
