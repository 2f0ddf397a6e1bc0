use Rattle.std.proofs.Common.{◌≡◌, ◌++◌, ◌∷◌, [], ◌∙◌, ap, subst, sym}
use Rattle.desk.specs.History.{NoneAbove}
use Rattle.turn_lock.specs.Histories.{own}
use Rattle.turn_lock.proofs.Entries.{others_behind}
use Rattle.turn_lock.specs.Passes.{seen_of, past_of, calls_of}
use Rattle.ms_server.specs.Turns.{by_caller, entry}
use Rattle.ms_server.proofs.Turns.{turned}
use Rattle.ms_server.proofs.shared_desk.take_turn.Goals as goal

pub returns-clause-turn : goal.returns-clause-turn
returns-clause-turn g c =
    let pass = c.args.pass.now in
    let history = g.C.Core.history in
    let fits = c.enter-turn.ensures.fits in
    let fault = g.C.Core.faults c.turn-answer.new.self in
    let made = entry c.caller.result c.args.s c.turn-answer.result fault in
    let left = c.leave.ensures.calls in
    turned _ c.caller.result c.args.s c.turn-answer.result fault (seen_of pass) (seen_of c.enter-turn.new.pass) fits.begins.0 (seen_of c.leave.new.pass) (calls_of pass) (calls_of c.leave.new.pass) left.0
    fits.begins.1
    (subst (λ n. own by_caller n fits.begins.0 ≡ []) pass.caller_told (others_behind by_caller (seen_of c.enter-turn.new.pass) (past_of pass) fits))
    (c.caller.ensures ∙ c.enter-turn.ensures.same.caller)
    (c.leave.ensures.seen ∙ c.turn-answer.ensures.entry ∙ ap (λ x. history x ++ made ∷ []) c.value.ensures.value ∙ ap (λ l. l ++ made ∷ []) c.enter-turn.ensures.history)
    (c.leave.ensures.seen ∙ left.2)
    (left.3 ∙ ap (λ l. l ++ left.0 ∷ []) c.enter-turn.ensures.calls)
    (subst (NoneAbove fault) (sym c.leave.ensures.seen) c.turn-answer.ensures.counted)
