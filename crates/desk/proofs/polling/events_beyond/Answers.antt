use Rattle.std.proofs.Common.{◌≡◌, ◌-◌, IfOk, subst, take, arith}
use Rattle.std.proofs.lemmas.Int.{ints}
use Rattle.desk.proofs.Polled.{beyond_none}
use Rattle.desk.proofs.polling.events_beyond.Goals as goal

pub returns-then-last-lt0 : goal.returns-then-last-lt0
returns-then-last-lt0 c =
    subst (λ es. IfOk c.after.result (λ events. events ≡ take c.args.limit es))
    (beyond_none c.args.last (c.first.result - 1) c.args.log.now.first c.args.log.now.events (omega (arith, ints, c.if-last-lt0.true)) c.first.ensures.numbered (omega (arith, c.first.ensures.value, c.requires))) c.after.ensures
