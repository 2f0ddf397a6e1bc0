use Rattle.std.proofs.Common.{arith, ap, subst, drop, ◌≡◌, ◌+◌, ◌-◌, ◌∙◌, sym}
use Rattle.notify_log.specs.Logs.{events_above}
use Rattle.notify_log.proofs.Numbers.{above_drops, all_above, none_above}
use Rattle.notify_log.proofs.event_log.EventLog.count_upto.Goals as goal

pub returns-then-id-self-clause-below : goal.returns-then-id-self-clause-below
returns-then-id-self-clause-below c =
    subst (λ es. events_above c.args.id es ≡ es) (ap (λ k. k.events) c.self.view_is) (all_above c.self.inside.first c.args.id c.self.inside.events.items c.self.invariant.0 c.if-id-self.true)

pub returns-then-offset-len-clause-below : goal.returns-then-offset-len-clause-below
returns-then-offset-len-clause-below c =
    let long = c.len-then-offset-len.ensures ∙ c.self.inside.events.ok.0 in
    subst (λ es. events_above c.args.id es ≡ drop c.len-then-offset-len.result es) (ap (λ k. k.events) c.self.view_is)
    (none_above c.self.inside.first c.args.id c.self.inside.events.items c.self.invariant.0 (omega (arith, c.if-offset-len.true, c.len.ensures, c.self.inside.events.ok.0, c.if-id-self.false)) ∙ ap (λ n. drop n c.self.inside.events.items) (sym long))

pub returns-clause-below : goal.returns-clause-below
returns-clause-below c =
    subst (λ es. events_above c.args.id es ≡ drop (c.args.id - c.self.inside.first + 1) es) (ap (λ k. k.events) c.self.view_is)
    (above_drops (c.args.id - c.self.inside.first + 1) c.self.inside.first c.args.id c.self.inside.events.items c.self.invariant.0 (omega (arith, c.if-id-self.false)))
