use Rattle.std.proofs.Common.{arith, ap, subst, sym, ◌∙◌, ◌-◌, ◌≡◌, None}
use Rattle.std.specs.Option.{option_copied}
use Rattle.notify_log.specs.Logs.{event_with}
use Rattle.notify_log.proofs.Numbers.{event_at, lent, none_with}
use Rattle.notify_log.proofs.event_log.EventLog.get.Goals as goal

pub returns-then-id-self : goal.returns-then-id-self
returns-then-id-self c =
    subst (λ es. None ≡ event_with c.args.id es) (ap (λ k. k.events) c.self.view_is) (sym (none_with c.self.inside.first c.args.id c.self.inside.events.items c.self.invariant.0 c.if-id-self.true))

pub returns : goal.returns
returns c =
    let found = event_at (c.args.id - c.self.inside.first) c.self.inside.first c.args.id c.self.inside.events.items c.self.invariant.0 (omega (arith, c.if-id-self.false)) in
    subst (λ es. option_copied c.get.result ≡ event_with c.args.id es) (ap (λ k. k.events) c.self.view_is) (lent _ _ c.get.result c.get.ensures.item ∙ sym found)
