use Rattle.std.proofs.Common.{arith, sym, subst, ◌+◌}
use Rattle.notify_log.specs.Logs.{AreNumbered}
use Rattle.notify_log.proofs.Numbers.{numbered_drop}
use Rattle.notify_log.proofs.event_log.EventLog.trim.Goals as goal

pub invariant_of-self : goal.invariant_of-self
invariant_of-self c = (
  subst (λ es. AreNumbered (c.self.inside.first + c.count_upto-count.result) es) (sym c.drop_front.ensures.items) (numbered_drop c.count_upto-count.result c.self.inside.first c.self.inside.events.items c.self.invariant.0),
  omega (arith, c.drop_front.ensures.len, c.self.invariant.1),
)
