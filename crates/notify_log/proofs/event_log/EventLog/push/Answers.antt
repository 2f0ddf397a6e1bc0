use Rattle.std.proofs.Common.{arith, ap, sym, subst, ◌∙◌}
use Rattle.notify_log.specs.Logs.{AreNumbered, next_number}
use Rattle.notify_log.proofs.Numbers.{pushed}
use Rattle.notify_log.proofs.event_log.EventLog.push.Goals as goal
use Rattle.notify_log.proofs.event_log.EventLog.push.Goals.{in-Ok, in-Err}

pub invariant_of-self : goal.invariant_of-self
invariant_of-self c = elim c.match-push_back.branch [
  | in-Ok w ↦ pushed c.self.inside.first _ _ c.self.inside.events.items _ _ c.self.invariant.0 c.self.inside.events.ok.0 (c.requires.next ∙ sym (ap next_number c.self.view_is)) c.requires.numbers_left w.in-Ok.ensures.items w.in-Ok.ensures.len
  | in-Err w ↦ (subst (λ es. AreNumbered c.self.inside.first es) (sym w.in-Err.ensures.items) c.self.invariant.0, omega (arith, w.in-Err.ensures.len, c.self.invariant.1))
]
