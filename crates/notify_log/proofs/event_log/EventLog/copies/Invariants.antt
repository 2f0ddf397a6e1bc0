use Rattle.std.proofs.Common.{◌≡◌, take, drop}
use Rattle.notify_log.proofs.event_log.EventLog.copies.Given as goal

abbrev pub invariant-loop-at : goal.invariant-loop-at
invariant-loop-at l = l.events.items ≡ take l.at (drop l.start l.self.events)
