use Rattle.std.proofs.Common.{◌≡◌, ◌≤◌, take, length}
use Rattle.notify_log.specs.Logs.{events_between}
use Rattle.notify_log.proofs.event_log.EventLog.of_database.Given as goal

abbrev pub invariant-loop-at : goal.invariant-loop-at
invariant-loop-at l = record {
  found : l.events ≡ events_between l.db l.born l.after l.end (take l.at l.self.events);
  few : length l.events ≤ l.max;
}
