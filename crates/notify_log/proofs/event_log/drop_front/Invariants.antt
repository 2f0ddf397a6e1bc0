use Rattle.std.proofs.Common.{◌≡◌, ◌+◌, drop}
use Rattle.std.specs.VecDeque.{deque_capacity, deque_len}
use Rattle.notify_log.proofs.event_log.drop_front.Given as goal

abbrev pub invariant-loop : goal.invariant-loop
invariant-loop l = (l.events.items ≡ drop l.counter l.fn.events.items) × (deque_capacity l.events ≡ deque_capacity l.fn.events) × (deque_len l.events + l.counter ≡ deque_len l.fn.events)
