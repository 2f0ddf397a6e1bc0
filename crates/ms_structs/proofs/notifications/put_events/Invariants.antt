use Rattle.std.proofs.Common.{◌≡◌, ◌++◌, take, flat_map}
use Rattle.std.specs.List.{zip}
use Rattle.thrift_binary.specs.Strict.{wire_bytes}
use Rattle.ms_structs.specs.Notifications.{event_tree}
use Rattle.ms_structs.proofs.notifications.put_events.Given as goal

abbrev pub invariant-loop-at : goal.invariant-loop-at
invariant-loop-at l = l.writer ≡ l.fn.writer ++ flat_map (λ pair. wire_bytes 12 (event_tree pair.0 pair.1)) (take l.at (zip l.events l.messages))
