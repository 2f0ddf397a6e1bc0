use Rattle.std.proofs.Common.{◌≡◌, ◌+◌, drop}
use Rattle.ms_calls.specs.Exceptions.{place_from}
use Rattle.ms_calls.proofs.exception.place_of.Given as goal

abbrev pub invariant-loop-at : goal.invariant-loop-at
invariant-loop-at l = place_from 1 l.exception l.declared ≡ place_from (l.at + 1) l.exception (drop l.at l.declared)
