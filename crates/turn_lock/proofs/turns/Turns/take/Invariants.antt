use Rattle.std.proofs.Common.{◌≡◌, ℕ, ◌%◌, ◌^◌}
use Rattle.turn_lock.specs.Steps.{staged}
use Rattle.turn_lock.specs.declared.view.Stage.TheVariants.{Waits}
use Rattle.turn_lock.proofs.turns.Turns.take.Given as goal

abbrev pub invariant-loop : goal.invariant-loop
invariant-loop g l =
    record {
      can : (goal.iterator-loop g).can_next l.iterator' × (goal.iterator-loop g).is_finite l.iterator';
      here : l.seat.table_id ≡ l.fn.seat.table_id;
      same : l.seat.id ≡ l.fn.seat.id;
      number : (n : ℕ) × (l.ticket ≡ n % 2 ^ 64) × (l.seat.me ≡ (staged l.fn.seat.me.0 (Waits n), l.fn.seat.me.1));
    }
