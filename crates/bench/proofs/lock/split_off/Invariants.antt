use Rattle.std.proofs.Common.{◌≡◌, ◌+◌, ◌≤◌, false, All, vec_len}
use Rattle.turn_lock.specs.Passes.{splits_of, joins_of, is_out, IsPassOf, IsSamePass}
use Rattle.bench.proofs.lock.split_off.Given as goal

abbrev pub invariant-loop : goal.invariant-loop
invariant-loop l =
    record {
      same : IsSamePass l.fn.first l.first;
      inside : is_out l.first ≡ false;
      counts : joins_of l.first + vec_len l.passes ≡ splits_of l.first;
      splits : splits_of l.first ≡ l.counter;
      within : l.counter ≤ l.count;
      passes : All (λ p. IsPassOf l.turns p × (is_out p ≡ false)) l.passes.items;
    }
