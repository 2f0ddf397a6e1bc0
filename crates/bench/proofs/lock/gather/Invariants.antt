use Rattle.std.proofs.Common.{◌≡◌, ◌+◌, false, All, vec_len}
use Rattle.turn_lock.specs.Passes.{splits_of, joins_of, is_out, IsPassOf, IsSamePass}
use Rattle.bench.proofs.lock.gather.Given as goal

abbrev pub invariant-loop-pass : goal.invariant-loop-pass
invariant-loop-pass l =
    record {
      same : IsSamePass l.fn.first l.first;
      inside : is_out l.first ≡ false;
      passes : All (λ p. IsPassOf l.turns p × (is_out p ≡ false)) l.passes.items;
      splits : splits_of l.first ≡ splits_of l.fn.first;
      joins : joins_of l.first + vec_len l.passes ≡ joins_of l.fn.first + vec_len l.fn.passes;
    }

abbrev pub decreases-loop-pass : goal.decreases-loop-pass
decreases-loop-pass l = goal.left-loop-pass l
