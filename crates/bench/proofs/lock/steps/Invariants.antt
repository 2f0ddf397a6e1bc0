use Rattle.std.proofs.Common.{◌≡◌, false}
use Rattle.turn_lock.specs.Passes.{is_out, IsSamePass}
use Rattle.bench.proofs.lock.steps.Given as goal

abbrev pub invariant-loop : goal.invariant-loop
invariant-loop g l =
    record {
      same : IsSamePass l.fn.pass l.pass;
      inside : is_out l.pass ≡ false;
    }
