use Rattle.std.proofs.Common.{◌≡◌, ◌≤◌, ◌++◌, false}
use Rattle.turn_lock.specs.Histories.{Begins}
use Rattle.turn_lock.specs.Passes.{caller_of, seen_of, calls_of, is_out, IsSamePass, HasSameJoins}
use Rattle.turn_lock_tests.specs.Calls.{first_calls}
use Rattle.turn_lock_tests.proofs.works.steps.Given as goal

abbrev pub invariant-loop-number : goal.invariant-loop-number
invariant-loop-number g l =
    record {
      same : IsSamePass l.fn.pass l.pass;
      joins : HasSameJoins l.fn.pass l.pass;
      inside : is_out l.pass ≡ false;
      seen : Begins (seen_of l.fn.pass) (seen_of l.pass);
      calls : calls_of l.pass ≡ calls_of l.fn.pass ++ first_calls (g.V.Works.entry (caller_of l.fn.pass)) l.number;
      within : l.number ≤ l.count;
    }
