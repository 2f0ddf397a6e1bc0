use Rattle.std.proofs.Common.{◌≡◌, ◌≤◌, vec_len}
use Rattle.metastore.proofs.serving.places.Given as goal

abbrev pub invariant-loop : goal.invariant-loop
invariant-loop g l =
    record {
      within : l.counter ≤ l.workers;
      doors : vec_len l.doors ≡ l.counter;
      clocks : vec_len l.clocks ≡ l.counter;
    }
