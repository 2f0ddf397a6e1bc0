use Rattle.std.proofs.Common.{◌≡◌, ◌≤◌, vec_len}
use Rattle.metastore.proofs.serving.folders_of.Given as goal

abbrev pub invariant-loop : goal.invariant-loop
invariant-loop g l =
    record {
      within : l.counter ≤ l.workers;
      folders : vec_len l.folders ≡ l.counter;
    }
