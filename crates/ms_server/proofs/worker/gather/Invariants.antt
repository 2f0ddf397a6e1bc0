use Rattle.std.proofs.Common.{◌≡◌, ◌+◌, ◌≤◌, ◌%◌, false, length, take, vec_len}
use Rattle.std.specs.Prelude.{vec_capacity, ◌^◌}
use Rattle.std.specs.VecDeque.{deque_len}
use Rattle.turn_lock.specs.Passes.{splits_of, joins_of, joined_of, seen_of, caller_of, is_out, past_of, IsSamePass}
use Rattle.ms_server.specs.Crews.{AllJoined, Ran, all_calls}
use Rattle.ms_server.specs.Visits.{around}
use Rattle.ms_server.proofs.Placing.{PlacedFrom}
use Rattle.ms_server.proofs.worker.gather.Given as goal

abbrev pub invariant-loop-worker : goal.invariant-loop-worker
invariant-loop-worker g l =
    record {
      same : IsSamePass l.fn.first l.first;
      past : past_of l.first ≡ past_of l.fn.first;
      inside : is_out l.first ≡ false;
      room : vec_len l.crew.done + deque_len l.workers ≤ vec_capacity l.crew.done;
      splits : splits_of l.first ≡ splits_of l.fn.first;
      joins : joins_of l.first + deque_len l.workers ≡ joins_of l.fn.first + deque_len l.fn.workers;
      len : vec_len l.crew.done + deque_len l.workers ≡ length l.fn._posts.value.items;
      ran : PlacedFrom (vec_len l.crew.done) (λ k w. Ran (around g.L.Listener.inputs g.L.Listener.returned g.L.Listener.faults g.F.Folder.files g.F.Folder.faults g.K.Clock.moments) l.fn._sessions l.fn._posts.value.items k (caller_of w.desk.pass) w.post w.status (seen_of w.desk.pass)) l.workers.items;
      joined : AllJoined (around g.L.Listener.inputs g.L.Listener.returned g.L.Listener.faults g.F.Folder.files g.F.Folder.faults g.K.Clock.moments) l.fn._sessions 1 (take (vec_len l.crew.done) l.fn._posts.value.items) (joined_of l.first) l.crew.done.items;
      steps : l.crew.steps ≡ all_calls (joined_of l.first) % 2 ^ 64;
    }

abbrev pub decreases-loop-worker : goal.decreases-loop-worker
decreases-loop-worker g l = deque_len l.workers
