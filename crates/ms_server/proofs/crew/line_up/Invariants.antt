use Rattle.std.proofs.Common.{◌≡◌, ◌+◌, ◌≤◌, [], false, vec_len}
use Rattle.std.specs.Prelude.{vec_capacity}
use Rattle.std.specs.VecDeque.{deque_len}
use Rattle.turn_lock.specs.Passes.{splits_of, joins_of, joined_of, seen_of, caller_of, is_out, past_of, IsSamePass}
use Rattle.ms_server.specs.Crews.{Placed, Ready}
use Rattle.ms_server.proofs.Placing.{Taken}
use Rattle.ms_server.proofs.crew.line_up.Given as goal

abbrev pub invariant-loop-post : goal.invariant-loop-post
invariant-loop-post g l =
    record {
      same : IsSamePass l.fn.first l.first;
      inside : is_out l.first ≡ false;
      past : past_of l.first ≡ past_of l.fn.first;
      splits : splits_of l.first ≡ vec_len l.workers;
      joins : joins_of l.first ≡ 0;
      joined : joined_of l.first ≡ [];
      place : l.place ≡ vec_len l.workers;
      len : vec_len l.workers + deque_len l.posts ≡ deque_len l.fn.posts;
      room : deque_len l.fn.posts ≤ vec_capacity l.workers;
      taken : Taken l.fn._posts.value.items l.posts.items (vec_len l.workers);
      ready : Placed (λ k w. Ready l.fn._posts.value.items k (caller_of w.desk.pass) w.post (seen_of w.desk.pass)) l.workers.items;
    }

abbrev pub decreases-loop-post : goal.decreases-loop-post
decreases-loop-post g l = deque_len l.posts
