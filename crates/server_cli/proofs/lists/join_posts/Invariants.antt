use Rattle.std.proofs.Common.{◌≡◌, ◌+◌, ◌≤◌, ◌++◌, vec_len}
use Rattle.std.specs.Prelude.{vec_capacity}
use Rattle.std.specs.VecDeque.{deque_len}
use Rattle.server_cli.specs.Server.{posts_of}
use Rattle.server_cli.proofs.lists.join_posts.Given as goal

abbrev pub invariant-loop-listener : goal.invariant-loop-listener
invariant-loop-listener g l =
    record {
      items : l.posts.items ++ posts_of l.listeners.items l.folders.items l.clocks.items ≡ posts_of l.fn.listeners.items l.fn.folders.items l.fn.clocks.items;
      folders : deque_len l.folders ≡ deque_len l.listeners;
      clocks : deque_len l.clocks ≡ deque_len l.listeners;
      len : vec_len l.posts + deque_len l.listeners ≡ vec_len l.fn.listeners;
      room : vec_len l.fn.listeners ≤ vec_capacity l.posts;
    }

abbrev pub decreases-loop-listener : goal.decreases-loop-listener
decreases-loop-listener g l = deque_len l.listeners
