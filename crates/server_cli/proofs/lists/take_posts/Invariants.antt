use Rattle.std.proofs.Common.{◌≡◌, ◌+◌, ◌≤◌, ◌++◌, map, vec_len, []}
use Rattle.std.specs.Prelude.{vec_capacity}
use Rattle.std.specs.VecDeque.{deque_len}
use Rattle.server_cli.proofs.lists.take_posts.Given as goal

abbrev pub invariant-loop-post : goal.invariant-loop-post
invariant-loop-post g l =
    record {
      ends : l.lists.ends.items ≡ [];
      calls : l.lists.calls.items ≡ [];
      listeners : l.lists.listeners.items ++ map (λ p. p.listener) l.posts.items ≡ map (λ p. p.listener) l.fn.posts.items;
      folders : l.lists.folders.items ++ map (λ p. p.folder) l.posts.items ≡ map (λ p. p.folder) l.fn.posts.items;
      room_listeners : vec_len l.lists.listeners + deque_len l.posts ≤ vec_capacity l.lists.listeners;
      room_folders : vec_len l.lists.folders + deque_len l.posts ≤ vec_capacity l.lists.folders;
    }

abbrev pub decreases-loop-post : goal.decreases-loop-post
decreases-loop-post g l = deque_len l.posts
