use Rattle.std.proofs.Common.{◌≡◌, ◌+◌, ◌≤◌, ◌++◌, map, vec_len}
use Rattle.std.specs.Prelude.{vec_capacity}
use Rattle.std.specs.VecDeque.{deque_len}
use Rattle.server_cli.proofs.lists.take_done.Given as goal

abbrev pub invariant-loop-one : goal.invariant-loop-one
invariant-loop-one g l =
    record {
      ends : l.lists.ends.items ++ map (λ d. d.status) l.done.items ≡ map (λ d. d.status) l.fn.done.items;
      calls : l.lists.calls.items ++ map (λ d. d.calls) l.done.items ≡ map (λ d. d.calls) l.fn.done.items;
      listeners : l.lists.listeners.items ++ map (λ d. d.post.listener) l.done.items ≡ map (λ d. d.post.listener) l.fn.done.items;
      folders : l.lists.folders.items ++ map (λ d. d.post.folder) l.done.items ≡ map (λ d. d.post.folder) l.fn.done.items;
      room_ends : vec_len l.lists.ends + deque_len l.done ≤ vec_capacity l.lists.ends;
      room_calls : vec_len l.lists.calls + deque_len l.done ≤ vec_capacity l.lists.calls;
      room_listeners : vec_len l.lists.listeners + deque_len l.done ≤ vec_capacity l.lists.listeners;
      room_folders : vec_len l.lists.folders + deque_len l.done ≤ vec_capacity l.lists.folders;
    }

abbrev pub decreases-loop-one : goal.decreases-loop-one
decreases-loop-one g l = deque_len l.done
