use Rattle.std.proofs.Common.{◌≡◌, List, ◌++◌}
use Rattle.std.specs.VecDeque.{deque_len}
use Rattle.desk.specs.History.{Entry}
use Rattle.desk.specs.Scripts.{AskedBy}
use Rattle.desk.specs.declared.foreign.Foreign.{Foreign}
use Rattle.desk.proofs.script.take_turns.Given as goal

abbrev pub invariant-loop-turn : goal.invariant-loop-turn
invariant-loop-turn g l =
    record {
      start : g.C.Core.start l.core ≡ g.C.Core.start l.fn.core;
      turns : (taken : List Foreign) × (l.fn.turns.items ≡ taken ++ l.turns.items) × (between : List Entry) × AskedBy taken between × (g.C.Core.history l.core ≡ g.C.Core.history l.fn.core ++ between);
    }

abbrev pub decreases-loop-turn : goal.decreases-loop-turn
decreases-loop-turn g l = deque_len l.turns
