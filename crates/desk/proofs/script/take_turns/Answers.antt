use Rattle.std.proofs.Common.{◌++◌, ◌∷◌, [], ◌∙◌, refl, sym}
use Rattle.std.proofs.lemmas.List.{append-nil}
use Rattle.desk.proofs.Turns.{another, next_taken}
use Rattle.desk.proofs.script.take_turns.Goals as goal

pub loop-turn-init : goal.loop-turn-init
loop-turn-init g c = record { start = refl; turns = ([], refl, [], tt, sym (append-nil _)) }

pub loop-turn-preserved : goal.loop-turn-preserved
loop-turn-preserved g c =
    let so_far = c.loop-turn.invariant.turns in
    let one = c.take_turn.ensures.turn in
    let more = another _ _ _ so_far.2 so_far.0 c.in-Some.turn one.0 so_far.3 so_far.4 one.1 one.2 in
    record {
      start = c.take_turn.ensures.start ∙ c.loop-turn.invariant.start;
      turns = (so_far.0 ++ c.in-Some.turn ∷ [], next_taken _ so_far.0 _ _ c.in-Some.turn so_far.1 c.in-Some.ensures.items, more.0, more.1, more.2);
    }
