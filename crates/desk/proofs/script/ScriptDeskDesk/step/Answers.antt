use Rattle.desk.proofs.Turns.{are_others, own_behind}
use Rattle.desk.proofs.script.ScriptDeskDesk.step.Goals as goal

pub returns-clause-turns : goal.returns-clause-turns
returns-clause-turns g c =
    let taken = c.take_next.ensures.turns in
    (taken.0, are_others _ taken.0 taken.1, own_behind _ _ _ taken.0 _ taken.2 c.turn.ensures.entry)
