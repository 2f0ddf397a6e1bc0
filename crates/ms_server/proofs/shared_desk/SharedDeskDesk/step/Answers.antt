use Rattle.ms_server.proofs.Turns.{desk_counted, desk_turn}
use Rattle.ms_server.proofs.shared_desk.SharedDeskDesk.step.Goals as goal

pub returns-clause-turns : goal.returns-clause-turns
returns-clause-turns g c = desk_turn _ c.args.s c.take_turn-answer.result _ _ _ _ _ c.take_turn-answer.ensures.turn

pub returns-clause-counted : goal.returns-clause-counted
returns-clause-counted g c = desk_counted _ c.args.s c.take_turn-answer.result _ _ _ _ _ c.take_turn-answer.ensures.turn
