use Rattle.repl_dump.proofs.Writing.{arrives_events, breaks_events}
use Rattle.repl_dump.proofs.arriving.events_told.Goals as goal

pub returns-in-Ok-clause-goes : goal.returns-in-Ok-clause-goes
returns-in-Ok-clause-goes g c = λ begin. arrives_events _ _ _ begin _ _ _ _ _ c.events_place.ensures (c.in-Ok.ensures.told c.args.more)

pub returns-clause-goes : goal.returns-clause-goes
returns-clause-goes g c = λ begin. breaks_events c.in-Err.failure _ _ _ begin c.in-Err.ensures.own
