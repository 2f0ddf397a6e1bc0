use Rattle.repl_dump.proofs.Writing.{arrives_parts, breaks_parts}
use Rattle.repl_dump.proofs.arriving.parts_told.Goals as goal

pub returns-in-Ok-clause-goes : goal.returns-in-Ok-clause-goes
returns-in-Ok-clause-goes g c = λ begin. arrives_parts _ _ _ _ _ begin _ _ _ _ _ c.parts_place.ensures (c.in-Ok.ensures.told c.args.more)

pub returns-in-Err-clause-goes : goal.returns-in-Err-clause-goes
returns-in-Err-clause-goes g c = λ begin. breaks_parts c.in-Err.failure _ _ _ _ _ begin c.in-Err.ensures.own
