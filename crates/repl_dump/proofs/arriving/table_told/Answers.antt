use Rattle.repl_dump.proofs.Writing.{breaks_table}
use Rattle.repl_dump.proofs.arriving.table_told.Goals as goal

pub returns-in-Err-clause-goes : goal.returns-in-Err-clause-goes
returns-in-Err-clause-goes g c = λ begin after. breaks_table c.in-Err.failure c.args.item begin after c.in-Err.ensures.own c.requires
