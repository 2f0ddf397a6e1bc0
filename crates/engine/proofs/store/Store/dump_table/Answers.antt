use Rattle.engine.proofs.Dumps.{due_table, found_table}
use Rattle.engine.proofs.store.Store.dump_table.Goals as goal

pub returns-in-Ok : goal.returns-in-Ok
returns-in-Ok c = rw (← c.self.view_is) (found_table _ _ _ _ _ _ _ (c.in-Ok.ensures.found _) c.next_table.ensures c.told.ensures)

pub returns-in-Err : goal.returns-in-Err
returns-in-Err c = rw (← c.self.view_is) (due_table _ _ _ _ _ (c.in-Err.ensures.refused _))
