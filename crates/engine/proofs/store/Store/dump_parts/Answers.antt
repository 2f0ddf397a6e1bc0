use Rattle.engine.proofs.Dumps.{due_parts, found_parts}
use Rattle.engine.proofs.store.Store.dump_parts.Goals as goal

pub returns-in-Ok : goal.returns-in-Ok
returns-in-Ok c = rw (← c.self.view_is) (found_parts _ _ _ _ _ _ _ _ _ (c.in-Ok.ensures.found _) c.next_parts.ensures c.told.ensures)

pub returns-in-Err : goal.returns-in-Err
returns-in-Err c = rw (← c.self.view_is) (due_parts _ _ _ _ _ _ _ (c.in-Err.ensures.refused _))
