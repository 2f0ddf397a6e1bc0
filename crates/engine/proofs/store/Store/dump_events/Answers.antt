use Rattle.engine.proofs.Dumps.{due_events, found_events}
use Rattle.engine.proofs.store.Store.dump_events.Goals as goal

pub returns-in-Ok : goal.returns-in-Ok
returns-in-Ok c = rw (← c.self.view_is) (found_events _ _ _ _ _ _ _ (c.in-Ok.ensures.found _) c.next_events.ensures c.told.ensures)

pub returns-in-Err : goal.returns-in-Err
returns-in-Err c = rw (← c.self.view_is) (due_events _ _ _ _ _ (c.in-Err.ensures.refused _))
