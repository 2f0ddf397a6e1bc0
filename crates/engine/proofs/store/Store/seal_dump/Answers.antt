use Rattle.engine.proofs.Dumps.{unwritten_seal, unwritten_unsealed}
use Rattle.engine.proofs.store.Store.seal_dump.Goals as goal

pub returns-in-Ok : goal.returns-in-Ok
returns-in-Ok c = rw (← c.self.view_is) (unwritten_seal _ _ _ _ _ c.in-Ok.ensures.found c.seal.ensures.dumps)

pub returns-in-Err : goal.returns-in-Err
returns-in-Err c = rw (← c.self.view_is) (unwritten_unsealed _ _ _ _ c.in-Err.ensures.refused)
