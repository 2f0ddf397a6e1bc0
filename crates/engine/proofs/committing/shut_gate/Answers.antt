use Rattle.engine.proofs.Commits.{left_alone}
use Rattle.engine.proofs.committing.shut_gate.Goals as goal

pub returns-clause-went : goal.returns-clause-went
returns-clause-went g c = left_alone _ _ _ _ _ c.is_doubtful.ensures.opens
