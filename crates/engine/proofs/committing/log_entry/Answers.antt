use Rattle.engine.proofs.Commits.{logged, unlogged}
use Rattle.engine.proofs.committing.log_entry.Goals as goal

pub returns-in-Ok : goal.returns-in-Ok
returns-in-Ok g c = logged _ _ _ _ _ c.in-Ok.ensures c.commit.ensures.ran c.commit.ensures.cause

pub returns-in-Err : goal.returns-in-Err
returns-in-Err g c = unlogged _ _ c.requires
