use Rattle.server_cli.proofs.Whys.{told_none, told_why}
use Rattle.server_cli.proofs.telling.tell_why.Goals as goal

pub returns-in-Ok-clause-told : goal.returns-in-Ok-clause-told
returns-in-Ok-clause-told g c = told_none _ c.in-Ok.engine.start.state _ c.in-Ok.ensures.opens

pub returns-clause-told : goal.returns-clause-told
returns-clause-told g c = told_why _ c.in-Err.fault _ _ _ c.in-Err.ensures.kind c.in-Err.ensures.foreign c.in-Err.ensures.broken c.tell_refusal.ensures.told
