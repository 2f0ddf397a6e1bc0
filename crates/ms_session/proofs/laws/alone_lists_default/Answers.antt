use Rattle.ms_session.proofs.Alone.{lists_default}
use Rattle.ms_session.proofs.laws.alone_lists_default.Goals as goal

pub returns : goal.returns
returns c = lists_default
