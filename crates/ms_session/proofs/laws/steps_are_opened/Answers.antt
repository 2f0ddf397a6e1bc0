use Rattle.ms_session.proofs.Opened.{steps_opened}
use Rattle.ms_session.proofs.laws.steps_are_opened.Goals as goal

pub returns : goal.returns
returns c = steps_opened
