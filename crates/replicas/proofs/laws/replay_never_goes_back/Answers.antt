use Rattle.replicas.proofs.Keeping.{never_back}
use Rattle.replicas.proofs.laws.replay_never_goes_back.Goals as goal

pub returns : goal.returns
returns c = never_back
