use Rattle.replicas.proofs.WholeFolders.{increments}
use Rattle.replicas.proofs.laws.increments_stay_live.Goals as goal

pub returns : goal.returns
returns c = increments
