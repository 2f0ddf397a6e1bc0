use Rattle.replicas.proofs.WholeFolders.{bootstraps}
use Rattle.replicas.proofs.laws.bootstraps_go_live.Goals as goal

pub returns : goal.returns
returns c = bootstraps
