use Rattle.replicas.proofs.Stopped.{may_stop}
use Rattle.replicas.proofs.laws.a_folder_may_stop.Goals as goal

pub returns : goal.returns
returns c = may_stop
