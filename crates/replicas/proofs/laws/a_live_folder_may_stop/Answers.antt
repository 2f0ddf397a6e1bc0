use Rattle.replicas.proofs.Stopped.{live_may_stop}
use Rattle.replicas.proofs.laws.a_live_folder_may_stop.Goals as goal

pub returns : goal.returns
returns c = live_may_stop
