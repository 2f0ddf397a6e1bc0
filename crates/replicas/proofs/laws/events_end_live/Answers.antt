use Rattle.replicas.proofs.Folder.{then_live}
use Rattle.replicas.proofs.laws.events_end_live.Goals as goal

pub returns : goal.returns
returns c = then_live
