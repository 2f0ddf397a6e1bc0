use Rattle.replicas.proofs.Folder.{keeps_live}
use Rattle.replicas.proofs.laws.a_live_event_keeps.Goals as goal

pub returns : goal.returns
returns c = keeps_live
