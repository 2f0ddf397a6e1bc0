use Rattle.replicas.proofs.Folder.{keeps_event}
use Rattle.replicas.proofs.laws.an_event_keeps.Goals as goal

pub returns : goal.returns
returns c = keeps_event
