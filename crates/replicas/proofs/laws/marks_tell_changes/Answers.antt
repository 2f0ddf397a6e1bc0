use Rattle.replicas.proofs.Marking.{marks_tell}
use Rattle.replicas.proofs.laws.marks_tell_changes.Goals as goal

pub returns : goal.returns
returns c = marks_tell
