use Rattle.desk.proofs.Events.{always_together}
use Rattle.desk.proofs.laws.changes_and_events_stand_together.Goals as goal

pub returns : goal.returns
returns c = always_together
