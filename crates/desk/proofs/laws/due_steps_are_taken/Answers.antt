use Rattle.desk.proofs.Taken.{are_taken}
use Rattle.desk.proofs.laws.due_steps_are_taken.Goals as goal

pub returns : goal.returns
returns c = are_taken
