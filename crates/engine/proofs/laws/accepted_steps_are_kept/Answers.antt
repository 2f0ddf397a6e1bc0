use Rattle.engine.proofs.OneStore.{accepted_kept}
use Rattle.engine.proofs.laws.accepted_steps_are_kept.Goals as goal

pub returns : goal.returns
returns c = accepted_kept
