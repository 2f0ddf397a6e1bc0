use Rattle.replicas.proofs.Repeats.{repeats}
use Rattle.replicas.proofs.laws.repeated_replays_do_nothing.Goals as goal

pub returns : goal.returns
returns c = repeats
