use Rattle.replicas.proofs.Equality.{are_equal}
use Rattle.replicas.proofs.store_laws.live_replicas_are_equal.Goals as goal

pub returns : goal.returns
returns c = are_equal
