use Rattle.replicas.proofs.NewerParts.{newer_stay}
use Rattle.replicas.proofs.laws.newer_parts_stay.Goals as goal

pub returns : goal.returns
returns c = newer_stay
