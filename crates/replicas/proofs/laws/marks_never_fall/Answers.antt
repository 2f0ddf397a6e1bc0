use Rattle.replicas.proofs.Growing.{never_fall, stands_rooted}
use Rattle.replicas.proofs.laws.marks_never_fall.Goals as goal

pub returns : goal.returns
returns c = record { grow = never_fall; rooted = stands_rooted }
