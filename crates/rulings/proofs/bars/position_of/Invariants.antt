use Rattle.std.proofs.Common.{◌≡◌, drop}
use Rattle.rulings.specs.Bars.{position}
use Rattle.rulings.proofs.bars.position_of.Given as goal

abbrev pub invariant-loop-replica : goal.invariant-loop-replica
invariant-loop-replica l = position (drop l.replica-index l.replicas) l.name ≡ position l.replicas l.name
