use Rattle.std.proofs.Common.{◌≡◌, take}
use Rattle.rulings.specs.Meant.{stored_values}
use Rattle.rulings.proofs.meant.stored_copy.Given as goal

abbrev pub invariant-loop-value : goal.invariant-loop-value
invariant-loop-value l = l.made.items ≡ stored_values (take l.value-index l.values)
