use Rattle.std.proofs.Common.{◌≡◌, drop}
use Rattle.rulings.specs.Meant.{stored_values}
use Rattle.rulings.proofs.meant.are_stored.Given as goal

abbrev pub invariant-loop-value : goal.invariant-loop-value
invariant-loop-value l = stored_values (drop l.value-index l.values) ≡ drop l.value-index l.values → stored_values l.values ≡ l.values
