use Rattle.std.proofs.Common.{◌≡◌, ◌++◌}
use Rattle.cat_values.proofs.map_of.MapOfTryCopy.copy.Given as goal

abbrev pub invariant-loop-key : goal.invariant-loop-key
invariant-loop-key g l = l.inner.entries ++ l.key-iterator ≡ l.self
