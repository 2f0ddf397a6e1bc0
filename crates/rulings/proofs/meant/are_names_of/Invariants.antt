use Rattle.std.proofs.Common.{◌≡◌, drop}
use Rattle.std.specs.Cmp.Lexicographic.{pointwise}
use Rattle.std.specs.Str.{bytes_eq}
use Rattle.rulings.specs.Meant.{key_names}
use Rattle.rulings.proofs.meant.are_names_of.Given as goal

abbrev pub invariant-loop-name : goal.invariant-loop-name
invariant-loop-name l = pointwise bytes_eq (drop l.name-index l.names) (key_names l.left) ≡ pointwise bytes_eq l.names (key_names l.keys)
