use Rattle.std.proofs.Common.{◌≡◌, length}
use Rattle.cat_values.specs.Columns.{without_trailing_spaces}
use Rattle.cat_values.proofs.columns.without_trailing_spaces.Given as goal

-- what is left is trimmed to the same text
abbrev pub invariant-loop-left : goal.invariant-loop-left
invariant-loop-left l = without_trailing_spaces l.left ≡ without_trailing_spaces l.fn.text

abbrev pub decreases-loop-left : goal.decreases-loop-left
decreases-loop-left l = length l.left
