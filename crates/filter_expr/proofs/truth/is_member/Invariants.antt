use Rattle.std.proofs.Common.{◌≡◌, drop}
use Rattle.filter_expr.specs.Seen.{seen}
use Rattle.filter_expr.specs.Truth.{is_member}
use Rattle.filter_expr.proofs.truth.is_member.Given as goal

abbrev pub invariant-loop-literal : goal.invariant-loop-literal
invariant-loop-literal l = is_member (seen l.value) (drop l.literal-index l.literals) ≡ is_member (seen l.value) l.literals
