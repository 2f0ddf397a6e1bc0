use Rattle.std.proofs.Common.{length}
use Rattle.std.specs.Str.{chars}
use denote.Text.{Utf8}
use denote.Shadow.{shadow}
use Rattle.cat_rules.specs.Patterns.{Along}
use Rattle.cat_rules.proofs.patterns.follow.Given as goal

-- the signs so far stand for the front of the name so far
abbrev pub invariant-loop-sign : goal.invariant-loop-sign
invariant-loop-sign l = shadow (Utf8 l.signs) × shadow (Utf8 l.name) × Along (chars l.fn.signs) (chars l.fn.name) (chars l.signs) (chars l.name)

abbrev pub decreases-loop-sign : goal.decreases-loop-sign
decreases-loop-sign l = length (chars l.signs)
