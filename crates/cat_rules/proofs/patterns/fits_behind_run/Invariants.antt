use Rattle.std.proofs.Common.{length, ◌+◌, ◌↔◌}
use Rattle.std.specs.Str.{chars}
use denote.Text.{Utf8}
use denote.Shadow.{shadow}
use Rattle.cat_rules.specs.Patterns.{MatchesAfterRun}
use Rattle.cat_rules.proofs.patterns.fits_behind_run.Given as goal

-- what is left to match decides the whole
abbrev pub invariant-loop-later : goal.invariant-loop-later
invariant-loop-later l = shadow (Utf8 l.signs) × shadow (Utf8 l.name) × (MatchesAfterRun (chars l.fn.signs) (chars l.fn.name) ↔ MatchesAfterRun (chars l.signs) (chars l.name))

abbrev pub decreases-loop-later : goal.decreases-loop-later
decreases-loop-later l = length (chars l.signs) + length (chars l.name)
