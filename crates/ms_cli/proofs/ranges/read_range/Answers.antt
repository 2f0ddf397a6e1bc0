use Rattle.std.proofs.Common.{◌∙◌, sym}
use Rattle.ms_cli.proofs.Reading.{no_range, some_words}
use Rattle.ms_cli.proofs.ranges.read_range.Goals as goal

pub returns-then-not-is_empty-clause-none : goal.returns-then-not-is_empty-clause-none
returns-then-not-is_empty-clause-none c = λ _. no_range _ _ _ _ _ _ _ c.in_ok-from.ensures.taken c.in_ok-to.ensures.taken c.in_ok-limit.ensures.taken (some_words _ (sym c.if-not-is_empty.true ∙ c.is_empty.ensures))
