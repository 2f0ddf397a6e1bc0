use Rattle.std.proofs.Common.{Some}
use Rattle.filter_expr.proofs.parsing.whole.Goals as goal

pub returns : goal.returns
returns c = let h = c.in_ok-any.ensures.parsed in (Some h.0, (_, h.1, c.if-not-is_at_end.ensures.yes), h.2)
