use Rattle.filter_expr.proofs.Descending.{read_or_refused}
use Rattle.filter_expr.proofs.laws.texts_are_read_or_refused.Goals as goal

pub returns : goal.returns
returns c = read_or_refused
