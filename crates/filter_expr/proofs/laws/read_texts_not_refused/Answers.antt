use Rattle.filter_expr.proofs.OneWay.{not_refused}
use Rattle.filter_expr.proofs.laws.read_texts_not_refused.Goals as goal

pub returns : goal.returns
returns c = not_refused
