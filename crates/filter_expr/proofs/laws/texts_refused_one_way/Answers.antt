use Rattle.filter_expr.proofs.OneWay.{refused_one_way}
use Rattle.filter_expr.proofs.laws.texts_refused_one_way.Goals as goal

pub returns : goal.returns
returns c = refused_one_way
