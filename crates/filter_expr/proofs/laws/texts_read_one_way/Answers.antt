use Rattle.filter_expr.proofs.OneWay.{read_one_way}
use Rattle.filter_expr.proofs.laws.texts_read_one_way.Goals as goal

pub returns : goal.returns
returns c = read_one_way
