use Rattle.filter_expr.proofs.Places.{no_filter}
use Rattle.filter_expr.proofs.laws.no_filter_goes_on.Goals as goal

pub returns : goal.returns
returns c = no_filter
