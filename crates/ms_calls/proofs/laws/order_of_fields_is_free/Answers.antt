use Rattle.ms_calls.proofs.OrderIsFree.{order_is_free}
use Rattle.ms_calls.proofs.laws.order_of_fields_is_free.Goals as goal

pub returns : goal.returns
returns c = order_is_free
