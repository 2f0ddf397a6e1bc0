use Rattle.ms_structs.proofs.DatabaseSaid.{order_is_free}
use Rattle.ms_structs.proofs.laws.order_is_free.Goals as goal

pub returns : goal.returns
returns c = order_is_free
