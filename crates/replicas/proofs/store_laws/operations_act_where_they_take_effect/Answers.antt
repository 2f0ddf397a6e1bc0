use Rattle.replicas.proofs.Effects.{acts_where, drops_never_act, fitting_acts}
use Rattle.replicas.proofs.store_laws.operations_act_where_they_take_effect.Goals as goal

pub returns : goal.returns
returns c = record { acts = acts_where; drops = drops_never_act; fitting = fitting_acts }
