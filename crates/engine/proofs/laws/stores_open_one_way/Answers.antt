use Rattle.engine.proofs.OneStore.{breaks_at_one, not_refused, one_state}
use Rattle.engine.proofs.laws.stores_open_one_way.Goals as goal

pub returns-clause-one_state : goal.returns-clause-one_state
returns-clause-one_state c = one_state

pub returns-clause-opens : goal.returns-clause-opens
returns-clause-opens c = not_refused

pub returns-clause-one_place : goal.returns-clause-one_place
returns-clause-one_place c = breaks_at_one
