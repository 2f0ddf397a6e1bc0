use Rattle.desk.proofs.Names.{go_on_rising, of_new_stores}
use Rattle.desk.proofs.laws.names_rise.Goals as goal

pub returns : goal.returns
returns c = record { go_on = go_on_rising; new_stores = of_new_stores }
