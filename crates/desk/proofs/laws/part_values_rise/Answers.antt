use Rattle.desk.proofs.Names.{values_go_on, values_of_new}
use Rattle.desk.proofs.laws.part_values_rise.Goals as goal

pub returns : goal.returns
returns c = record { go_on = values_go_on; new_stores = values_of_new }
