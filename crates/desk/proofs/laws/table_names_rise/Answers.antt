use Rattle.desk.proofs.Names.{tables_go_on, tables_of_new}
use Rattle.desk.proofs.laws.table_names_rise.Goals as goal

pub returns : goal.returns
returns c = record { go_on = tables_go_on; new_stores = tables_of_new }
