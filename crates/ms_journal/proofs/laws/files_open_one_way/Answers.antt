use Rattle.ms_journal.proofs.OneWay.{one_file, file_opens, one_place, broken_not_foreign}
use Rattle.ms_journal.proofs.laws.files_open_one_way.Goals as goal

pub returns-clause-one_way : goal.returns-clause-one_way
returns-clause-one_way c = one_file

pub returns-clause-opens : goal.returns-clause-opens
returns-clause-opens c = file_opens

pub returns-clause-one_place : goal.returns-clause-one_place
returns-clause-one_place c = one_place

pub returns-clause-not_foreign : goal.returns-clause-not_foreign
returns-clause-not_foreign c = broken_not_foreign
