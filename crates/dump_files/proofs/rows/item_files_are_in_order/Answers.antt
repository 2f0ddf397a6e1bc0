use Rattle.dump_files.proofs.Walks.{marks, names, parts}
use Rattle.dump_files.proofs.rows.item_files_are_in_order.Goals as goal

pub returns-clause-names : goal.returns-clause-names
returns-clause-names c = names

pub returns-clause-parts : goal.returns-clause-parts
returns-clause-parts c = parts

pub returns-clause-marks : goal.returns-clause-marks
returns-clause-marks c = marks
