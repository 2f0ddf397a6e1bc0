use Rattle.dump_files.proofs.Walks.{first_file, later_file}
use Rattle.dump_files.proofs.rows.item_files_are_of_one_kind.Goals as goal

pub returns-clause-first : goal.returns-clause-first
returns-clause-first c = first_file

pub returns-clause-later : goal.returns-clause-later
returns-clause-later c = later_file
