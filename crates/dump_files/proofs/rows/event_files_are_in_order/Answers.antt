use Rattle.dump_files.proofs.Walks.{all_within, event_count, numbers}
use Rattle.dump_files.proofs.rows.event_files_are_in_order.Goals as goal

pub returns-clause-count : goal.returns-clause-count
returns-clause-count c = event_count

pub returns-clause-numbers : goal.returns-clause-numbers
returns-clause-numbers c = numbers

pub returns-clause-within : goal.returns-clause-within
returns-clause-within c = all_within
