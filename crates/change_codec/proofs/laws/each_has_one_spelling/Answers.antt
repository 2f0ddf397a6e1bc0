use Rattle.change_codec.proofs.Lawful.{entry-lawful, event-lawful, events-lawful, item-lawful, items-lawful}
use Rattle.change_codec.proofs.Wholes.{one_spelling}
use Rattle.change_codec.proofs.laws.each_has_one_spelling.Goals as goal

pub returns-clause-event : goal.returns-clause-event
returns-clause-event c version = one_spelling _ (event-lawful version)

pub returns-clause-events : goal.returns-clause-events
returns-clause-events c version = one_spelling _ (events-lawful version)

pub returns-clause-item : goal.returns-clause-item
returns-clause-item c version = one_spelling _ (item-lawful version)

pub returns-clause-items : goal.returns-clause-items
returns-clause-items c version = one_spelling _ (items-lawful version)

pub returns-clause-entry : goal.returns-clause-entry
returns-clause-entry c version = one_spelling _ (entry-lawful version)
