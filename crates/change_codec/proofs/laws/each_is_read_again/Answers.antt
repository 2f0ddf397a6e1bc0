use Rattle.change_codec.proofs.Lawful.{entry-lawful, event-lawful, events-lawful, item-lawful, items-lawful}
use Rattle.change_codec.proofs.laws.each_is_read_again.Goals as goal

pub returns-clause-event : goal.returns-clause-event
returns-clause-event c version = let p = event-lawful version in p.again

pub returns-clause-events : goal.returns-clause-events
returns-clause-events c version = let p = events-lawful version in p.again

pub returns-clause-item : goal.returns-clause-item
returns-clause-item c version = let p = item-lawful version in p.again

pub returns-clause-items : goal.returns-clause-items
returns-clause-items c version = let p = items-lawful version in p.again

pub returns-clause-entry : goal.returns-clause-entry
returns-clause-entry c version = let p = entry-lawful version in p.again
