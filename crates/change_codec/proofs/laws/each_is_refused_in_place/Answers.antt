use Rattle.change_codec.proofs.Lawful.{entry-lawful, event-lawful, events-lawful, item-lawful, items-lawful}
use Rattle.change_codec.proofs.Steady.{entry-steady, event-steady, events-steady, item-steady, items-steady, refused_in_place}
use Rattle.change_codec.proofs.laws.each_is_refused_in_place.Goals as goal

pub returns-clause-event : goal.returns-clause-event
returns-clause-event c version = let p = event-lawful version in refused_in_place _ (event-steady version) p.again

pub returns-clause-events : goal.returns-clause-events
returns-clause-events c version = let p = events-lawful version in refused_in_place _ (events-steady version) p.again

pub returns-clause-item : goal.returns-clause-item
returns-clause-item c version = let p = item-lawful version in refused_in_place _ (item-steady version) p.again

pub returns-clause-items : goal.returns-clause-items
returns-clause-items c version = let p = items-lawful version in refused_in_place _ (items-steady version) p.again

pub returns-clause-entry : goal.returns-clause-entry
returns-clause-entry c version = let p = entry-lawful version in refused_in_place _ (entry-steady version) p.again
