use Rattle.change_codec.specs.Records.{newest}
use Rattle.change_codec.proofs.Lawful.{event-lawful, item-lawful}
use Rattle.dump_files.specs.Events.{event_stands}
use Rattle.dump_files.specs.Items.{item_stands}
use Rattle.dump_files.proofs.Spelled.{file-lawful}
use Rattle.dump_files.proofs.laws.each_file_is_read_again.Goals as goal

pub returns-clause-items : goal.returns-clause-items
returns-clause-items c bounds last = let p = file-lawful (item_stands bounds) _ (item-lawful newest) last in p.again

pub returns-clause-events : goal.returns-clause-events
returns-clause-events c bounds last = let p = file-lawful (event_stands bounds) _ (event-lawful newest) last in p.again
