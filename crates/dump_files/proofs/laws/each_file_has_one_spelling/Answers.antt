use Rattle.change_codec.specs.Records.{newest}
use Rattle.change_codec.proofs.Lawful.{event-lawful, item-lawful}
use Rattle.change_codec.proofs.Wholes.{one_spelling}
use Rattle.dump_files.specs.Events.{event_file, event_stands}
use Rattle.dump_files.specs.Items.{item_file, item_stands}
use Rattle.dump_files.proofs.Spelled.{file-lawful}
use Rattle.dump_files.proofs.laws.each_file_has_one_spelling.Goals as goal

pub returns-clause-items : goal.returns-clause-items
returns-clause-items c bounds last = one_spelling (item_file bounds last) (file-lawful (item_stands bounds) _ (item-lawful newest) last)

pub returns-clause-events : goal.returns-clause-events
returns-clause-events c bounds last = one_spelling (event_file bounds last) (file-lawful (event_stands bounds) _ (event-lawful newest) last)
