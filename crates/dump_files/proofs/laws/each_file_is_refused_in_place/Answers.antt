use Rattle.change_codec.specs.Records.{newest}
use Rattle.change_codec.proofs.Lawful.{event-lawful, item-lawful}
use Rattle.change_codec.proofs.Steady.{event-steady, event_none, item-steady, item_none, refused_in_place}
use Rattle.dump_files.specs.Events.{event_file, event_stands}
use Rattle.dump_files.specs.Items.{item_file, item_stands}
use Rattle.dump_files.proofs.Spelled.{file-lawful, file-steady}
use Rattle.dump_files.proofs.laws.each_file_is_refused_in_place.Goals as goal

pub returns-clause-items : goal.returns-clause-items
returns-clause-items c bounds last = let p = file-lawful (item_stands bounds) _ (item-lawful newest) last in refused_in_place (item_file bounds last) (file-steady (item_stands bounds) _ (item-steady newest) (item_none newest) last) p.again

pub returns-clause-events : goal.returns-clause-events
returns-clause-events c bounds last = let p = file-lawful (event_stands bounds) _ (event-lawful newest) last in refused_in_place (event_file bounds last) (file-steady (event_stands bounds) _ (event-steady newest) (event_none newest) last) p.again
