use Rattle.std.proofs.Common.{refl}
use Rattle.ms_structs.proofs.EventsWritten.{events_written}
use Rattle.ms_structs.proofs.notifications.put_events_field.Goals as goal

pub returns : goal.returns
returns c = events_written c.put_events.result _ c.args.events.now c.args.messages.now c.args.writer.now c.field.new.self c.list.new.self c.put_events.new.writer refl c.requires.equally_many c.in_ok-field.ensures c.in_ok-list.ensures c.put_events.ensures
