use Rattle.ms_structs.proofs.EventsWritten.{event_more, events_all}
use Rattle.ms_structs.proofs.notifications.put_events.Goals as goal

pub loop-at-preserved : goal.loop-at-preserved
loop-at-preserved c = event_more c.loop-at.at c.args.events.now c.args.messages.now c.index-events-at.result c.index-messages-at.result c.args.writer.now c.loop-at.writer c.write_notification_event.new.writer
    c.loop-at-test.true c.requires c.index-events-at.is c.index-messages-at.is c.loop-at.invariant c.in_ok-write_notification_event.ensures

pub returns : goal.returns
returns c = events_all c.loop-at.at c.args.events.now c.args.messages.now c.args.writer.now c.loop-at.writer c.loop-at-test.false c.loop-at.invariant
