use Rattle.std.proofs.Common.{ap, map, subst, ◌∙◌}
use Rattle.notify_log.specs.Messages.{message_text}
use Rattle.thrift_binary.specs.Sending.{Gathers}
use Rattle.thrift_binary.specs.Strict.{wire_bytes}
use Rattle.thrift_binary.specs.Tree.{Struct}
use Rattle.ms_structs.specs.Notifications.{events_fields}
use Rattle.ms_calls.proofs.UnderZero.{struct_written}
use Rattle.ms_calls.proofs.reply.put_events.Goals as goal

pub returns : goal.returns
returns c =
    let told = subst (λ ms. Gathers c.field.new.self c.write_notification_event_response.new.writer c.write_notification_event_response.result (wire_bytes 12 (Struct (events_fields c.args.events.now ms))))
    (c.in_ok-messages.ensures ∙ ap (map message_text) c.as_slice.ensures.items) c.write_notification_event_response.ensures in
    struct_written c.write_notification_event_response.result c.args.writer.now c.field.new.self c.write_notification_event_response.new.writer (events_fields c.args.events.now (map message_text c.args.events.now)) c.in_ok-field.ensures told
