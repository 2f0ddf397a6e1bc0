use Rattle.std.proofs.Common.{rules, subst, w64}
use mir.Val.{SFits}
use Rattle.std.proofs.lemmas.Int.{to_z-of_z}
use Rattle.thrift_binary.specs.Sending.{Gathers}
use Rattle.thrift_binary.specs.Strict.{wire_bytes}
use Rattle.thrift_binary.specs.Tree.{Struct}
use Rattle.ms_structs.specs.Notifications.{newest_fields}
use Rattle.ms_calls.proofs.UnderZero.{struct_written}
use Rattle.ms_calls.proofs.reply.put_newest.Goals as goal

pub returns : goal.returns
returns c =
    let fits : SFits w64 c.args.number = search rules in
    let told = subst (λ n. Gathers c.field.new.self c.write_current_notification_event_id.new.writer c.write_current_notification_event_id.result (wire_bytes 12 (Struct (newest_fields n))))
    (to_z-of_z w64 c.args.number fits) c.write_current_notification_event_id.ensures in
    struct_written c.write_current_notification_event_id.result c.args.writer.now c.field.new.self c.write_current_notification_event_id.new.writer (newest_fields c.args.number) c.in_ok-field.ensures told
