use Rattle.std.proofs.Common.{◌≡◌, ◌++◌, pos, subst}
use Rattle.thrift_binary.specs.Strict.{field_bytes, fields_bytes}
use Rattle.thrift_binary.specs.Wire.{text_bytes}
use Rattle.ms_structs.specs.Written.{optional_text}
use Rattle.ms_structs.proofs.EventsWritten.{event_written}
use Rattle.ms_structs.proofs.notifications.put_event_fields.Goals as goal

pub returns : goal.returns
returns c =
    let kind = subst (λ word. c.put_word.new.writer ≡ c.put_moment.new.writer ++ (field_bytes 11 (pos 3) ++ text_bytes word)) c.kind_name.ensures.name c.in_ok-put_word.ensures in
    let table = subst (λ t. c.put_lent.new.writer ≡ c.put_text.new.writer ++ fields_bytes (optional_text (pos 5) t)) c.table_of.ensures c.in_ok-put_lent.ensures in
    event_written c.put_word-2.result c.args.event.now c.args.message.now c.args.writer.now c.put_id.new.writer c.put_moment.new.writer c.put_word.new.writer c.put_text.new.writer c.put_lent.new.writer c.put_text-2.new.writer c.put_word-2.new.writer
    c.in_ok-put_id.ensures c.in_ok-put_moment.ensures kind c.in_ok-put_text.ensures table c.in_ok-put_text-2.ensures c.put_word-2.ensures
