use Rattle.std.proofs.Common.{◌∙◌, pos, subst, rules, w64}
use mir.Val.{SFits}
use Rattle.std.proofs.lemmas.Int.{to_z-of_z}
use Rattle.thrift_binary.specs.Sending.{Gathers}
use Rattle.thrift_binary.specs.Strict.{field_bytes}
use Rattle.thrift_binary.specs.Wire.{long_bytes}
use Rattle.ms_structs.specs.Notifications.{cut_long}
use Rattle.ms_structs.proofs.PiecesWritten.{gathers_then}
use Rattle.ms_structs.proofs.notifications.put_id.Goals as goal

pub returns : goal.returns
returns c =
    let fits : SFits w64 c.cut_long.result = search rules in
    let value = subst (λ n. Gathers c.field.new.self c.long.new.self c.long.result (long_bytes n)) (to_z-of_z w64 c.cut_long.result fits ∙ c.cut_long.ensures) c.long.ensures in
    gathers_then c.long.result c.args.writer.now c.field.new.self c.long.new.self (field_bytes 10 (pos 1)) (long_bytes (cut_long c.args.id)) c.in_ok-field.ensures value
