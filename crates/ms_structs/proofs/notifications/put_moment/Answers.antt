use Rattle.std.proofs.Common.{◌∙◌, pos, subst, rules, w32}
use mir.Val.{SFits}
use Rattle.std.proofs.lemmas.Int.{to_z-of_z}
use Rattle.thrift_binary.specs.Sending.{Gathers}
use Rattle.thrift_binary.specs.Strict.{field_bytes}
use Rattle.thrift_binary.specs.Wire.{int_bytes}
use Rattle.ms_structs.specs.Notifications.{cut_int}
use Rattle.ms_structs.proofs.PiecesWritten.{gathers_then}
use Rattle.ms_structs.proofs.notifications.put_moment.Goals as goal

pub returns : goal.returns
returns c =
    let fits : SFits w32 c.cut_int.result = search rules in
    let value = subst (λ n. Gathers c.field.new.self c.int.new.self c.int.result (int_bytes n)) (to_z-of_z w32 c.cut_int.result fits ∙ c.cut_int.ensures) c.int.ensures in
    gathers_then c.int.result c.args.writer.now c.field.new.self c.int.new.self (field_bytes 8 (pos 2)) (int_bytes (cut_int c.args.moment)) c.in_ok-field.ensures value
