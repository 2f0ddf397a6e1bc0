use Rattle.std.proofs.Common.{◌≡◌, ◌++◌, subst, rules, w16, w64}
use mir.Val.{SFits}
use Rattle.std.proofs.lemmas.Int.{to_z-of_z}
use Rattle.thrift_binary.specs.Sending.{Gathers}
use Rattle.thrift_binary.specs.Strict.{field_bytes}
use Rattle.thrift_binary.specs.Wire.{long_bytes}
use Rattle.ms_structs.proofs.PiecesWritten.{gathers_then}
use Rattle.ms_structs.proofs.notifications.put_long.Goals as goal

pub returns : goal.returns
returns c =
    let id_fits : SFits w16 c.args.id = search rules in
    let value_fits : SFits w64 c.args.value = search rules in
    let head = subst (λ id. c.field.new.self ≡ c.args.writer.now ++ field_bytes 10 id) (to_z-of_z w16 c.args.id id_fits) c.in_ok-field.ensures in
    let value = subst (λ n. Gathers c.field.new.self c.long.new.self c.long.result (long_bytes n)) (to_z-of_z w64 c.args.value value_fits) c.long.ensures in
    gathers_then c.long.result c.args.writer.now c.field.new.self c.long.new.self (field_bytes 10 c.args.id) (long_bytes c.args.value) head value
