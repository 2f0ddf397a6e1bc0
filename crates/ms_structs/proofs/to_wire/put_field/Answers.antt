use Rattle.std.proofs.Common.{◌≡◌, ◌++◌, subst, rules, w16}
use mir.Val.{SFits}
use Rattle.std.proofs.lemmas.Int.{to_z-of_z}
use Rattle.thrift_binary.specs.Strict.{field_bytes}
use Rattle.ms_structs.proofs.PiecesWritten.{field_written}
use Rattle.ms_structs.proofs.to_wire.put_field.Goals as goal

pub returns : goal.returns
returns g c =
    let fits : SFits w16 c.args.id = search rules in
    let head = subst (λ id. c.field.new.self ≡ c.args.writer.now ++ field_bytes g.T.ToWire.CODE id) (to_z-of_z w16 c.args.id fits) (rw c.CODE.ensures at c.in_ok-field.ensures) in
    field_written c.write.result c.args.id g.T.ToWire.CODE g.T.ToWire.tree c.args.value.now c.args.writer.now c.field.new.self c.write.new.writer head c.write.ensures
