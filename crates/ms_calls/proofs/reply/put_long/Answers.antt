use Rattle.std.proofs.Common.{rules, subst, w64}
use mir.Val.{SFits}
use Rattle.std.proofs.lemmas.Int.{to_z-of_z}
use Rattle.thrift_binary.specs.Sending.{Gathers}
use Rattle.thrift_binary.specs.Tree.{Number}
use Rattle.thrift_binary.specs.Wire.{long_bytes}
use Rattle.ms_calls.proofs.UnderZero.{tree_written}
use Rattle.ms_calls.proofs.reply.put_long.Goals as goal

pub returns : goal.returns
returns c =
    let fits : SFits w64 c.args.number = search rules in
    let told = subst (λ n. Gathers c.field.new.self c.long.new.self c.long.result (long_bytes n)) (to_z-of_z w64 c.args.number fits) c.long.ensures in
    tree_written c.long.result c.args.writer.now c.field.new.self c.long.new.self 10 (Number c.args.number) c.in_ok-field.ensures told
