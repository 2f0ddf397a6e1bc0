use Rattle.std.proofs.Common.{◌∙◌, rules, subst, w64}
use mir.Val.{SFits}
use Rattle.std.proofs.lemmas.Int.{to_z-of_z}
use Rattle.thrift_binary.specs.Sending.{Gathers}
use Rattle.thrift_binary.specs.Strict.{wire_bytes}
use Rattle.ms_structs.specs.Dumps.{dump_result}
use Rattle.ms_structs.specs.Notifications.{cut_long}
use Rattle.ms_calls.proofs.UnderZero.{tree_written}
use Rattle.ms_calls.proofs.reply.put_dumped.Goals as goal

pub returns : goal.returns
returns c =
    let fits : SFits w64 c.cut_long.result = search rules in
    let told = subst (λ n. Gathers c.field.new.self c.write_repl_dump_result.new.writer c.write_repl_dump_result.result (wire_bytes 12 (dump_result c.args.dir.now n)))
    (to_z-of_z w64 c.cut_long.result fits ∙ c.cut_long.ensures) c.write_repl_dump_result.ensures in
    tree_written c.write_repl_dump_result.result c.args.writer.now c.field.new.self c.write_repl_dump_result.new.writer 12 (dump_result c.args.dir.now (cut_long c.args.last)) c.in_ok-field.ensures told
