use Rattle.std.proofs.Common.{◌≡◌, ◌++◌, pos, rules, subst, w64}
use mir.Val.{SFits}
use Rattle.std.proofs.lemmas.Int.{to_z-of_z}
use Rattle.thrift_binary.specs.Codes.{i64_code}
use Rattle.thrift_binary.specs.Tree.{Number}
use Rattle.ms_structs.specs.Dumps.{dump_written}
use Rattle.ms_structs.specs.Written.{field_spelled, given}
use Rattle.ms_structs.proofs.PiecesWritten.{struct_written, then_end, then_field}
use Rattle.ms_structs.proofs.dumps.write_repl_dump_result.Goals as goal

pub returns : goal.returns
returns c =
    let fits : SFits w64 c.args.last = search rules in
    let told = subst (λ n. c.put_field-2.new.writer ≡ c.put_field.new.writer ++ field_spelled (given (pos 2) i64_code Number n)) (to_z-of_z w64 c.args.last fits) c.in_ok-put_field-2.ensures in
    struct_written c.stop.result (dump_written c.args.dir.now c.args.last) _ _
    (then_field c.in_ok-put_field.ensures
    (then_field told
    (then_end c.stop.ensures)))
