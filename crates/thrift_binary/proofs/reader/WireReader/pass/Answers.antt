use Rattle.std.proofs.Common.{◌∙◌, arith, rules, length, take, drop, length-take-le, length-append}
use Rattle.std.proofs.lemmas.List.{length-drop}
use Rattle.std.proofs.lemmas.Result.{err_from_is_err_and}
use Rattle.thrift_binary.proofs.Passing.{pass_short, pass_more}
use Rattle.thrift_binary.proofs.reader.WireReader.pass.Goals as goal

pub returns-in_err-exact-clause-reads : goal.returns-in_err-exact-clause-reads
returns-in_err-exact-clause-reads g c =
    let p = err_from_is_err_and c.from_residual.result c.from_residual.ensures.1 in
    let got = length-take-le c.min-part.result c.loop-left.buf (omega (arith, c.loop-left.invariant.size)) in
    rw (p.1, p.2) (pass_short c.args.n c.loop-left.left (length (take c.min-part.result c.loop-left.buf)) _ _ _ _ _ _ c.in_err-exact.field-0.0 (omega (arith, got)) c.loop-left.invariant.so_far c.in_err-exact.ensures.reads)

pub loop-left-preserved : goal.loop-left-preserved
loop-left-preserved g c =
    let got = length-take-le c.min-part.result c.loop-left.buf (omega (arith, c.loop-left.invariant.size)) in
    record {
      same_source = search rules;
      stays = c.in_ok-exact.ensures.stays ∙ c.loop-left.invariant.stays;
      within = omega (arith, c.loop-left.invariant.within);
      size = omega (arith, c.loop-left.invariant.size, got, length-append c.exact-in-loop-left.new.buf (drop c.min-part.result c.loop-left.buf), length-drop c.min-part.result c.loop-left.buf);
      so_far = pass_more c.args.n c.loop-left.left c.min-part.result c.exact-in-loop-left.new.buf _ _ _ _ _ _ (omega arith) (omega (arith, got)) c.loop-left.invariant.so_far c.in_ok-exact.ensures.reads;
    }
