use Rattle.std.proofs.Common.{arith}
use Rattle.dump_format.proofs.Found.{fault_weaker, goes_on}
use Rattle.dump_format.proofs.Rows.{first_harm, read_on}
use Rattle.dump_format.proofs.files.read_lines.Goals as goal

pub returns-in-Err-clause-answer : goal.returns-in-Err-clause-answer
returns-in-Err-clause-answer g c =
    let so_far = c.loop-line.invariant in
    fault_weaker _ _ _ _ _ c.in-Err.fault so_far.1
    (λ name harm bad. first_harm _ _ _ _ _ c.args.lines.now c.loop-line.line-index c.line-item.result c.loop-line.elements name harm so_far.0 c.loop-line-test.true c.line-item.is so_far.2 bad)
    c.in-Err.ensures.answer

pub loop-line-preserved : goal.loop-line-preserved
loop-line-preserved g c =
    let so_far = c.loop-line.invariant in
    let sooner = so_far.1 in
    let later = c.read_line.ensures.later in (
      goes_on _ _ _ so_far.0 c.read_line.ensures.same,
      omega (arith, sooner, later),
      read_on _ _ _ _ _ c.args.lines.now c.loop-line.line-index c.line-item.result c.loop-line.elements _ so_far.0 c.loop-line-test.true c.line-item.is so_far.2 c.in-Ok.ensures.answer,
    )
