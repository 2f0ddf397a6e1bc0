use Rattle.std.proofs.Common.{arith, sym}
use Rattle.dump_manifest.proofs.Cutting.{cut_end, cut_here, lacks_next}
use Rattle.dump_manifest.proofs.lines.split_line.Goals as goal

pub returns-then-text-at-eq10 : goal.returns-then-text-at-eq10
returns-then-text-at-eq10 c = sym (cut_here c.args.text.now c.behind.result.now c.bytes.at _ (omega arith) c.behind.ensures c.bytes-test.true c.bytes.invariant c.if-text-at-eq10.true)

pub bytes-preserved : goal.bytes-preserved
bytes-preserved c = lacks_next c.args.text.now c.bytes.at _ (omega arith) c.bytes-test.true c.bytes.invariant c.if-text-at-eq10.false

pub returns : goal.returns
returns c = let over = c.bytes-test.false in cut_end c.args.text.now c.bytes.at (omega (arith, over)) c.bytes.invariant
