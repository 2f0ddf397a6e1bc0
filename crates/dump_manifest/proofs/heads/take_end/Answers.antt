use Rattle.std.proofs.Common.{arith}
use Rattle.dump_manifest.proofs.Places.{end_none, end_outside, end_some}
use Rattle.dump_manifest.proofs.heads.take_end.Goals as goal

pub returns-in-None : goal.returns-in-None
returns-in-None c = end_none c.args.begin c.args.text.now c.in-None.ensures

pub returns-then-end-begin : goal.returns-then-end-begin
returns-then-end-begin c = end_outside c.args.begin c.in-Some.end c.args.text.now _ c.in-Some.ensures.0 c.in-Some.ensures.1 (λ both. let low = both.0 in let over = c.if-end-begin.true in omega (arith, low, over))

pub returns-then-end-gt-HIGHEST_END : goal.returns-then-end-gt-HIGHEST_END
returns-then-end-gt-HIGHEST_END c = end_outside c.args.begin c.in-Some.end c.args.text.now _ c.in-Some.ensures.0 c.in-Some.ensures.1 (λ both. let low = both.1 in let over = c.if-end-gt-HIGHEST_END.true in omega (arith, low, over))

pub returns-else-end-gt-HIGHEST_END : goal.returns-else-end-gt-HIGHEST_END
returns-else-end-gt-HIGHEST_END c = let low = c.if-end-begin.false in let high = c.if-end-gt-HIGHEST_END.false in
    ((omega (arith, low), omega (arith, high)), end_some c.in-Some.end c.args.text.now _ c.in-Some.ensures.1)
