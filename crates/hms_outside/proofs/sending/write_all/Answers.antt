use Rattle.std.proofs.Common.{arith, ◌∙◌}
use Rattle.hms_outside.proofs.SinkLemmas.{Grew-more}
use Rattle.hms_outside.proofs.sending.write_all.Goals as goal

pub loop-at-preserved : goal.loop-at-preserved
loop-at-preserved g c = record {
  bound = omega (arith, c.in-Ok.ensures.bound);
  written = Grew-more _ _ _ c.loop-at.at c.in-Ok.count c.args.message.now c.loop-at.invariant.written c.in-Ok.ensures.bytes;
  faults = c.in-Ok.ensures.cause.stays ∙ c.loop-at.invariant.faults;
}
