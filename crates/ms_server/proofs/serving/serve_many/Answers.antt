use Rattle.std.proofs.Common.{refl, ◌∙◌}
use Rattle.desk.proofs.Additions.{adds_none}
use Rattle.ms_server.proofs.Chains.{run_ends, run_more, served_none}
use Rattle.ms_server.proofs.serving.serve_many.Goals as goal

pub loop-init : goal.loop-init
loop-init g c = record { caller = refl; run = adds_none g.D.Desk.alone _ _ _ (served_none _) }

pub returns-in-Err-clause-visits : goal.returns-in-Err-clause-visits
returns-in-Err-clause-visits g c = run_ends g.D.Desk.alone _ _ c.args.limit c.loop.counter c.in-Err.fault _ _ _ _ _ _ c.loop.invariant.caller c.loop-test.true c.loop.invariant.run c.in-Err.ensures.visits

pub loop-preserved : goal.loop-preserved
loop-preserved g c = record {
  caller = c.serve_one.ensures.caller ∙ c.loop.invariant.caller;
  run = run_more g.D.Desk.alone _ _ c.loop.counter _ _ _ _ _ _ c.loop.invariant.caller c.loop.invariant.run c.in-Ok.ensures.visits;
}
