use Rattle.std.proofs.Common.{rules}
use Rattle.desk.proofs.Additions.{adds_weaker}
use Rattle.ms_server.proofs.Chains.{failed}
use Rattle.ms_server.proofs.serving.work.Goals as goal

pub returns-in-Err-Failed-clause-worked : goal.returns-in-Err-Failed-clause-worked
returns-in-Err-Failed-clause-worked g c = adds_weaker g.D.Desk.alone _ _ _ _ _ (λ xs s. failed c.args.sessions c.unwrap_or.result c.in-Err-Failed.field-0 _ _ xs (search rules) c.in-Err-Failed.field-0-is s) c.in-Err-Failed.ensures.visits
