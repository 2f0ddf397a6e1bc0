use Rattle.std.proofs.Common.{◌∙◌}
use Rattle.ms_structs.proofs.Getting.{gets_weaker}
use Rattle.ms_calls.proofs.asking.read_asked.Goals as goal

pub returns-clause-reads : goal.returns-clause-reads
returns-clause-reads g c = gets_weaker _ _ _ _ _ _ _ _ _ (λ v asked says. says ∙ c.plan_of.ensures v) c.read_plan.ensures.reads
