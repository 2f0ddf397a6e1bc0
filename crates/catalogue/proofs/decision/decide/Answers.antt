use Rattle.catalogue.proofs.Deciding.{all_taken}
use Rattle.catalogue.proofs.decision.decide.Goals as goal

pub returns-clause-taken : goal.returns-clause-taken
returns-clause-taken c = all_taken c.args.cat.now c.args.bars.now c.args.call.now c.args.moment c.args.next c.decide_call.result c.decide_call.ensures
