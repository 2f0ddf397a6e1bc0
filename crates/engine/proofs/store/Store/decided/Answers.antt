use Rattle.std.proofs.Common.{ap, rules}
use Rattle.desk.specs.State.{State}
use Rattle.engine.proofs.Stepping.{decides_so}
use Rattle.engine.proofs.store.Store.decided.Goals as goal

pub returns-clause-decided : goal.returns-clause-decided
returns-clause-decided c =
    decides_so c.args.self.now _ _ _ c.args.call.now c.args.moment c.decide.result (ap (λ (s : State). s.catalogue) c.self.view_is) (search rules) (ap (λ (s : State). s.newest) c.self.view_is) c.decide.ensures.decided
