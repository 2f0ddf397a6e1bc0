use Rattle.std.proofs.Common.{ap, arith}
use Rattle.desk.specs.State.{State}
use Rattle.engine.proofs.Taking.{cut_next, cut_state}
use Rattle.engine.proofs.store.Store.take_off.Goals as goal

pub invariant_of-self : goal.invariant_of-self
invariant_of-self c =
    let same = ap (λ (s : State). s.first) c.self.view_is in
    let newest = ap (λ (s : State). s.newest) c.self.view_is in
    let next = cut_next _ _ _ _ _ _ c.first-first.ensures.numbered c.self.invariant.1 (omega (arith, same, c.requires.first)) (omega (arith, newest, c.requires.newest)) c.trim.ensures.first c.trim.ensures.events in
    (c.self.invariant.0, next.0, next.1)

pub returns : goal.returns
returns c =
    let same = ap (λ (s : State). s.first) c.self.view_is in
    cut_state _ _ _ _ _ _ _ _ _ _ _ c.self.view_is (omega (arith, same, c.requires.first)) c.trim.ensures.first c.trim.ensures.events
