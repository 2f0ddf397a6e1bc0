use mir.Val.{SFits, of_z, to_z}
use Rattle.std.proofs.Common.{◌≡◌, ◌∙◌, ap, rules, subst, w64}
use Rattle.std.proofs.Common.{◌≤◌}
use Rattle.std.proofs.lemmas.Int.{to_z-of_z}
use Rattle.std.specs.Prelude.{ℤ}
use Rattle.desk.specs.State.{State}
use Rattle.dump_steps.specs.Open.{trim_end}
use Rattle.engine.proofs.Taking.{trim_below}
use Rattle.engine.proofs.Trims.{stepped_cut, stepped_uncut_fault}
use Rattle.engine.proofs.store.Store.trim.Goals as goal

pub cut-requires-clause-newest : goal.cut-requires-clause-newest
cut-requires-clause-newest g c = trim_below (to_z w64 (of_z w64 c.args.upto)) c.args.self.now.newest c.trim_end-end.result c.args.self.now.dumps (c.trim_end-end.ensures ∙ ap (λ (s : State). trim_end (to_z w64 (of_z w64 c.args.upto)) s.newest s.dumps) c.self.view_is)

pub returns-in-Ok : goal.returns-in-Ok
returns-in-Ok g c =
    let fits : SFits w64 c.args.upto = search rules in
    let is = subst (λ (z : ℤ). c.trim_end-end.result ≡ trim_end z c.args.self.now.newest c.args.self.now.dumps) (to_z-of_z w64 c.args.upto fits) (c.trim_end-end.ensures ∙ ap (λ (s : State). trim_end (to_z w64 (of_z w64 c.args.upto)) s.newest s.dumps) c.self.view_is) in
    let le : c.args.self.now.first ≤ c.trim_end-end.result = search rules in
    λ caller. stepped_cut c.args.self.now c.cut.new.self caller c.args.upto c.trim_end-end.result _ _ is le (trim_below c.args.upto c.args.self.now.newest c.trim_end-end.result c.args.self.now.dumps is) c.in-Ok.ensures.ok c.in-Ok.ensures.log

pub returns-in-Err : goal.returns-in-Err
returns-in-Err g c =
    let fits : SFits w64 c.args.upto = search rules in
    let is = subst (λ (z : ℤ). c.trim_end-end.result ≡ trim_end z c.args.self.now.newest c.args.self.now.dumps) (to_z-of_z w64 c.args.upto fits) (c.trim_end-end.ensures ∙ ap (λ (s : State). trim_end (to_z w64 (of_z w64 c.args.upto)) s.newest s.dumps) c.self.view_is) in
    let le : c.args.self.now.first ≤ c.trim_end-end.result = search rules in
    λ caller. rw c.refusal.ensures (stepped_uncut_fault c.args.self.now c.cut.new.self caller c.args.upto c.trim_end-end.result c.in-Err.fault _ _ is le (trim_below c.args.upto c.args.self.now.newest c.trim_end-end.result c.args.self.now.dumps is) c.in-Err.ensures.err c.in-Err.ensures.log)
