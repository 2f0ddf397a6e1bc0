use Rattle.std.proofs.Common.{◌≡◌, ◌<◌, ◌≤◌, ◌∷◌, ◌∙◌, sym, subst, refl}
use Rattle.std.specs.Prelude.{Some, IsSome, All}
use Rattle.turn_lock.proofs.Ends.{Closes, value_taken, same_one}
use Rattle.turn_lock.proofs.Stages.{idle_of, given_by}
use Rattle.turn_lock.proofs.turns.Turns.close.Goals as goal

pub unwrap-requires : goal.unwrap-requires
unwrap-requires g c =
    let pass = c.args.pass in
    let q = c.requires in
    let t = value_taken g.V.Standing.caller_of g.V.Standing.history g.V.Standing.start (Some (g.V.Standing.start c.args.self.table.shared.key.value)) c.close_with-closed.result.words.items c.close_with-closed.result.slots.items pass.seat.id pass.seat.me.0 c.take-value.result
    q.first (idle_of pass.seat.me.0.stage pass.at_rest q.inside) (pass.joins_told ∙ q.all ∙ sym pass.splits_told) c.close_with-closed.ensures.values.2 c.take-value.ensures.value in
    subst (λ o. IsSome o) (sym t.1) refl

pub returns : goal.returns
returns g c =
    let pass = c.args.pass in
    let q = c.requires in
    let t = value_taken g.V.Standing.caller_of g.V.Standing.history g.V.Standing.start (Some (g.V.Standing.start c.args.self.table.shared.key.value)) c.close_with-closed.result.words.items c.close_with-closed.result.slots.items pass.seat.id pass.seat.me.0 c.take-value.result
    q.first (idle_of pass.seat.me.0.stage pass.at_rest q.inside) (pass.joins_told ∙ q.all ∙ sym pass.splits_told) c.close_with-closed.ensures.values.2 c.take-value.ensures.value in
    let is = same_one c.take-value.result t.0 c.unwrap.result t.1 c.unwrap.ensures in
    let told = subst (λ x. Closes g.V.Standing.caller_of (g.V.Standing.history x) pass.seat.me.0) is t.2 in
    record {
      start = given_by pass.seat.me.0.start pass.started (g.V.Standing.start c.unwrap.result) (subst (λ x. Some (g.V.Standing.start x) ≡ pass.seat.me.0.start) is t.3);
      fits = told.fits;
      apart = told.apart;
      known = subst (λ n. All (λ p. p.caller ≤ n) (pass.seat.me.0.past ∷ pass.seat.me.0.joined)) pass.splits_told told.known;
      nobody = λ caller late. told.nobody caller (subst (λ n. n < caller) (sym pass.splits_told) late);
    }
