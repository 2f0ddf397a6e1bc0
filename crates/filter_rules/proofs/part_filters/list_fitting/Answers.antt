use Rattle.std.proofs.Common.{SFits, ◌≡◌, ◌∙◌, true, false, length, rules, sym}
use Rattle.std.proofs.lemmas.Int.{to_z-of_z}
use Rattle.std.specs.Int.{w16}
use Rattle.filter_expr.specs.Truth.{holds}
use Rattle.filter_rules.proofs.Fitting.{told_fitting}
use Rattle.rulings.specs.Listed.{has_reached}
use Rattle.filter_rules.proofs.part_filters.list_fitting.Goals as goal

pub loop-values-preserved-in-Continue-1 : goal.loop-values-preserved-in-Continue-1
loop-values-preserved-in-Continue-1 c = λ tree stands.
    let fits : SFits w16 c.args.max = search rules in
    let not_yet : has_reached c.args.max (length c.loop-values.told) ≡ false = search rules in
    let passes : holds tree c.in-Some.values.now ≡ true = sym (c.holds.ensures tree stands) ∙ c.if-holds.true in
    told_fitting c.args.db.now c.args.name.now tree c.args.max _ c.loop-values.told c.push_part.new.parts _ c.in-Some.values.now c.in-Some.rec.now c.loop-values.values-iterator c.next.new.self
    (to_z-of_z w16 c.args.max fits) (c.loop-values.invariant tree stands) c.in-Some.ensures.steps not_yet passes c.in_ok-push_part.ensures
