use Rattle.std.proofs.Common.{◌≡◌, ◌∷◌, ◌∙◌, Some, Err, suc, drop, ap, sym, refl}
use Rattle.std.proofs.lemmas.Result.{err_from_is_err_and}
use Rattle.part_rules.specs.PartChanges.{each_added_rules, values_of}
use Rattle.rulings.specs.Rules.{first_broken}
use Rattle.rulings.specs.declared.barred.Barred.TheVariants.{Refused}
use Rattle.part_rules.proofs.Adding.{first_left}
use Rattle.part_rules.proofs.part_site.Site.gather.Goals as goal

pub returns-in_err-add-clause-err : goal.returns-in_err-add-clause-err
returns-in_err-add-clause-err c = λ refusal told.
    let p = err_from_is_err_and c.from_residual.result c.from_residual.ensures.1 in
    let left : drop c.loop-new.new-index c.args.parts.now ≡ c.new-item.result ∷ drop (suc c.loop-new.new-index) c.args.parts.now =
    first_left c.args.parts.now c.args.parts.now c.loop-new.new-index c.new-item.result refl c.loop-new-test.true c.new-item.is in
    let kept : c.add.result ≡ Err (Refused refusal) = cc in
    sym c.loop-new.invariant.rules
    ∙ ap (λ ps. first_broken (each_added_rules c.args.terms.needs_names c.args.terms.passes (Some c.args.self.now.held.now) c.args.self.now.db.now c.args.self.now.name.now (values_of c.loop-new.news) ps)) left
    ∙ c.add.ensures.err refusal kept (drop (suc c.loop-new.new-index) c.args.parts.now)
