use Rattle.std.proofs.Common.{◌≡◌, ◌∷◌, ◌∙◌, Some, Err, suc, drop, ap, sym}
use Rattle.std.proofs.lemmas.Result.{err_from_is_err_and}
use Rattle.part_rules.specs.PartChanges.{each_altered_rules, values_of}
use Rattle.rulings.specs.Rules.{first_broken}
use Rattle.rulings.specs.declared.barred.Barred.TheVariants.{Refused}
use Rattle.part_rules.proofs.Adding.{first_left}
use Rattle.part_rules.proofs.part_changes.alter_all.Goals as goal

pub returns-in_err-alter_one-clause-err : goal.returns-in_err-alter_one-clause-err
returns-in_err-alter_one-clause-err c = λ refusal told.
    let p = err_from_is_err_and c.from_residual.result c.from_residual.ensures.1 in
    let left : drop c.loop-new.new-index c.args.parts.now ≡ c.new-item.result ∷ drop (suc c.loop-new.new-index) c.args.parts.now =
    first_left c.as_slice-new-items.result.now c.args.parts.now c.loop-new.new-index c.new-item.result c.as_slice-new-items.ensures.items c.loop-new-test.true c.new-item.is in
    let kept : c.alter_one.result ≡ Err (Refused refusal) = cc in
    sym c.loop-new.invariant.rules ∙ ap (λ ps. first_broken (each_altered_rules (Some c.args.held.now) (values_of c.loop-new.news) ps)) left ∙ c.alter_one.ensures.err refusal kept (drop (suc c.loop-new.new-index) c.args.parts.now)
