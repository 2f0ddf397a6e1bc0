use Rattle.std.proofs.Common.{◌≡◌, ◌∙◌, Some, rules, ap}
use Rattle.part_rules.specs.PartChanges.{one_added_rules, values_of}
use Rattle.rulings.specs.Rules.{first_broken}
use Rattle.rulings.specs.declared.refusal.Refusal.{Refusal}
use Rattle.part_rules.proofs.Adding.{add_refused}
use Rattle.part_rules.proofs.part_site.Site.add.Goals as goal

pub returns-in-Some-clause-err : goal.returns-in-Some-clause-err
returns-in-Some-clause-err c = λ refusal told more.
    let is : Some c.in-Some.refusal ≡ first_broken (one_added_rules c.args.terms.needs_names c.args.terms.passes (Some c.args.self.now.held.now) c.args.self.now.db.now c.args.self.now.name.now (values_of c.args.news.now) c.args.new.now) = search rules in
    let same : c.in-Some.refusal ≡ refusal = cc in
    add_refused c.args.terms.needs_names c.args.terms.passes (Some c.args.self.now.held.now) c.args.self.now.db.now c.args.self.now.name.now c.args.news.now c.args.new.now c.in-Some.refusal more is
    ∙ ap (λ (r : Refusal). Some r) same
