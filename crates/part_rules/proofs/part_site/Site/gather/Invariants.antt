use Rattle.std.proofs.Common.{◌≡◌, ◌++◌, [], Some, drop}
use Rattle.part_rules.specs.PartChanges.{added, each_added_rules, values_of}
use Rattle.rulings.specs.Rules.{first_broken}
use Rattle.part_rules.proofs.part_site.Site.gather.Given as goal

abbrev pub invariant-loop-new : goal.invariant-loop-new
invariant-loop-new l = record {
  rules : first_broken (each_added_rules l.terms.needs_names l.terms.passes (Some l.self.held.now) l.self.db.now l.self.name.now (values_of l.news) (drop l.new-index l.parts))
      ≡ first_broken (each_added_rules l.terms.needs_names l.terms.passes (Some l.self.held.now) l.self.db.now l.self.name.now [] l.parts);
  parts : l.news ++ added (Some l.self.held.now) (values_of l.news) (drop l.new-index l.parts) l.moment ≡ added (Some l.self.held.now) [] l.parts l.moment;
}
