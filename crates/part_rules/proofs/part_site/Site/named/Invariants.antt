use Rattle.std.proofs.Common.{◌≡◌, ◌++◌, drop}
use Rattle.rulings.specs.Listed.{all_named}
use Rattle.part_rules.proofs.part_site.Site.named.Given as goal

abbrev pub invariant-loop-values : goal.invariant-loop-values
invariant-loop-values l = l.parts ++ all_named l.self.db.now l.self.name.now (drop l.values-index l.news) ≡ all_named l.self.db.now l.self.name.now l.news
