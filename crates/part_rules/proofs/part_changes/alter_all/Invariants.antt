use Rattle.std.proofs.Common.{◌≡◌, ◌++◌, [], Some, drop}
use Rattle.part_rules.specs.PartChanges.{all_altered, each_altered_rules, values_of}
use Rattle.rulings.specs.Rules.{first_broken}
use Rattle.part_rules.proofs.part_changes.alter_all.Given as goal

abbrev pub invariant-loop-new : goal.invariant-loop-new
invariant-loop-new l = record {
  rules : first_broken (each_altered_rules (Some l.held) (values_of l.news) (drop l.new-index l.parts)) ≡ first_broken (each_altered_rules (Some l.held) [] l.parts);
  parts : l.news ++ all_altered (Some l.held) (drop l.new-index l.parts) l.moment ≡ all_altered (Some l.held) l.parts l.moment;
}
