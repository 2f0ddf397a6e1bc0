use Rattle.std.proofs.Common.{SFits, ℤ, subst, ◌≡◌, None, Some, rules, true, if◌then◌else◌}
use Rattle.std.proofs.lemmas.Int.{to_z-of_z}
use Rattle.std.specs.Int.{w64}
use Rattle.cat_types.specs.declared.changes.EventKind.TheVariants as kind
use Rattle.cat_types.specs.declared.replies.Reply.TheVariants.{Flag}
use Rattle.part_names.specs.Reading.{vals}
use Rattle.cat_objects.specs.Parts.{at_values}
use Rattle.rulings.specs.Decisions.{Decides, decided_by}
use Rattle.rulings.specs.Meant.{spells_keys}
use Rattle.rulings.specs.Rules.{first_broken}
use Rattle.stat_rules.specs.Records.{put_all}
use Rattle.stat_rules.specs.Statistics.{part_given, put_at_values_rules, unless_empty}
use Rattle.stat_rules.proofs.Passing.{decided_spelled}
use Rattle.stat_rules.proofs.part_calls.put_in.Goals as goal

pub returns-in-Ok-Some : goal.returns-in-Ok-Some
returns-in-Ok-Some c =
    let fits : SFits w64 c.args.at = search rules in
    let is : Some c.in-Ok-Some.values ≡ (if spells_keys c.args.site.now.held.now.rec.keys c.args.called.now then Some (vals c.args.called.now) else None) = search rules in
    decided_spelled c.args.site.now.held.now.rec.keys c.args.called.now c.in-Ok-Some.values
    (λ values. put_at_values_rules (Some c.args.site.now.held.now) values c.args.objects.now)
    (λ values. unless_empty c.args.objects.now (record { kind = kind.AlterPartition; db = c.args.site.now.db.now; db_born = c.args.site.now.db_born; ops = part_given (at_values values c.args.site.now.held.now.parts) c.args.site.now.name.now c.args.site.now.held.now.born values (λ stats. put_all c.args.at stats c.args.objects.now) }))
    (λ _. Flag true) c.put_at_values.result is
    (subst (λ (a : ℤ). Decides (decided_by (first_broken (put_at_values_rules (Some c.args.site.now.held.now) c.in-Ok-Some.values c.args.objects.now)) (unless_empty c.args.objects.now (record { kind = kind.AlterPartition; db = c.args.site.now.db.now; db_born = c.args.site.now.db_born; ops = part_given (at_values c.in-Ok-Some.values c.args.site.now.held.now.parts) c.args.site.now.name.now c.args.site.now.held.now.born c.in-Ok-Some.values (λ stats. put_all a stats c.args.objects.now) })) (Flag true)) c.put_at_values.result) (to_z-of_z w64 c.args.at fits) c.put_at_values.ensures)
