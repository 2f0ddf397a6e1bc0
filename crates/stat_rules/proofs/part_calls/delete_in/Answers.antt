use Rattle.std.proofs.Common.{◌≡◌, None, Some, rules, true, if◌then◌else◌}
use Rattle.cat_types.specs.declared.changes.EventKind.TheVariants as kind
use Rattle.cat_types.specs.declared.replies.Reply.TheVariants.{Flag}
use Rattle.part_names.specs.Reading.{vals}
use Rattle.cat_objects.specs.Parts.{at_values}
use Rattle.rulings.specs.Meant.{spells_keys}
use Rattle.stat_rules.specs.Records.{without_stats}
use Rattle.stat_rules.specs.Statistics.{delete_at_values_rules, part_given}
use Rattle.stat_rules.proofs.Passing.{decided_spelled}
use Rattle.stat_rules.proofs.part_calls.delete_in.Goals as goal

pub returns-in-Ok-Some : goal.returns-in-Ok-Some
returns-in-Ok-Some c =
    let is : Some c.in-Ok-Some.values ≡ (if spells_keys c.args.site.now.held.now.rec.keys c.args.called.now then Some (vals c.args.called.now) else None) = search rules in
    decided_spelled c.args.site.now.held.now.rec.keys c.args.called.now c.in-Ok-Some.values
    (λ values. delete_at_values_rules (Some c.args.site.now.held.now) values c.args.col.now)
    (λ values. Some (record { kind = kind.AlterPartition; db = c.args.site.now.db.now; db_born = c.args.site.now.db_born; ops = part_given (at_values values c.args.site.now.held.now.parts) c.args.site.now.name.now c.args.site.now.held.now.born values (without_stats c.args.col.now) }))
    (λ _. Flag true) c.delete_at_values.result is c.delete_at_values.ensures
