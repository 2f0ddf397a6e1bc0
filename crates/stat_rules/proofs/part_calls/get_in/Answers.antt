use Rattle.std.proofs.Common.{None, Some, if◌then◌else◌, rules, ◌≡◌}
use Rattle.part_names.specs.Reading.{vals}
use Rattle.rulings.specs.Meant.{spells_keys}
use Rattle.stat_rules.specs.Statistics.{get_at_values_rules, part_stat_in}
use Rattle.stat_rules.proofs.Passing.{decided_spelled}
use Rattle.stat_rules.proofs.part_calls.get_in.Goals as goal

pub returns-in-Ok-Some : goal.returns-in-Ok-Some
returns-in-Ok-Some c =
    let is : Some c.in-Ok-Some.values ≡ (if spells_keys c.args.held.now.rec.keys c.args.called.now then Some (vals c.args.called.now) else None) = search rules in
    decided_spelled c.args.held.now.rec.keys c.args.called.now c.in-Ok-Some.values (λ values. get_at_values_rules (Some c.args.held.now) values c.args.col.now) (λ _. None)
    (λ values. part_stat_in (Some c.args.held.now) c.args.db.now c.args.name.now values c.args.col.now) c.get_at_values.result is c.get_at_values.ensures
