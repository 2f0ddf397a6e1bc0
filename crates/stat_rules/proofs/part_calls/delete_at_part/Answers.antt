use Rattle.std.proofs.Common.{◌≡◌, Some, false, rules}
use Rattle.cat_types.specs.declared.changes.EventKind.TheVariants as kind
use Rattle.part_names.specs.Reading.{vals}
use Rattle.cat_objects.specs.Catalogue.{at_name, database, parts_of}
use Rattle.cat_objects.specs.Parts.{at_values}
use Rattle.rulings.specs.Bars.{is_replica}
use Rattle.rulings.specs.Changes.{table_born}
use Rattle.stat_rules.specs.Records.{without_stats}
use Rattle.stat_rules.specs.Statistics.{delete_in_rules, part_given}
use Rattle.stat_rules.proofs.Passing.{decided_in}
use Rattle.stat_rules.proofs.part_calls.delete_at_part.Goals as goal

pub returns : goal.returns
returns c =
    let there : database c.args.cat.now c.args.db.now ≡ Some c.in-Some.within.now = search rules in
    let free : is_replica c.args.bars.now c.args.db.now ≡ false = search rules in
    let inside : at_name c.args.name.now c.in-Some.within.now.tables ≡ Some c.in-Some-get.held.now = search rules in
    decided_in c.args.cat.now c.args.bars.now c.in-Some.within.now c.in-Some-get.held.now kind.AlterPartition Some c.delete_in.result c.args.db.now c.args.name.now there free inside
    (λ t. delete_in_rules t c.args.called.now c.args.col.now)
    (λ t. part_given (at_values (vals c.args.called.now) (parts_of t)) c.args.name.now (table_born t) (vals c.args.called.now) (without_stats c.args.col.now)) c.delete_in.ensures
