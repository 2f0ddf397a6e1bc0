use Rattle.std.proofs.Common.{◌≡◌, true, false, Option, Some, rules, ap, ◌∙◌}
use Rattle.cat_objects.specs.Catalogue.{at_name, database, table, tables_of}
use Rattle.rulings.specs.Names.{is_named, kept_name, names_another}
use Rattle.rulings.specs.Bars.{is_replica}
use Rattle.cat_objects.specs.declared.held.HeldDb.{HeldDb}
use Rattle.table_rules.proofs.DecidingTables.{table_is_altered}
use Rattle.table_rules.proofs.table_changes.alter_named.Goals as goal

pub returns-in-Ok-Some : goal.returns-in-Ok-Some
returns-in-Ok-Some c =
    let there : database c.args.cat.now c.args.db.now ≡ Some c.in-Some.held.now = search rules in
    let free : is_replica c.args.bars.now c.args.db.now ≡ false = search rules in
    let held : at_name c.args.name.now c.in-Some.held.now.tables ≡ Some c.in-Some-get.old.now = search rules in
    let found : table c.args.cat.now c.args.db.now c.args.name.now ≡ Some c.in-Some-get.old.now = ap (λ (o : Option HeldDb). at_name c.args.name.now (tables_of o)) there ∙ held in
    let another : names_another c.args.new.now.db c.args.db.now ≡ false = search rules in
    let named : is_named c.args.new.now.table ≡ true = search rules in
    let sd : c.args.new.now.has_sd ≡ true = search rules in
    let to : c.as_text.result.now ≡ kept_name c.args.new.now.table = search rules in
    table_is_altered c.args.cat.now c.args.bars.now c.args.db.now c.args.name.now c.args.new.now c.args.moment c.in-Some.held.now c.in-Some-get.old.now c.as_text.result.now c.in-Ok-Some.change
    there free found another named sd to (rw c.in-Ok-Some.field-0-is at c.in-Ok-Some.ensures)
