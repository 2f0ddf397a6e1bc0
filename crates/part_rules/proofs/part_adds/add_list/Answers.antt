use Rattle.std.proofs.Common.{◌≡◌, Some, false, rules}
use Rattle.cat_objects.specs.Catalogue.{at_name, database}
use Rattle.cat_values.specs.Names.{lower}
use Rattle.rulings.specs.Bars.{is_replica}
use Rattle.part_rules.proofs.AddingHere.{added_here}
use Rattle.part_rules.proofs.part_adds.add_list.Goals as goal

pub returns : goal.returns
returns c =
    let db : c.as_text-4.result.now ≡ lower c.in-Some.db = search rules in
    let name : c.as_text-5.result.now ≡ lower c.in-Some-name.name = search rules in
    let there : database c.args.cat.now (lower c.in-Some.db) ≡ Some c.in-Some-held_database.within.now = search rules in
    let free : is_replica c.args.bars.now (lower c.in-Some.db) ≡ false = search rules in
    let inside : at_name (lower c.in-Some-name.name) c.in-Some-held_database.within.now.tables ≡ Some c.in-Some-get.held.now = search rules in
    added_here c.args.terms.needs_names c.args.terms.passes c.args.terms.told c.args.cat.now c.args.bars.now c.args.db.now c.args.name.now c.in-Some.db c.in-Some-name.name c.as_text-4.result.now c.as_text-5.result.now c.args.parts.now c.args.moment
    c.in-Some-held_database.within.now c.in-Some-get.held.now c.add_all.result c.in-Some.is c.in-Some-name.is db name there free inside c.add_all.ensures
