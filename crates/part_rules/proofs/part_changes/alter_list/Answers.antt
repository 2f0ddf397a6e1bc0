use Rattle.std.proofs.Common.{◌≡◌, Some, Err, false, rules, subst}
use Rattle.cat_objects.specs.Catalogue.{at_name, database}
use Rattle.rulings.specs.Bars.{is_replica}
use Rattle.rulings.specs.Decisions.{Decides, refused}
use Rattle.rulings.specs.declared.barred.Barred.TheVariants.{Refused}
use Rattle.rulings.specs.declared.refusal.Refusal.{Refusal}
use Rattle.part_rules.proofs.Renaming.{list_barred}
use Rattle.part_rules.proofs.part_changes.alter_list.Goals as goal

pub returns-in-Err-Refused : goal.returns-in-Err-Refused
returns-in-Err-Refused c =
    let there : database c.args.cat.now c.args.db.now ≡ Some c.in-Some.within.now = search rules in
    let free : is_replica c.args.bars.now c.args.db.now ≡ false = search rules in
    let inside : at_name c.args.name.now c.in-Some.within.now.tables ≡ Some c.in-Some-get.held.now = search rules in
    let is : c.alter_all.result ≡ Err (Refused c.in-Err-Refused.refusal) = cc in
    list_barred c.args.cat.now c.args.bars.now c.args.db.now c.args.name.now c.in-Some.within.now c.in-Some-get.held.now there free inside c.args.parts.now c.args.moment c.in-Err-Refused.refusal c.refused-in-Err-Refused.result
    (c.alter_all.ensures.err c.in-Err-Refused.refusal is) (subst (λ (r : Refusal). Decides (refused r) c.refused-in-Err-Refused.result) c.in-Err-Refused.refusal-is c.refused-in-Err-Refused.ensures)
