use Rattle.std.proofs.Common.{List, SFits, Some, false, rules, subst, true, ◌≡◌, ℕ, ℤ}
use Rattle.std.proofs.lemmas.Int.{to_z-of_z}
use Rattle.std.specs.Int.{w64}
use Rattle.cat_types.specs.declared.changes.EventKind.TheVariants as kind
use Rattle.cat_types.specs.declared.replies.Reply.TheVariants.{Flag}
use Rattle.cat_values.specs.Names.{lower}
use Rattle.part_names.specs.Reading.{vals}
use Rattle.cat_objects.specs.Catalogue.{at_name, database, parts_of}
use Rattle.cat_objects.specs.Parts.{at_values}
use Rattle.rulings.specs.Bars.{is_replica}
use Rattle.rulings.specs.Decisions.{Decides, decided_by}
use Rattle.rulings.specs.Rules.{first_broken}
use Rattle.rulings.specs.Changes.{table_born}
use Rattle.stat_rules.specs.Records.{put_all}
use Rattle.stat_rules.specs.Statistics.{part_given, put_in_rules, unless_empty}
use Rattle.stat_rules.proofs.Passing.{decided_named}
use Rattle.stat_rules.proofs.part_calls.put_at_part.Goals as goal

pub returns : goal.returns
returns c =
    let fits : SFits w64 c.args.at = search rules in
    let db : c.as_text-4.result.now ≡ lower c.in-Some.db = search rules in
    let name : c.as_text-5.result.now ≡ lower c.in-Some-name.name = search rules in
    let there : database c.args.cat.now (lower c.in-Some.db) ≡ Some c.in-Some-held_database.within.now = search rules in
    let free : is_replica c.args.bars.now (lower c.in-Some.db) ≡ false = search rules in
    let key : c.as_text-3.result.now ≡ lower c.in-Some-name.name = search rules in
    let got : at_name c.as_text-3.result.now c.in-Some-held_database.within.now.tables ≡ Some c.in-Some-get.held.now = search rules in
    let inside : at_name (lower c.in-Some-name.name) c.in-Some-held_database.within.now.tables ≡ Some c.in-Some-get.held.now =
    subst (λ (n : List ℕ). at_name n c.in-Some-held_database.within.now.tables ≡ Some c.in-Some-get.held.now) key got in
    decided_named c.args.cat.now c.args.bars.now c.in-Some-held_database.within.now c.in-Some-get.held.now kind.AlterPartition (unless_empty c.args.objects.now) c.put_in.result
    c.args.db.now c.args.name.now c.in-Some.db c.in-Some-name.name c.as_text-4.result.now c.as_text-5.result.now c.in-Some.is c.in-Some-name.is db name there free inside
    (λ n t. put_in_rules t c.args.called.now c.args.objects.now)
    (λ n t. part_given (at_values (vals c.args.called.now) (parts_of t)) n (table_born t) (vals c.args.called.now) (λ stats. put_all c.args.at stats c.args.objects.now))
    (subst (λ (a : ℤ). Decides (decided_by (first_broken (put_in_rules (Some c.in-Some-get.held.now) c.args.called.now c.args.objects.now)) (unless_empty c.args.objects.now (record { kind = kind.AlterPartition; db = c.as_text-4.result.now; db_born = c.in-Some-held_database.within.now.born; ops = part_given (at_values (vals c.args.called.now) c.in-Some-get.held.now.parts) c.as_text-5.result.now c.in-Some-get.held.now.born (vals c.args.called.now) (λ stats. put_all a stats c.args.objects.now) })) (Flag true)) c.put_in.result) (to_z-of_z w64 c.args.at fits) c.put_in.ensures)
