use Rattle.std.proofs.Common.{◌≡◌, List, Some, true, false, rules, subst}
use Rattle.std.specs.Prelude.{slice_get}
use Rattle.cat_types.specs.declared.arguments.PartArg.{PartArg}
use Rattle.rulings.specs.Decisions.{Decides, decided_by}
use Rattle.part_rules.specs.PartChanges.{add_list_rules, list_change, list_told}
use Rattle.rulings.specs.Rules.{first_broken}
use Rattle.part_rules.specs.declared.part_adds.Told.TheVariants as told
use Rattle.part_rules.proofs.AddingHere.{added_by_first}
use Rattle.part_rules.proofs.part_adds.add_partitions.Goals as goal

pub returns : goal.returns
returns c =
    let is : slice_get c.args.parts.now 0 ≡ Some c.in-Some.first.now = search rules in
    added_by_first c.args.cat.now c.args.bars.now c.args.parts.now c.in-Some.first.now c.args.moment c.add_list.result is
    (subst (λ (ps : List PartArg). Decides (decided_by (first_broken (add_list_rules true false c.args.cat.now c.args.bars.now c.in-Some.first.now.db c.in-Some.first.now.table ps)) (list_change c.args.cat.now c.in-Some.first.now.db c.in-Some.first.now.table ps c.args.moment) (list_told told.Count c.args.cat.now c.in-Some.first.now.db c.in-Some.first.now.table ps c.args.moment)) c.add_list.result)
    c.as_slice.ensures.items c.add_list.ensures)
