-- Statistics of columns with what they are: the order of fields is free, and what is written reads back.
use Rattle.std.proofs.Common.{◌≡◌, pos, List, map, refl, sym, ap, ◌∙◌}
use Rattle.std.specs.List.{AllByRecursion}
use Rattle.cat_types.specs.declared.arguments.StatsDesc.{StatsDesc}
use Rattle.cat_types.specs.declared.named.NamedStat.{NamedStat}
use Rattle.thrift_binary.specs.Codes.{list_code, struct_code}
use Rattle.thrift_binary.specs.Tree.{Fields}
use Rattle.ms_structs.specs.declared.got.Got.TheVariants.{Is}
use Rattle.ms_structs.specs.Laws.{OrderIsFree}
use Rattle.ms_structs.specs.Slots.{said, said_or_bad}
use Rattle.ms_structs.specs.Values.{items_of}
use Rattle.ms_structs.specs.Written.{fields_of, items_tree}
use Rattle.ms_structs.proofs.OwnFields.{said_told}
use Rattle.ms_structs.proofs.Said.{said_same, slot_is}
use Rattle.stat_structs.specs.declared.statistics.StatisticsFields.{StatisticsFields}
use Rattle.stat_structs.specs.Descs.{desc_of}
use Rattle.stat_structs.specs.Kept.{IsKeptDesc, IsKeptStat}
use Rattle.stat_structs.specs.Laws.{ResultsReadBack, StatisticsReadBack}
use Rattle.stat_structs.specs.Objects.{handed_in_stat, object_of, object_tree}
use Rattle.stat_structs.specs.Requests.{result_written, statistics_result}
use Rattle.stat_structs.specs.Statistics.{statistics_made, statistics_none, statistics_of, statistics_set, statistics_tree, statistics_whole, statistics_written}
use Rattle.stat_structs.proofs.DescLaws.{descs_read_back}
use Rattle.stat_structs.proofs.ListsRead.{items_read_as}
use Rattle.stat_structs.proofs.ObjectLaws.{objects_read_back}

-- what fields make, by what they say under each id
statistics_by : (v : Fields) (f : StatisticsFields)
    → said (pos 1) struct_code desc_of v ≡ f.desc
    → said (pos 2) list_code (items_of struct_code object_of) v ≡ f.objects
    → statistics_made v ≡ statistics_whole f
statistics_by v f desc objects =
    let desc = slot_is statistics_set statistics_none v (λ g. g.desc) (pos 1) struct_code desc_of (λ g ty id w. refl) refl desc in
    let objects = slot_is statistics_set statistics_none v (λ g. g.objects) (pos 2) list_code (items_of struct_code object_of) (λ g ty id w. refl) refl objects in
    λ i. statistics_whole (record { desc = desc i; objects = objects i })

abbrev said_slots : Fields → StatisticsFields
said_slots v = record {
  desc = said (pos 1) struct_code desc_of v;
  objects = said (pos 2) list_code (items_of struct_code object_of) v;
}

pub statistics_order : OrderIsFree statistics_of
unfolding statistics_of
statistics_order v v' same = ap said_or_bad (
    statistics_by v (said_slots v')
    (said_same (pos 1) struct_code desc_of v v' same)
    (said_same (pos 2) list_code (items_of struct_code object_of) v v' same)
    ∙ sym (statistics_by v' (said_slots v') refl refl)
    )

objects_read : (stats : List NamedStat) → AllByRecursion IsKeptStat stats → items_of struct_code object_of (items_tree struct_code object_tree stats) ≡ Is (map handed_in_stat stats)
objects_read = items_read_as struct_code object_of object_tree handed_in_stat IsKeptStat objects_read_back

-- the slots behind the own fields
abbrev own_slots : StatsDesc → List NamedStat → StatisticsFields
own_slots desc stats = record { desc = Is desc; objects = Is (map handed_in_stat stats) }

own_said : (desc : StatsDesc) (stats : List NamedStat) → IsKeptDesc desc → AllByRecursion IsKeptStat stats → statistics_made (fields_of (statistics_written desc stats)) ≡ statistics_whole (own_slots desc stats)
own_said desc stats kept all =
    let own = statistics_written desc stats in
    statistics_by (fields_of own) (own_slots desc stats)
    (said_told (pos 1) struct_code desc_of own refl ∙ descs_read_back desc kept)
    (said_told (pos 2) list_code (items_of struct_code object_of) own refl ∙ objects_read stats all)

pub statistics_read_back : StatisticsReadBack
unfolding statistics_of statistics_tree
statistics_read_back desc stats kept all = ap said_or_bad (own_said desc stats kept all)

pub results_read_back : ResultsReadBack
unfolding statistics_result
results_read_back stats all = said_told (pos 1) list_code (items_of struct_code object_of) (result_written stats) refl ∙ objects_read stats all
