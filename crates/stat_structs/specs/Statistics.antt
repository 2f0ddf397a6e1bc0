-- ColumnStatistics: what its fields say, and how it is written.
use Rattle.std.specs.Prelude.{ℕ, ℤ, pos, List, [], ◌∷◌, Option, Bool, ◌||◌}
use Rattle.cat_types.specs.declared.arguments.StatsArg.{StatsArg}
use Rattle.cat_types.specs.declared.arguments.StatsDesc.{StatsDesc}
use Rattle.cat_types.specs.declared.named.NamedStat.{NamedStat}
use Rattle.ms_structs.specs.declared.got.Got.{Got}
use Rattle.ms_structs.specs.declared.got.Got.TheVariants.{Nothing}
use Rattle.ms_structs.specs.Slots.{is_bad, made_of, slot, struct_of, unless_bad, value_of, value_or}
use Rattle.ms_structs.specs.Values.{items_of}
use Rattle.ms_structs.specs.Written.{OwnField, fields_of, given, items_tree}
use Rattle.stat_structs.specs.declared.statistics.StatisticsFields.{StatisticsFields}
use Rattle.stat_structs.specs.Descs.{desc_of, desc_tree}
use Rattle.stat_structs.specs.Objects.{object_of, object_tree}
use Rattle.thrift_binary.specs.Codes.{list_code, struct_code}
use Rattle.thrift_binary.specs.Tree.{Wire, Struct, Fields}

-- the slots before the first field: 1 statsDesc, 2 statsObj
abbrev pub statistics_none : StatisticsFields
statistics_none = record { desc = Nothing; objects = Nothing }

-- the slots behind one more field
abbrev pub statistics_set : StatisticsFields → ℕ → ℤ → Wire → StatisticsFields
statistics_set f ty id w = record {
  desc = slot (pos 1) struct_code desc_of f.desc ty id w;
  objects = slot (pos 2) list_code (items_of struct_code object_of) f.objects ty id w;
}

-- whether a text in one of the slots is bad
abbrev pub statistics_is_bad : StatisticsFields → Bool
statistics_is_bad f = is_bad f.desc || is_bad f.objects

-- an absent description stays absent, and an absent list is empty
abbrev pub statistics_whole : StatisticsFields → Option StatsArg
statistics_whole f = unless_bad (statistics_is_bad f) (record { desc = value_of f.desc; objects = value_or [] f.objects })

-- what these fields make; None: a text that counts isn't UTF-8
abbrev pub statistics_made : Fields → Option StatsArg
statistics_made = made_of statistics_whole statistics_set statistics_none

-- what a struct says
unfoldable pub statistics_of : Wire → Got StatsArg
statistics_of = struct_of statistics_whole statistics_set statistics_none

-- the fields that statistics are written as
abbrev pub statistics_written : StatsDesc → List NamedStat → List OwnField
statistics_written desc stats =
    given (pos 1) struct_code desc_tree desc ∷
    given (pos 2) list_code (items_tree struct_code object_tree) stats ∷ []

-- the struct that statistics are written as
unfoldable pub statistics_tree : StatsDesc → List NamedStat → Wire
statistics_tree desc stats = Struct (fields_of (statistics_written desc stats))
