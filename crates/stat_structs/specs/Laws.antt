-- What holds of every struct of this crate.
use Rattle.std.specs.Prelude.{◌≡◌, ◌≢◌, ◌⊎◌, ℕ, ℤ, pos, List, map, Option, Some, None, ⊤}
use Rattle.std.specs.List.{AllByRecursion}
use Rattle.cat_types.specs.declared.arguments.StatArg.{StatArg}
use Rattle.cat_types.specs.declared.arguments.StatsDesc.{StatsDesc}
use Rattle.cat_types.specs.declared.named.NamedStat.{NamedStat}
use Rattle.cat_values.specs.declared.statistics.StatValue.{StatValue}
use Rattle.ms_structs.specs.declared.got.Got.{Got}
use Rattle.ms_structs.specs.declared.got.Got.TheVariants.{Nothing, Is}
use Rattle.ms_structs.specs.Slots.{said}
use Rattle.ms_structs.specs.Values.{items_of}
use Rattle.stat_structs.specs.Kept.{IsKeptDesc, IsKeptStat}
use Rattle.stat_structs.specs.Members.{member_of, member_tree}
use Rattle.stat_structs.specs.Objects.{handed_in_stat, object_of, object_tree}
use Rattle.stat_structs.specs.Requests.{statistics_result}
use Rattle.stat_structs.specs.Statistics.{statistics_of, statistics_tree}
use Rattle.thrift_binary.specs.Building.{followed}
use Rattle.thrift_binary.specs.Codes.{list_code, struct_code}
use Rattle.thrift_binary.specs.Tree.{Wire, Struct, Fields, NoFields, Field}

-- ---- what is written is read

-- each value of which this holds reads back from its tree as it was
abbrev pub ReadsBack : {A : Type 0} → (A → Type 0) → (Wire → Got A) → (A → Wire) → Type 0
ReadsBack {A} Holds means tree = (value : A) → Holds value → means (tree value) ≡ Is value

-- so does each value as the one member of its kind
abbrev pub MembersReadBack : Type 0
MembersReadBack = (value : StatValue) → member_of (member_tree value) ≡ Is (Some value)

-- and a column's statistics, as they are handed in
abbrev pub ObjectsReadBack : Type 0
ObjectsReadBack = (stat : NamedStat) → IsKeptStat stat → object_of (object_tree stat) ≡ Is (handed_in_stat stat)

-- and statistics with what they are, each column's as they are handed in, in their order
abbrev pub StatisticsReadBack : Type 0
StatisticsReadBack = (desc : StatsDesc) (stats : List NamedStat) → IsKeptDesc desc → AllByRecursion IsKeptStat stats
    → statistics_of (statistics_tree desc stats) ≡ Is (record { desc = Some desc; objects = map handed_in_stat stats })

-- the statistics that an answer tells to whoever reads its field 1 as a list of them
abbrev pub stats_told : Wire → Got (List StatArg)
stats_told (Struct v) = said (pos 1) list_code (items_of struct_code object_of) v
stats_told w = Nothing

-- and the statistics that answer a request, each column's as they are handed in, in their order
abbrev pub ResultsReadBack : Type 0
ResultsReadBack = (stats : List NamedStat) → AllByRecursion IsKeptStat stats → stats_told (statistics_result stats) ≡ Is (map handed_in_stat stats)

-- ---- the last member counts

-- a field that is no member: it isn't a struct, or its id is none of 1, 2 and 4
abbrev pub IsOther : ℕ → ℤ → Type 0
IsOther ty id = (ty ≢ struct_code) ⊎ ((id ≢ pos 1) × (id ≢ pos 2) × (id ≢ pos 4))

-- none of these fields is a member
abbrev pub AreOthers : Fields → Type 0
AreOthers NoFields = ⊤
AreOthers (Field ty id w v) = IsOther ty id × AreOthers v

-- a struct with this member's id counts where no member comes after it, whatever comes before it
abbrev pub LastCounts : ℤ → (Fields → Option StatValue) → Type 0
LastCounts id made = (before member after : Fields) → AreOthers after → member_of (Struct (followed before (Field struct_code id (Struct member) after))) ≡ Is (made member)

-- where no field is a member there is no value
abbrev pub NoMemberNoValue : Type 0
NoMemberNoValue = (v : Fields) → AreOthers v → member_of (Struct v) ≡ Is None
