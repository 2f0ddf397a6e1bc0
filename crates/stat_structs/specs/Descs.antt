-- ColumnStatisticsDesc: what its fields say, and how it is written.
use Rattle.std.specs.Prelude.{ℕ, ℤ, pos, List, [], ◌∷◌, Option, Bool, false, ◌||◌}
use Rattle.cat_types.specs.declared.arguments.StatsDesc.{StatsDesc}
use Rattle.ms_structs.specs.declared.got.Got.{Got}
use Rattle.ms_structs.specs.declared.got.Got.TheVariants.{Nothing}
use Rattle.ms_structs.specs.Slots.{is_bad, made_of, slot, struct_of, unless_bad, value_of, value_or}
use Rattle.ms_structs.specs.Values.{flag_of, number_of, text_of}
use Rattle.ms_structs.specs.Written.{OwnField, fields_of, given, if_any}
use Rattle.stat_structs.specs.declared.descs.DescFields.{DescFields}
use Rattle.thrift_binary.specs.Codes.{bool_code, i64_code, text_code}
use Rattle.thrift_binary.specs.Tree.{Wire, Bytes, Flag, Number, Struct, Fields}

-- the slots before the first field: 1 isTblLevel, 2 dbName, 3 tableName, 4 partName, 5 lastAnalyzed
abbrev pub desc_none : DescFields
desc_none = record { table_level = Nothing; db = Nothing; table = Nothing; part = Nothing; analyzed = Nothing }

-- the slots behind one more field
abbrev pub desc_set : DescFields → ℕ → ℤ → Wire → DescFields
desc_set f ty id w = record {
  table_level = slot (pos 1) bool_code flag_of f.table_level ty id w;
  db = slot (pos 2) text_code text_of f.db ty id w;
  table = slot (pos 3) text_code text_of f.table ty id w;
  part = slot (pos 4) text_code text_of f.part ty id w;
  analyzed = slot (pos 5) i64_code number_of f.analyzed ty id w;
}

-- whether a text in one of the slots is bad
abbrev pub desc_is_bad : DescFields → Bool
desc_is_bad f = is_bad f.db || (is_bad f.table || is_bad f.part)

-- an absent flag is false; absent names and an absent moment stay absent
abbrev pub desc_whole : DescFields → Option StatsDesc
desc_whole f = unless_bad (desc_is_bad f) (record { table_level = value_or false f.table_level; db = value_of f.db; table = value_of f.table; part = value_of f.part; analyzed = value_of f.analyzed })

-- what these fields make; None: a text that counts isn't UTF-8
abbrev pub desc_made : Fields → Option StatsDesc
desc_made = made_of desc_whole desc_set desc_none

-- what a struct says
unfoldable pub desc_of : Wire → Got StatsDesc
desc_of = struct_of desc_whole desc_set desc_none

-- the fields that are written; what is absent isn't
abbrev pub desc_written : StatsDesc → List OwnField
desc_written desc =
    given (pos 1) bool_code Flag desc.table_level ∷
    if_any (pos 2) text_code Bytes desc.db ∷
    if_any (pos 3) text_code Bytes desc.table ∷
    if_any (pos 4) text_code Bytes desc.part ∷
    if_any (pos 5) i64_code Number desc.analyzed ∷ []

-- the struct that is written
unfoldable pub desc_tree : StatsDesc → Wire
desc_tree desc = Struct (fields_of (desc_written desc))
