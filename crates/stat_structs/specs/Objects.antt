-- ColumnStatisticsObj: what its fields say, and how it is written.
use Rattle.std.specs.Prelude.{ℕ, ℤ, pos, List, [], ◌∷◌, Option, Some, None, Bool, ◌||◌}
use Rattle.cat_types.specs.declared.arguments.StatArg.{StatArg}
use Rattle.cat_types.specs.declared.named.NamedStat.{NamedStat}
use Rattle.ms_structs.specs.declared.got.Got.{Got}
use Rattle.ms_structs.specs.declared.got.Got.TheVariants.{Nothing}
use Rattle.ms_structs.specs.Slots.{is_bad, made_of, slot, struct_of, unless_bad, value_of, value_or}
use Rattle.ms_structs.specs.Values.{text_of}
use Rattle.ms_structs.specs.Written.{OwnField, fields_of, given}
use Rattle.stat_structs.specs.declared.objects.ObjectFields.{ObjectFields}
use Rattle.stat_structs.specs.Members.{member_of, member_tree}
use Rattle.thrift_binary.specs.Codes.{struct_code, text_code}
use Rattle.thrift_binary.specs.Tree.{Wire, Bytes, Struct, Fields}

-- the slots before the first field: 1 colName, 2 colType, 3 statsData
abbrev pub object_none : ObjectFields
object_none = record { col = Nothing; ty = Nothing; value = Nothing }

-- the slots behind one more field
abbrev pub object_set : ObjectFields → ℕ → ℤ → Wire → ObjectFields
object_set f ty id w = record {
  col = slot (pos 1) text_code text_of f.col ty id w;
  ty = slot (pos 2) text_code text_of f.ty ty id w;
  value = slot (pos 3) struct_code member_of f.value ty id w;
}

-- whether a text in one of the slots is bad
abbrev pub object_is_bad : ObjectFields → Bool
object_is_bad f = is_bad f.col || is_bad f.ty

-- an absent name stays absent, and so does a value of no known kind; of the type nothing is kept
abbrev pub object_whole : ObjectFields → Option StatArg
object_whole f = unless_bad (object_is_bad f) (record { col = value_of f.col; value = value_or None f.value })

-- what these fields make; None: a text that counts isn't UTF-8
abbrev pub object_made : Fields → Option StatArg
object_made = made_of object_whole object_set object_none

-- what a struct says
unfoldable pub object_of : Wire → Got StatArg
object_of = struct_of object_whole object_set object_none

-- the fields that a column's statistics are written as
abbrev pub object_written : NamedStat → List OwnField
object_written stat =
    given (pos 1) text_code Bytes stat.col ∷
    given (pos 2) text_code Bytes stat.ty ∷
    given (pos 3) struct_code member_tree stat.rec.value ∷ []

-- the struct that a column's statistics are written as
unfoldable pub object_tree : NamedStat → Wire
object_tree stat = Struct (fields_of (object_written stat))

-- a column's statistics as whoever reads them would hand them in: of their type and moment nothing is kept
abbrev pub handed_in_stat : NamedStat → StatArg
handed_in_stat stat = record { col = Some stat.col; value = Some stat.rec.value }
