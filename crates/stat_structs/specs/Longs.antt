-- LongColumnStatsData: what its fields say, and how it is written.
use Rattle.std.specs.Prelude.{ℕ, ℤ, pos, List, [], ◌∷◌, Option, Some, ⊤}
use Rattle.cat_values.specs.declared.statistics.StatValue.{StatValue}
use Rattle.cat_values.specs.declared.statistics.StatValue.TheVariants.{Flags, Long, Str}
use Rattle.ms_structs.specs.declared.got.Got.{Got}
use Rattle.ms_structs.specs.declared.got.Got.TheVariants.{Nothing}
use Rattle.ms_structs.specs.Slots.{made_of, slot, struct_of, value_of, value_or}
use Rattle.ms_structs.specs.Values.{number_of}
use Rattle.ms_structs.specs.Written.{OwnField, fields_of, given, if_any}
use Rattle.stat_structs.specs.declared.longs.LongFields.{LongFields}
use Rattle.thrift_binary.specs.Codes.{i64_code}
use Rattle.thrift_binary.specs.Tree.{Wire, Number, Struct, Fields}

-- the slots before the first field: 1 lowValue, 2 highValue, 3 numNulls, 4 numDVs
abbrev pub long_none : LongFields
long_none = record { low = Nothing; high = Nothing; nulls = Nothing; distinct = Nothing }

-- the slots behind one more field
abbrev pub long_set : LongFields → ℕ → ℤ → Wire → LongFields
long_set f ty id w = record {
  low = slot (pos 1) i64_code number_of f.low ty id w;
  high = slot (pos 2) i64_code number_of f.high ty id w;
  nulls = slot (pos 3) i64_code number_of f.nulls ty id w;
  distinct = slot (pos 4) i64_code number_of f.distinct ty id w;
}

-- an absent lowest or highest value stays absent, absent counts are 0
abbrev pub long_from : LongFields → StatValue
long_from f = Long (value_of f.low) (value_of f.high) (value_or (pos 0) f.nulls) (value_or (pos 0) f.distinct)

-- what the slots make: there is no text that could be bad
abbrev pub long_whole : LongFields → Option StatValue
long_whole f = Some (long_from f)

-- the value that these fields make
abbrev pub long_made : Fields → Option StatValue
long_made = made_of long_whole long_set long_none

-- the value that a struct says
unfoldable pub long_of : Wire → Got StatValue
long_of = struct_of long_whole long_set long_none

-- statistics of whole numbers
abbrev pub IsLong : StatValue → Type 0
IsLong (Flags trues falses nulls) = ⊥
IsLong (Long low high nulls distinct) = ⊤
IsLong (Str longest average nulls distinct) = ⊥

-- the fields that statistics of whole numbers are written as; a value of another kind has none
abbrev pub long_written : StatValue → List OwnField
long_written (Flags trues falses nulls) = []
long_written (Long low high nulls distinct) =
    if_any (pos 1) i64_code Number low ∷
    if_any (pos 2) i64_code Number high ∷
    given (pos 3) i64_code Number nulls ∷
    given (pos 4) i64_code Number distinct ∷ []
long_written (Str longest average nulls distinct) = []

-- the struct that statistics of whole numbers are written as
unfoldable pub long_tree : StatValue → Wire
long_tree value = Struct (fields_of (long_written value))
