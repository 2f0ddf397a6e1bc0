-- StringColumnStatsData: what its fields say, and how it is written.
use Rattle.std.specs.Prelude.{ℕ, ℤ, pos, List, [], ◌∷◌, Option, Some, ⊤}
use Rattle.cat_values.specs.declared.statistics.StatValue.{StatValue}
use Rattle.cat_values.specs.declared.statistics.StatValue.TheVariants.{Flags, Long, Str}
use Rattle.ms_structs.specs.declared.got.Got.{Got}
use Rattle.ms_structs.specs.declared.got.Got.TheVariants.{Nothing}
use Rattle.ms_structs.specs.Slots.{made_of, slot, struct_of, value_or}
use Rattle.ms_structs.specs.Values.{number_of}
use Rattle.ms_structs.specs.Written.{OwnField, fields_of, given}
use Rattle.stat_structs.specs.declared.strings.StringFields.{StringFields}
use Rattle.stat_structs.specs.Doubles.{eight_of, eight_zeros}
use Rattle.thrift_binary.specs.Codes.{double_code, i64_code}
use Rattle.thrift_binary.specs.Tree.{Wire, Eight, Number, Struct, Fields}

-- the slots before the first field: 1 maxColLen, 2 avgColLen, 3 numNulls, 4 numDVs
abbrev pub string_none : StringFields
string_none = record { longest = Nothing; average = Nothing; nulls = Nothing; distinct = Nothing }

-- the slots behind one more field
abbrev pub string_set : StringFields → ℕ → ℤ → Wire → StringFields
string_set f ty id w = record {
  longest = slot (pos 1) i64_code number_of f.longest ty id w;
  average = slot (pos 2) double_code eight_of f.average ty id w;
  nulls = slot (pos 3) i64_code number_of f.nulls ty id w;
  distinct = slot (pos 4) i64_code number_of f.distinct ty id w;
}

-- absent numbers are 0
abbrev pub string_from : StringFields → StatValue
string_from f = Str (value_or (pos 0) f.longest) (value_or eight_zeros f.average) (value_or (pos 0) f.nulls) (value_or (pos 0) f.distinct)

-- what the slots make: there is no text that could be bad
abbrev pub string_whole : StringFields → Option StatValue
string_whole f = Some (string_from f)

-- the value that these fields make
abbrev pub string_made : Fields → Option StatValue
string_made = made_of string_whole string_set string_none

-- the value that a struct says
unfoldable pub string_of : Wire → Got StatValue
string_of = struct_of string_whole string_set string_none

-- statistics of texts
abbrev pub IsStr : StatValue → Type 0
IsStr (Flags trues falses nulls) = ⊥
IsStr (Long low high nulls distinct) = ⊥
IsStr (Str longest average nulls distinct) = ⊤

-- the fields that statistics of texts are written as; a value of another kind has none
abbrev pub string_written : StatValue → List OwnField
string_written (Flags trues falses nulls) = []
string_written (Long low high nulls distinct) = []
string_written (Str longest average nulls distinct) =
    given (pos 1) i64_code Number longest ∷
    given (pos 2) double_code Eight average ∷
    given (pos 3) i64_code Number nulls ∷
    given (pos 4) i64_code Number distinct ∷ []

-- the struct that statistics of texts are written as
unfoldable pub string_tree : StatValue → Wire
string_tree value = Struct (fields_of (string_written value))
