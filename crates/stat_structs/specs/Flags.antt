-- BooleanColumnStatsData: what its fields say, and how it is written.
use Rattle.std.specs.Prelude.{ℕ, ℤ, pos, List, [], ◌∷◌, Option, Some, ⊤}
use Rattle.cat_values.specs.declared.statistics.StatValue.{StatValue}
use Rattle.cat_values.specs.declared.statistics.StatValue.TheVariants.{Flags, Long, Str}
use Rattle.ms_structs.specs.declared.got.Got.{Got}
use Rattle.ms_structs.specs.declared.got.Got.TheVariants.{Nothing}
use Rattle.ms_structs.specs.Slots.{made_of, slot, struct_of, value_or}
use Rattle.ms_structs.specs.Values.{number_of}
use Rattle.ms_structs.specs.Written.{OwnField, fields_of, given}
use Rattle.stat_structs.specs.declared.flags.FlagFields.{FlagFields}
use Rattle.thrift_binary.specs.Codes.{i64_code}
use Rattle.thrift_binary.specs.Tree.{Wire, Number, Struct, Fields}

-- the slots before the first field: 1 numTrues, 2 numFalses, 3 numNulls
abbrev pub flags_none : FlagFields
flags_none = record { trues = Nothing; falses = Nothing; nulls = Nothing }

-- the slots behind one more field
abbrev pub flags_set : FlagFields → ℕ → ℤ → Wire → FlagFields
flags_set f ty id w = record {
  trues = slot (pos 1) i64_code number_of f.trues ty id w;
  falses = slot (pos 2) i64_code number_of f.falses ty id w;
  nulls = slot (pos 3) i64_code number_of f.nulls ty id w;
}

-- absent numbers are 0
abbrev pub flags_from : FlagFields → StatValue
flags_from f = Flags (value_or (pos 0) f.trues) (value_or (pos 0) f.falses) (value_or (pos 0) f.nulls)

-- what the slots make: there is no text that could be bad
abbrev pub flags_whole : FlagFields → Option StatValue
flags_whole f = Some (flags_from f)

-- the value that these fields make
abbrev pub flags_made : Fields → Option StatValue
flags_made = made_of flags_whole flags_set flags_none

-- the value that a struct says
unfoldable pub flags_of : Wire → Got StatValue
flags_of = struct_of flags_whole flags_set flags_none

-- statistics of flags
abbrev pub IsFlags : StatValue → Type 0
IsFlags (Flags trues falses nulls) = ⊤
IsFlags (Long low high nulls distinct) = ⊥
IsFlags (Str longest average nulls distinct) = ⊥

-- the fields that statistics of flags are written as; a value of another kind has none
abbrev pub flags_written : StatValue → List OwnField
flags_written (Flags trues falses nulls) =
    given (pos 1) i64_code Number trues ∷
    given (pos 2) i64_code Number falses ∷
    given (pos 3) i64_code Number nulls ∷ []
flags_written (Long low high nulls distinct) = []
flags_written (Str longest average nulls distinct) = []

-- the struct that statistics of flags are written as
unfoldable pub flags_tree : StatValue → Wire
flags_tree value = Struct (fields_of (flags_written value))
