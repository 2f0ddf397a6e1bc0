-- ColumnStatisticsData: what its members say, and how it is written.
use Rattle.std.specs.Prelude.{ℕ, ℤ, pos, [], ◌∷◌, Option, Some, if◌then◌else◌}
use Rattle.std.specs.Ordering.{int_eq}
use Rattle.cat_values.specs.declared.statistics.StatValue.{StatValue}
use Rattle.cat_values.specs.declared.statistics.StatValue.TheVariants.{Flags, Long, Str}
use Rattle.ms_structs.specs.declared.got.Got.{Got}
use Rattle.ms_structs.specs.declared.got.Got.TheVariants.{Nothing}
use Rattle.ms_structs.specs.Slots.{made_of, over, struct_of, typed, value_of}
use Rattle.ms_structs.specs.Written.{OwnField, fields_of, given}
use Rattle.stat_structs.specs.declared.members.MemberFields.{MemberFields}
use Rattle.stat_structs.specs.Flags.{flags_of, flags_tree}
use Rattle.stat_structs.specs.Longs.{long_of, long_tree}
use Rattle.stat_structs.specs.Strings.{string_of, string_tree}
use Rattle.thrift_binary.specs.Codes.{struct_code}
use Rattle.thrift_binary.specs.Tree.{Wire, Struct, Fields}

-- what one field says as a member: 1 boolean, 2 long, 4 string
abbrev pub member_said : ℕ → ℤ → Wire → Got StatValue
member_said ty id w =
    if int_eq id (pos 1) then typed struct_code flags_of ty w
    else (if int_eq id (pos 2) then typed struct_code long_of ty w
    else (if int_eq id (pos 4) then typed struct_code string_of ty w else Nothing))

-- the slot before the first field, which all members share
abbrev pub member_none : MemberFields
member_none = record { value = Nothing }

-- the slot behind one more field: a member goes over the one before it, whatever kinds they are
abbrev pub member_set : MemberFields → ℕ → ℤ → Wire → MemberFields
member_set f ty id w = record { value = over (member_said ty id w) f.value }

-- what the slot makes: no value where there was no member; there is no text that could be bad
abbrev pub member_whole : MemberFields → Option (Option StatValue)
member_whole f = Some (value_of f.value)

-- the value that these fields make, if any
abbrev pub member_made : Fields → Option (Option StatValue)
member_made = made_of member_whole member_set member_none

-- the value that a struct says, if any
unfoldable pub member_of : Wire → Got (Option StatValue)
member_of = struct_of member_whole member_set member_none

-- the one member that a value is written as
abbrev pub member_written : StatValue → OwnField
member_written (Flags trues falses nulls) = given (pos 1) struct_code flags_tree (Flags trues falses nulls)
member_written (Long low high nulls distinct) = given (pos 2) struct_code long_tree (Long low high nulls distinct)
member_written (Str longest average nulls distinct) = given (pos 4) struct_code string_tree (Str longest average nulls distinct)

-- the struct that a value is written as
unfoldable pub member_tree : StatValue → Wire
member_tree value = Struct (fields_of (member_written value ∷ []))
