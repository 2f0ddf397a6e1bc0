-- Which values a column takes. A fact in capitals has a test beside it, which computes.
use Rattle.std.specs.Prelude.{ℕ, ◌<◌, ◌⊎◌, pos, ◌<ℤ◌, int_lt, Bool, true, false, not, ◌||◌, if◌then◌else◌, Option, None, Some, is_some, Result, IsSome, IsNone, IsSomeAnd, MatchResult}
use Rattle.std.specs.Bool.{IsTrue}
use Rattle.cat_values.specs.Columns.{type_kind}
use Rattle.cat_values.specs.declared.columns.TypeKind.{TypeKind}
use Rattle.cat_values.specs.declared.columns.TypeKind.TheVariants.{Boolean, Integer, Text, Date, Other}
use Rattle.cat_values.specs.declared.storage.Column.{Column}
use Rattle.cat_values.specs.declared.statistics.StatValue.{StatValue}
use Rattle.cat_values.specs.declared.statistics.StatValue.TheVariants.{Flags, Long, Str}
use Rattle.col_stats.specs.declared.checking.StatFault.{StatFault}
use Rattle.col_stats.specs.declared.checking.StatFault.TheVariants.{WrongKey, WrongColumn, WrongKind, Negative}

-- statistics of flags, of whole numbers, and of texts
abbrev pub is_flags : StatValue → Bool
is_flags (Flags trues falses nulls) = true
is_flags (Long low high nulls distinct) = false
is_flags (Str longest average nulls distinct) = false

abbrev pub is_long : StatValue → Bool
is_long (Flags trues falses nulls) = false
is_long (Long low high nulls distinct) = true
is_long (Str longest average nulls distinct) = false

abbrev pub is_str : StatValue → Bool
is_str (Flags trues falses nulls) = false
is_str (Long low high nulls distinct) = false
is_str (Str longest average nulls distinct) = true

-- a column of this kind doesn't take the value: flags stand with booleans, whole numbers with integers and texts with texts,
-- and columns of other kinds take all three
abbrev pub asks_for_other : TypeKind → StatValue → Bool
asks_for_other Boolean value = not (is_flags value)
asks_for_other Integer value = not (is_long value)
asks_for_other Text value = not (is_str value)
asks_for_other Date value = false
asks_for_other Other value = false

-- a count is below 0
abbrev pub IsNegative : StatValue → Type 0
IsNegative (Flags trues falses nulls) = (trues <ℤ pos 0) ⊎ (falses <ℤ pos 0) ⊎ (nulls <ℤ pos 0)
IsNegative (Long low high nulls distinct) = (nulls <ℤ pos 0) ⊎ (distinct <ℤ pos 0)
IsNegative (Str longest average nulls distinct) = (longest <ℤ pos 0) ⊎ (nulls <ℤ pos 0) ⊎ (distinct <ℤ pos 0)

abbrev pub is_negative : StatValue → Bool
is_negative (Flags trues falses nulls) = int_lt trues (pos 0) || (int_lt falses (pos 0) || int_lt nulls (pos 0))
is_negative (Long low high nulls distinct) = int_lt nulls (pos 0) || int_lt distinct (pos 0)
is_negative (Str longest average nulls distinct) = int_lt longest (pos 0) || (int_lt nulls (pos 0) || int_lt distinct (pos 0))

-- a value breaks the rule that a fault names, of the key and the column with its name
abbrev pub Breaks : Option Column → Option Column → StatValue → StatFault → Type 0
Breaks key column value WrongKey = IsSome key
Breaks key column value WrongColumn = IsNone key × IsNone column
Breaks key column value WrongKind = IsSomeAnd column (λ found. IsTrue (asks_for_other (type_kind found.ty) value))
Breaks key column value Negative = IsNegative value

-- the order in which faults are judged: the lower rank first
abbrev pub rank : StatFault → ℕ
rank WrongKey = 0
rank WrongColumn = 1
rank WrongKind = 2
rank Negative = 3

-- the answer is the first fault whose rule is broken, and none where no rule is
abbrev pub IsFirstBroken : {T : Type 0} → Option Column → Option Column → StatValue → Result T StatFault → Type 0
IsFirstBroken key column value result = MatchResult result
    (λ _. (fault : StatFault) → Breaks key column value fault → ⊥)
    (λ fault. Breaks key column value fault × ((other : StatFault) → rank other < rank fault → Breaks key column value other → ⊥))

-- the same fault, computed
abbrev pub column_fault : Option Column → StatValue → Option StatFault
column_fault None value = Some WrongColumn
column_fault (Some column) value = if asks_for_other (type_kind column.ty) value then Some WrongKind else if is_negative value then Some Negative else None

abbrev pub first_fault : Option Column → Option Column → StatValue → Option StatFault
first_fault key column value = if is_some key then Some WrongKey else column_fault column value
