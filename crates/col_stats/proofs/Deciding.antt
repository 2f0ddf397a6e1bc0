-- Each test decides its fact.
use Rattle.std.proofs.Common.{◌≡◌, Bool, true, false, refl, sym, subst, rules, lit<, if◌then◌else◌, Option, Some, None, Result, Ok, Err}
use Rattle.std.specs.Prelude.{ℤ, pos, ◌<ℤ◌, int_lt}
use Rattle.std.specs.Bool.{Decides, IsTrue}
use lib.Dec.{T}
use Rattle.std.specs.Result.{result_err}
use Rattle.std.proofs.lemmas.Bool.{false≢true}
use Rattle.std.proofs.lemmas.Bool.Decides.{Decides-or}
use Rattle.cat_values.specs.declared.storage.Column.{Column}
use Rattle.cat_values.specs.declared.statistics.StatValue.{StatValue}
use Rattle.cat_values.specs.declared.statistics.StatValue.TheVariants.{Flags, Long, Str}
use Rattle.col_stats.specs.declared.checking.StatFault.{StatFault}
use Rattle.col_stats.specs.declared.checking.StatFault.TheVariants.{WrongKey, WrongColumn, WrongKind, Negative}
use Rattle.cat_values.specs.Columns.{type_kind}
use Rattle.col_stats.specs.Rules.{asks_for_other, IsNegative, is_negative, IsFirstBroken, first_fault}

below-Decides : (n : ℤ) → Decides (int_lt n (pos 0)) (n <ℤ pos 0)
below-Decides n = (λ e. record { lt = subst T (sym e) tt }, λ h. from_T (int_lt n (pos 0)) h.lt)
  where
    from_T : (b : Bool) → T b → b ≡ true
    from_T true h = refl
    from_T false h = absurd h

negative-Decides : (value : StatValue) → Decides (is_negative value) (IsNegative value)
negative-Decides (Flags trues falses nulls) = Decides-or _ _ (below-Decides trues) (Decides-or _ _ (below-Decides falses) (below-Decides nulls))
negative-Decides (Long low high nulls distinct) = Decides-or _ _ (below-Decides nulls) (below-Decides distinct)
negative-Decides (Str longest average nulls distinct) = Decides-or _ _ (below-Decides longest) (Decides-or _ _ (below-Decides nulls) (below-Decides distinct))

-- the first broken rule is the computed one
kind_fault : {Done : Type 0} (column : Column) (value : StatValue) (asks negative : Bool) → Decides asks (IsTrue (asks_for_other (type_kind column.ty) value)) → Decides negative (IsNegative value) → (result : Result Done StatFault) → IsFirstBroken None (Some column) value result → result_err result ≡ (if asks then Some WrongKind else if negative then Some Negative else None)
kind_fault column value true negative d e (Ok x) h = absurd (h WrongKind (d.0 refl))
kind_fault column value false true d e (Ok x) h = absurd (h Negative (e.0 refl))
kind_fault column value false false d e (Ok x) h = refl
kind_fault column value asks negative d e (Err WrongKey) h = absurd (search rules)
kind_fault column value asks negative d e (Err WrongColumn) h = absurd (search rules)
kind_fault column value true negative d e (Err WrongKind) h = refl
kind_fault column value false negative d e (Err WrongKind) h = absurd (false≢true (d.1 h.0))
kind_fault column value true negative d e (Err Negative) h = absurd (h.1 WrongKind (lit< tt) (d.0 refl))
kind_fault column value false true d e (Err Negative) h = refl
kind_fault column value false false d e (Err Negative) h = absurd (false≢true (e.1 h.0))

pub fault_from_first : {Done : Type 0} (key column : Option Column) (value : StatValue) (result : Result Done StatFault) → IsFirstBroken key column value result → result_err result ≡ first_fault key column value
fault_from_first (Some k) column value (Ok x) h = absurd (h WrongKey refl)
fault_from_first (Some k) column value (Err WrongKey) h = refl
fault_from_first (Some k) column value (Err WrongColumn) h = absurd (h.1 WrongKey (lit< tt) refl)
fault_from_first (Some k) column value (Err WrongKind) h = absurd (h.1 WrongKey (lit< tt) refl)
fault_from_first (Some k) column value (Err Negative) h = absurd (h.1 WrongKey (lit< tt) refl)
fault_from_first None None value (Ok x) h = absurd (h WrongColumn (refl, refl))
fault_from_first None None value (Err WrongKey) h = absurd (search rules)
fault_from_first None None value (Err WrongColumn) h = refl
fault_from_first None None value (Err WrongKind) h = absurd (h.1 WrongColumn (lit< tt) (refl, refl))
fault_from_first None None value (Err Negative) h = absurd (h.1 WrongColumn (lit< tt) (refl, refl))
fault_from_first None (Some column) value result h = kind_fault column value (asks_for_other (type_kind column.ty) value) (is_negative value) (λ e. e, λ e. e) (negative-Decides value) result h
