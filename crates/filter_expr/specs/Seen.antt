-- What is compared, without where it lies in memory.
use Rattle.std.specs.Prelude.{Option, None, Some}
use Rattle.filter_expr.specs.declared.truth.Compared.{Compared}
use Rattle.filter_expr.specs.declared.truth.Compared.TheVariants.{Text, Integer}
use Rattle.filter_expr.specs.Truth as truth

abbrev pub seen : Compared → truth.Compared
seen (Text bytes) = truth.as_bytes bytes.now
seen (Integer n) = truth.as_integer n

abbrev pub seen_if : Option Compared → Option truth.Compared
seen_if None = None
seen_if (Some value) = Some (seen value)
