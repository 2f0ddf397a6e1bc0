-- Which values a filter holds for.
use Rattle.std.specs.Prelude.{ℕ, ℤ, Bool, true, false, not, ◌&&◌, ◌||◌, if◌then◌else◌, List, slice_get, Option, None, Some}
use Rattle.std.specs.List.{list_any}
use Rattle.std.specs.Ordering.{nat_cmp, int_cmp, is_lt, is_eq, is_gt, is_le, is_ge, is_ne}
use Rattle.std.specs.declared.cmp.Ordering.{Ordering}
use Rattle.std.specs.Cmp.Lexicographic.{slice_cmp}
use Rattle.filter_expr.specs.declared.expr.Kind.{Kind}
use Rattle.filter_expr.specs.declared.expr.Kind.TheVariants.{TextKey, IntegerKey}
use Rattle.filter_expr.specs.declared.expr.Comparison.{Comparison}
use Rattle.filter_expr.specs.declared.token.Literal.{Literal}
use Rattle.filter_expr.specs.declared.token.Literal.TheVariants.{Quoted, Number}
use Rattle.filter_expr.specs.declared.token.Operator.{Operator}
use Rattle.filter_expr.specs.declared.token.Operator.TheVariants.{Equals, Differs, Below, AtMost, Above, AtLeast}
use Rattle.filter_expr.specs.declared.tree.Step.{Step}
use Rattle.filter_expr.specs.declared.tree.Step.TheVariants.{Check, Skip}
use Rattle.filter_expr.specs.declared.tree.Test.{Test}
use Rattle.filter_expr.specs.declared.tree.Test.TheVariants.{Is, Among, Within}
use Rattle.filter_expr.specs.Integers.{integer}
use Rattle.filter_expr.specs.Trees.{Any, All, Term, lone, or_else, one, and_also, compare, group}

-- what a value is compared as: its bytes, or the integer that its text spells
pub data Compared : Type 0 where
  as_bytes : List ℕ → Compared
  as_integer : ℤ → Compared

abbrev pub integer_if : Option ℤ → Option Compared
integer_if None = None
integer_if (Some n) = Some (as_integer n)

abbrev pub compared_as : Kind → List ℕ → Option Compared
compared_as TextKey value = Some (as_bytes value)
compared_as IntegerKey value = integer_if (integer value)

-- how a value stands to a literal of its kind
abbrev pub order : Compared → Literal → Option Ordering
order (as_bytes value) (Quoted text) = Some (slice_cmp nat_cmp value text)
order (as_bytes value) (Number n) = None
order (as_integer value) (Quoted text) = None
order (as_integer value) (Number n) = Some (int_cmp value n)

abbrev pub meets : Operator → Ordering → Bool
meets Equals o = is_eq o
meets Differs o = is_ne o
meets Below o = is_lt o
meets AtMost o = is_le o
meets Above o = is_gt o
meets AtLeast o = is_ge o

abbrev pub allows : Operator → Option Ordering → Bool
allows operator None = false
allows operator (Some o) = meets operator o

-- what is asked for, or its contrary
abbrev pub agrees : Bool → Bool → Bool
agrees true found = found
agrees false found = not found

abbrev pub is_member : Compared → List Literal → Bool
is_member value literals = list_any (λ literal. allows Equals (order value literal)) literals

-- "between" includes both bounds
abbrev pub is_between : Compared → Literal → Literal → Bool
is_between value low high = allows AtLeast (order value low) && allows AtMost (order value high)

abbrev pub test_holds : Test → Compared → Bool
test_holds (Is operator literal) value = allows operator (order value literal)
test_holds (Among positive literals) value = agrees positive (is_member value literals)
test_holds (Within positive low high) value = agrees positive (is_between value low high)

-- a value of an integer key that spells no integer meets no comparison, whatever it asks for
abbrev pub holds_if : Test → Option Compared → Bool
holds_if test None = false
holds_if test (Some value) = test_holds test value

abbrev pub value_holds : Comparison → Option (List ℕ) → Bool
value_holds comparison None = false
value_holds comparison (Some value) = holds_if comparison.test (compared_as comparison.kind value)

abbrev pub comparison_holds : List (List ℕ) → Comparison → Bool
comparison_holds values comparison = value_holds comparison (slice_get values comparison.place)

-- what is found behind a step, and how many steps behind it are left out
abbrev pub after : {C : Type 0} → (C → Bool) → Bool → Step C → Bool × ℕ
after f found (Check c) = (f c, 0)
after f found (Skip on count) = (found, if agrees on found then count else 0)

-- a tree holds as its comparisons do
abbrev mutual
  pub any_holds : {C : Type 0} → (C → Bool) → Any C → Bool
  any_holds f (lone all) = all_holds f all
  any_holds f (or_else any all) = any_holds f any || all_holds f all

  pub all_holds : {C : Type 0} → (C → Bool) → All C → Bool
  all_holds f (one term) = term_holds f term
  all_holds f (and_also all term) = all_holds f all && term_holds f term

  pub term_holds : {C : Type 0} → (C → Bool) → Term C → Bool
  term_holds f (compare c) = f c
  term_holds f (group any) = any_holds f any

-- an empty filter holds for all values
abbrev pub holds : Option (Any Comparison) → List (List ℕ) → Bool
holds None values = true
holds (Some any) values = any_holds (comparison_holds values) any
