-- A machine that goes over tokens one by one. It tells that a list of tokens is a filter in one way at most, and stops in one way at
-- most.
use Rattle.std.proofs.Common.{ℕ, Bool, true, false, List, [], ◌∷◌, ◌++◌, Option, None, Some, zero, suc}
use Rattle.filter_expr.specs.declared.token.Mark.TheVariants.{Open, Close, Comma, And, Or, Not, In, Between}
use Rattle.filter_expr.specs.declared.token.Operator.{Operator}
use Rattle.filter_expr.specs.declared.token.Literal.{Literal}
use Rattle.filter_expr.specs.declared.token.Token.{Token}
use Rattle.filter_expr.specs.declared.token.Token.TheVariants.{Marked, Compare, Key, Value, End}
use Rattle.filter_expr.specs.declared.tree.Test.{Test}
use Rattle.filter_expr.specs.declared.tree.Test.TheVariants.{Is, Among, Within}
use Rattle.filter_expr.specs.declared.tree.Written.{Written}
use Rattle.filter_expr.specs.declared.fault.FilterFault.{FilterFault}
use Rattle.filter_expr.specs.declared.fault.FilterFault.TheVariants.{Syntax, TooDeep}
use Rattle.filter_expr.specs.Grammar.{mirrored}
use Rattle.filter_expr.specs.Trees.{Any, All, Term, lone, or_else, one, and_also, compare, group}

-- what is joined so far at a depth: how many parentheses may be opened, what or joins, and what and joins
pub data Level : Type 0 where
  level : ℕ → Option (Any Written) → Option (All Written) → Level

-- what stands before the next token, inside the levels that are open
pub data State : Type 0 where
  at_term : Level → List Level → State
  at_group : ℕ → Level → List Level → State
  open_key : List ℕ → ℕ → Level → List Level → State
  behind_key : List ℕ → Level → List Level → State
  behind_operator : List ℕ → Operator → Level → List Level → State
  behind_not : List ℕ → Level → List Level → State
  at_list : List ℕ → Bool → Level → List Level → State
  at_item : List ℕ → Bool → List Literal → Level → List Level → State
  behind_item : List ℕ → Bool → List Literal → Level → List Level → State
  at_low : List ℕ → Bool → Level → List Level → State
  behind_low : List ℕ → Bool → Literal → Level → List Level → State
  at_high : List ℕ → Bool → Literal → Level → List Level → State
  behind_literal : Literal → Level → List Level → State
  at_key : Literal → Operator → Level → List Level → State
  closed_key : List ℕ → Level → List Level → State
  closed_not : List ℕ → Level → List Level → State
  behind_all : ℕ → Option (Any Written) → All Written → List Level → State

pub data Next : Type 0 where
  go : State → Next
  stop : FilterFault → Next
  accept : Any Written → Next

abbrev pub joined_all : Option (All Written) → Term Written → All Written
joined_all None term = one term
joined_all (Some all) term = and_also all term

abbrev pub joined_any : Option (Any Written) → All Written → Any Written
joined_any None all = lone all
joined_any (Some any) all = or_else any all

abbrev pub behind_term : Term Written → Level → List Level → State
behind_term term (level n any all) levels = behind_all n any (joined_all all term) levels

abbrev pub compared : List ℕ → Test → Level → List Level → State
compared key test l levels = behind_term (compare (record { key = key; test = test })) l levels

abbrev pub opened : ℕ → Level → List Level → Next
opened zero l levels = stop TooDeep
opened (suc k) l levels = go (at_group k l levels)

abbrev pub listed_open : List ℕ → Bool → ℕ → Level → List Level → Next
listed_open key positive zero l levels = stop TooDeep
listed_open key positive (suc k) l levels = go (at_item key positive [] l levels)

abbrev pub depth_of : Level → ℕ
depth_of (level n any all) = n

abbrev pub inner : ℕ → Level
inner k = level k None None

abbrev pub closed : ℕ → Option (Any Written) → All Written → List Level → Next
closed place any all [] = stop (Syntax place)
closed place any all (l ∷ levels) = go (behind_term (group (joined_any any all)) l levels)

abbrev pub ended : ℕ → Option (Any Written) → All Written → List Level → Next
ended place any all [] = accept (joined_any any all)
ended place any all (l ∷ levels) = stop (Syntax place)

abbrev pub step_term : ℕ → Token → Level → List Level → Next
step_term place (Marked Open) l levels = opened (depth_of l) l levels
step_term place (Key key) l levels = go (behind_key key l levels)
step_term place (Value literal) l levels = go (behind_literal literal l levels)
step_term place _ l levels = stop (Syntax place)

abbrev pub step_group : ℕ → Token → ℕ → Level → List Level → Next
step_group place (Key key) k l levels = go (open_key key k l levels)
step_group place token k l levels = step_term place token (inner k) (l ∷ levels)

abbrev pub step_key : ℕ → Token → List ℕ → Level → List Level → Next
step_key place (Compare operator) key l levels = go (behind_operator key operator l levels)
step_key place (Marked Not) key l levels = go (behind_not key l levels)
step_key place (Marked In) key l levels = go (at_list key true l levels)
step_key place (Marked Between) key l levels = go (at_low key true l levels)
step_key place _ key l levels = stop (Syntax place)

abbrev pub step_open_key : ℕ → Token → List ℕ → ℕ → Level → List Level → Next
step_open_key place (Marked Close) key k l levels = go (closed_key key l levels)
step_open_key place token key k l levels = step_key place token key (inner k) (l ∷ levels)

abbrev pub step_operator : ℕ → Token → List ℕ → Operator → Level → List Level → Next
step_operator place (Value literal) key operator l levels = go (compared key (Is operator literal) l levels)
step_operator place _ key operator l levels = stop (Syntax place)

abbrev pub step_not : ℕ → Token → List ℕ → Level → List Level → Next
step_not place (Marked In) key l levels = go (at_list key false l levels)
step_not place (Marked Between) key l levels = go (at_low key false l levels)
step_not place _ key l levels = stop (Syntax place)

abbrev pub step_list : ℕ → Token → List ℕ → Bool → Level → List Level → Next
step_list place (Marked Open) key positive l levels = listed_open key positive (depth_of l) l levels
step_list place _ key positive l levels = stop (Syntax place)

abbrev pub step_item : ℕ → Token → List ℕ → Bool → List Literal → Level → List Level → Next
step_item place (Value literal) key positive literals l levels = go (behind_item key positive (literals ++ literal ∷ []) l levels)
step_item place _ key positive literals l levels = stop (Syntax place)

abbrev pub step_behind_item : ℕ → Token → List ℕ → Bool → List Literal → Level → List Level → Next
step_behind_item place (Marked Comma) key positive literals l levels = go (at_item key positive literals l levels)
step_behind_item place (Marked Close) key positive literals l levels = go (compared key (Among positive literals) l levels)
step_behind_item place _ key positive literals l levels = stop (Syntax place)

abbrev pub step_low : ℕ → Token → List ℕ → Bool → Level → List Level → Next
step_low place (Value low) key positive l levels = go (behind_low key positive low l levels)
step_low place _ key positive l levels = stop (Syntax place)

abbrev pub step_behind_low : ℕ → Token → List ℕ → Bool → Literal → Level → List Level → Next
step_behind_low place (Marked And) key positive low l levels = go (at_high key positive low l levels)
step_behind_low place _ key positive low l levels = stop (Syntax place)

abbrev pub step_high : ℕ → Token → List ℕ → Bool → Literal → Level → List Level → Next
step_high place (Value high) key positive low l levels = go (compared key (Within positive low high) l levels)
step_high place _ key positive low l levels = stop (Syntax place)

abbrev pub step_literal : ℕ → Token → Literal → Level → List Level → Next
step_literal place (Compare operator) literal l levels = go (at_key literal operator l levels)
step_literal place _ literal l levels = stop (Syntax place)

abbrev pub step_at_key : ℕ → Token → Literal → Operator → Level → List Level → Next
step_at_key place (Key key) literal operator l levels = go (compared key (Is (mirrored operator) literal) l levels)
step_at_key place _ literal operator l levels = stop (Syntax place)

abbrev pub step_closed_key : ℕ → Token → List ℕ → Level → List Level → Next
step_closed_key place (Marked Not) key l levels = go (closed_not key l levels)
step_closed_key place (Marked In) key l levels = go (at_list key true l levels)
step_closed_key place _ key l levels = stop (Syntax place)

abbrev pub step_closed_not : ℕ → Token → List ℕ → Level → List Level → Next
step_closed_not place (Marked In) key l levels = go (at_list key false l levels)
step_closed_not place _ key l levels = stop (Syntax place)

abbrev pub step_all : ℕ → Token → ℕ → Option (Any Written) → All Written → List Level → Next
step_all place (Marked And) n any all levels = go (at_term (level n any (Some all)) levels)
step_all place (Marked Or) n any all levels = go (at_term (level n (Some (joined_any any all)) None) levels)
step_all place (Marked Close) n any all levels = closed place any all levels
step_all place End n any all levels = ended place any all levels
step_all place _ n any all levels = stop (Syntax place)

abbrev pub step : State → ℕ → Token → Next
step (at_term l levels) place token = step_term place token l levels
step (at_group k l levels) place token = step_group place token k l levels
step (open_key key k l levels) place token = step_open_key place token key k l levels
step (behind_key key l levels) place token = step_key place token key l levels
step (behind_operator key operator l levels) place token = step_operator place token key operator l levels
step (behind_not key l levels) place token = step_not place token key l levels
step (at_list key positive l levels) place token = step_list place token key positive l levels
step (at_item key positive literals l levels) place token = step_item place token key positive literals l levels
step (behind_item key positive literals l levels) place token = step_behind_item place token key positive literals l levels
step (at_low key positive l levels) place token = step_low place token key positive l levels
step (behind_low key positive low l levels) place token = step_behind_low place token key positive low l levels
step (at_high key positive low l levels) place token = step_high place token key positive low l levels
step (behind_literal literal l levels) place token = step_literal place token literal l levels
step (at_key literal operator l levels) place token = step_at_key place token literal operator l levels
step (closed_key key l levels) place token = step_closed_key place token key l levels
step (closed_not key l levels) place token = step_closed_not place token key l levels
step (behind_all n any all levels) place token = step_all place token n any all levels

-- what a list of tokens comes to
pub data End_of : Type 0 where
  unended : End_of
  stopped : FilterFault → End_of
  read : Any Written → End_of

abbrev pub follow : Next → (State → End_of) → End_of
follow (go state) f = f state
follow (stop fault) f = stopped fault
follow (accept any) f = read any

abbrev pub run : List (ℕ × Token) → State → End_of
run [] state = unended
run (x ∷ xs) state = follow (step state x.0 x.1) (λ s. run xs s)
