-- Behind a phrase the list of tokens is shorter.
use Rattle.std.proofs.Common.{ℕ, ◌<◌, ◌≤◌, Bool, List, [], ◌∷◌, length, ap, arith, inl, inr}
use Rattle.filter_expr.specs.declared.token.Literal.{Literal}
use Rattle.filter_expr.specs.declared.token.Token.{Token}
use Rattle.filter_expr.specs.declared.tree.Test.{Test}
use Rattle.filter_expr.specs.declared.tree.Written.{Written}
use Rattle.filter_expr.specs.Trees.{Any, All, Term, lone, or_else, one, and_also, compare, group}
use Rattle.filter_expr.specs.Grammar.{AreMore, AreLiterals, IsListed, IsMembers, IsBetween, IsRange, IsTest, IsMembership, IsComparison, IsAny, IsAll, IsTerm, IsLaterAll, IsLaterTerm}
use Rattle.filter_expr.proofs.Literals.{next_shorter}

more_shorter : (literals : List Literal) (xs ys : List (ℕ × Token)) → AreMore literals xs ys → length ys ≤ length xs
more_shorter [] xs ys h = omega (arith, ap (λ (l : List (ℕ × Token)). length l) h)
more_shorter (literal ∷ literals) xs ys h = omega (arith, next_shorter _ xs h.0 h.2, next_shorter _ h.0 h.1 h.3, more_shorter literals h.1 ys h.4)

literals_shorter : (literals : List Literal) (xs ys : List (ℕ × Token)) → AreLiterals literals xs ys → length ys < length xs
literals_shorter [] xs ys h = absurd h
literals_shorter (literal ∷ literals) xs ys h = omega (arith, next_shorter _ xs h.0 h.1, more_shorter literals h.0 ys h.2)

listed_shorter : (n : ℕ) (literals : List Literal) (xs ys : List (ℕ × Token)) → IsListed n literals xs ys → length ys < length xs
listed_shorter n literals xs ys h = omega (arith, next_shorter _ xs h.1 h.3.1, literals_shorter literals h.1 h.2 h.4, next_shorter _ h.2 ys h.5)

members_shorter : (n : ℕ) (positive : Bool) (test : Test) (xs ys : List (ℕ × Token)) → IsMembers n positive test xs ys → length ys < length xs
members_shorter n positive test xs ys h = omega (arith, next_shorter _ xs h.1 h.2, listed_shorter n h.0 h.1 ys h.3)

between_shorter : (positive : Bool) (test : Test) (xs ys : List (ℕ × Token)) → IsBetween positive test xs ys → length ys < length xs
between_shorter positive test xs ys h = omega (arith, next_shorter _ xs h.2 h.3, next_shorter _ h.2 h.4.0 h.4.2, next_shorter _ h.4.0 h.4.1 h.4.3, next_shorter _ h.4.1 ys h.4.4)

range_shorter : (n : ℕ) (positive : Bool) (test : Test) (xs ys : List (ℕ × Token)) → IsRange n positive test xs ys → length ys < length xs
range_shorter n positive test xs ys (inl h) = members_shorter n positive test xs ys h
range_shorter n positive test xs ys (inr h) = between_shorter positive test xs ys h

test_shorter : (n : ℕ) (test : Test) (xs ys : List (ℕ × Token)) → IsTest n test xs ys → length ys < length xs
test_shorter n test xs ys (inl h) = omega (arith, next_shorter _ xs h.2 h.3, next_shorter _ h.2 ys h.4)
test_shorter n test xs ys (inr (inl h)) = range_shorter n _ test xs ys h
test_shorter n test xs ys (inr (inr h)) = omega (arith, next_shorter _ xs h.0 h.1, range_shorter n _ test h.0 ys h.2)

membership_shorter : (n : ℕ) (test : Test) (xs ys : List (ℕ × Token)) → IsMembership n test xs ys → length ys < length xs
membership_shorter n test xs ys (inl h) = members_shorter n _ test xs ys h
membership_shorter n test xs ys (inr h) = omega (arith, next_shorter _ xs h.0 h.1, members_shorter n _ test h.0 ys h.2)

comparison_shorter : (n : ℕ) (w : Written) (xs ys : List (ℕ × Token)) → IsComparison n w xs ys → length ys < length xs
comparison_shorter n w xs ys (inl h) = omega (arith, next_shorter _ xs h.0 h.1, test_shorter n w.test h.0 ys h.2)
comparison_shorter n w xs ys (inr (inl h)) = omega (arith, next_shorter _ xs h.2 h.4, next_shorter _ h.2 h.3 h.5, next_shorter _ h.3 ys h.6)
comparison_shorter n w xs ys (inr (inr h)) = omega (arith, next_shorter _ xs h.1 h.2.1, next_shorter _ h.1 h.3.0 h.3.2, next_shorter _ h.3.0 h.3.1 h.3.3, membership_shorter n w.test h.3.1 ys h.3.4)

mutual
  pub any_shorter : (any : Any Written) (n : ℕ) (xs ys : List (ℕ × Token)) → IsAny n any xs ys → length ys < length xs
  any_shorter (lone all) n xs ys h = all_shorter all n xs ys h
  any_shorter (or_else any all) n xs ys h = omega (arith, any_shorter any n xs h.0 h.2, next_shorter _ h.0 h.1 h.3, all_shorter all n h.1 ys h.4)

  pub all_shorter : (all : All Written) (n : ℕ) (xs ys : List (ℕ × Token)) → IsAll n all xs ys → length ys < length xs
  all_shorter (one term) n xs ys h = term_shorter term n xs ys h
  all_shorter (and_also all term) n xs ys h = omega (arith, all_shorter all n xs h.0 h.2, next_shorter _ h.0 h.1 h.3, term_shorter term n h.1 ys h.4)

  pub term_shorter : (term : Term Written) (n : ℕ) (xs ys : List (ℕ × Token)) → IsTerm n term xs ys → length ys < length xs
  term_shorter (compare w) n xs ys h = comparison_shorter n w xs ys h
  term_shorter (group any) n xs ys h = omega (arith, next_shorter _ xs h.1 h.3.1, any_shorter any h.0 h.1 h.2 h.4, next_shorter _ h.2 ys h.5)

pub later_all_shorter : (all : All Written) (n : ℕ) (xs ys : List (ℕ × Token)) → IsLaterAll n all xs ys → length ys < length xs
later_all_shorter all n xs ys h = omega (arith, next_shorter _ xs h.0 h.1, all_shorter all n h.0 ys h.2)

pub later_term_shorter : (term : Term Written) (n : ℕ) (xs ys : List (ℕ × Token)) → IsLaterTerm n term xs ys → length ys < length xs
later_term_shorter term n xs ys h = omega (arith, next_shorter _ xs h.0 h.1, term_shorter term n h.0 ys h.2)
