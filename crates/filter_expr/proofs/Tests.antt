-- How the machine goes over a comparison, and where it stops in one.
use Rattle.std.proofs.Common.{◌≡◌, ℕ, Bool, true, false, List, refl, sym, ap, ◌∙◌, inl, inr}
use Rattle.filter_expr.specs.declared.token.Mark.TheVariants.{Not, In, Between}
use Rattle.filter_expr.specs.declared.token.Operator.{Operator}
use Rattle.filter_expr.specs.declared.token.Token.{Token}
use Rattle.filter_expr.specs.declared.token.Token.TheVariants.{Marked, Compare, Value}
use Rattle.filter_expr.specs.declared.tree.Test.{Test}
use Rattle.filter_expr.specs.declared.fault.FilterFault.{FilterFault}
use Rattle.filter_expr.specs.declared.fault.FilterFault.TheVariants.{Syntax}
use Rattle.filter_expr.specs.Grammar.{IsNext, IsMarked, IsALiteral, IsMembers, IsRange, IsTest, IsMembership, IsInOrBetween, BeginsTest, IsNotOrIn, StopsMembers, StopsInRange, StopsRange, StopsTest, StopsMembership, StopsInOrElse}
use Rattle.filter_expr.proofs.Literals.{first_token}
use Rattle.filter_expr.proofs.Machine as m
use Rattle.filter_expr.proofs.Machine.{Level, State, Next, End_of, run, step, follow, compared, depth_of, stopped, go, stop}
use Rattle.filter_expr.proofs.Walking.{over, refused, over_listed, over_between, stops_listed, stops_bounds}

-- a list begins with one token
pub same_first : (t u : Token) (xs ys zs : List (ℕ × Token)) → IsNext t xs ys → IsNext u xs zs → t ≡ u
same_first t u xs ys zs h k = ap first_token (sym h.1 ∙ k.1)

module _ (key : List ℕ) (l : Level) (ls : List Level) where
  over_members : (positive : Bool) (s : State) → ((place : ℕ) → step s place (Marked In) ≡ go (m.at_list key positive l ls)) → (test : Test) (xs ys : List (ℕ × Token)) → IsMembers (depth_of l) positive test xs ys → run xs s ≡ run ys (compared key test l ls)
  over_members positive s f test xs ys h =
      over (Marked In) xs h.1 s h.2
      ∙ ap (λ (next : Next). follow next (λ t. run h.1 t)) (f h.2.0)
      ∙ over_listed h.0 key positive l ls h.1 ys h.3
      ∙ ap (λ (t : Test). run ys (compared key t l ls)) (sym h.4)

  over_range : (positive : Bool) (s : State) → ((place : ℕ) → step s place (Marked In) ≡ go (m.at_list key positive l ls)) → ((place : ℕ) → step s place (Marked Between) ≡ go (m.at_low key positive l ls)) → (test : Test) (xs ys : List (ℕ × Token)) → IsRange (depth_of l) positive test xs ys → run xs s ≡ run ys (compared key test l ls)
  over_range positive s f g test xs ys (inl h) = over_members positive s f test xs ys h
  over_range positive s f g test xs ys (inr h) =
      over (Marked Between) xs h.2 s h.3
      ∙ ap (λ (next : Next). follow next (λ t. run h.2 t)) (g h.3.0)
      ∙ over_between positive test key l ls h.2 xs ys h.0 h.1 h.4.0 h.4.1 h.4.2 h.4.3 h.4.4 h.5

  pub over_test : (test : Test) (xs ys : List (ℕ × Token)) → IsTest (depth_of l) test xs ys → run xs (m.behind_key key l ls) ≡ run ys (compared key test l ls)
  over_test test xs ys (inl h) =
      over (Compare h.0) xs h.2 (m.behind_key key l ls) h.3
      ∙ over (Value h.1) h.2 ys (m.behind_operator key h.0 l ls) h.4
      ∙ ap (λ (t : Test). run ys (compared key t l ls)) (sym h.5)
  over_test test xs ys (inr (inl h)) = over_range true (m.behind_key key l ls) (λ _. refl) (λ _. refl) test xs ys h
  over_test test xs ys (inr (inr h)) =
      over (Marked Not) xs h.0 (m.behind_key key l ls) h.1
      ∙ over_range false (m.behind_not key l ls) (λ _. refl) (λ _. refl) test h.0 ys h.2

  pub over_membership : (test : Test) (xs ys : List (ℕ × Token)) → IsMembership (depth_of l) test xs ys → run xs (m.closed_key key l ls) ≡ run ys (compared key test l ls)
  over_membership test xs ys (inl h) = over_members true (m.closed_key key l ls) (λ _. refl) test xs ys h
  over_membership test xs ys (inr h) =
      over (Marked Not) xs h.0 (m.closed_key key l ls) h.1
      ∙ over_members false (m.closed_not key l ls) (λ _. refl) test h.0 ys h.2

  -- ---- where it stops

  stops_members : (positive : Bool) (s : State) → ((place : ℕ) → step s place (Marked In) ≡ go (m.at_list key positive l ls)) → (fault : FilterFault) (xs : List (ℕ × Token)) → StopsMembers (depth_of l) fault xs → run xs s ≡ stopped fault
  stops_members positive s f fault xs h =
      over (Marked In) xs h.0 s h.1
      ∙ ap (λ (next : Next). follow next (λ t. run h.0 t)) (f h.1.0)
      ∙ stops_listed key positive l ls fault h.0 h.2

  stops_in_range : (positive : Bool) (s : State) → ((place : ℕ) → step s place (Marked In) ≡ go (m.at_list key positive l ls)) → ((place : ℕ) → step s place (Marked Between) ≡ go (m.at_low key positive l ls)) → (fault : FilterFault) (xs : List (ℕ × Token)) → StopsInRange (depth_of l) fault xs → run xs s ≡ stopped fault
  stops_in_range positive s f g fault xs (inl h) = stops_members positive s f fault xs h
  stops_in_range positive s f g fault xs (inr h) =
      over (Marked Between) xs h.0 s h.1
      ∙ ap (λ (next : Next). follow next (λ t. run h.0 t)) (g h.1.0)
      ∙ stops_bounds key positive l ls fault h.0 h.2

  refuse_key : (place : ℕ) (token : Token) → (BeginsTest token → ⊥) → step (m.behind_key key l ls) place token ≡ stop (Syntax place)
  refuse_key place (Compare operator) h = absurd (h (inl (operator, refl)))
  refuse_key place (Marked Not) h = absurd (h (inr (inl refl)))
  refuse_key place (Marked In) h = absurd (h (inr (inr (inl refl))))
  refuse_key place (Marked Between) h = absurd (h (inr (inr (inr refl))))
  refuse_key place _ h = refl

  refuse_operator : (operator : Operator) (place : ℕ) (token : Token) → (IsALiteral token → ⊥) → step (m.behind_operator key operator l ls) place token ≡ stop (Syntax place)
  refuse_operator operator place (Value v) h = absurd (h (v, refl))
  refuse_operator operator place _ h = refl

  refuse_not : (place : ℕ) (token : Token) → (IsInOrBetween token → ⊥) → step (m.behind_not key l ls) place token ≡ stop (Syntax place)
  refuse_not place (Marked In) h = absurd (h (inl refl))
  refuse_not place (Marked Between) h = absurd (h (inr refl))
  refuse_not place _ h = refl

  refuse_closed : (place : ℕ) (token : Token) → (IsNotOrIn token → ⊥) → step (m.closed_key key l ls) place token ≡ stop (Syntax place)
  refuse_closed place (Marked Not) h = absurd (h (inl refl))
  refuse_closed place (Marked In) h = absurd (h (inr refl))
  refuse_closed place _ h = refl

  refuse_closed_not : (place : ℕ) (token : Token) → (IsMarked In token → ⊥) → step (m.closed_not key l ls) place token ≡ stop (Syntax place)
  refuse_closed_not place (Marked In) h = absurd (h refl)
  refuse_closed_not place _ h = refl

  stops_range : (fault : FilterFault) (xs : List (ℕ × Token)) → StopsRange (depth_of l) fault xs → run xs (m.behind_not key l ls) ≡ stopped fault
  stops_range fault xs (inl h) = refused IsInOrBetween fault xs (m.behind_not key l ls) refuse_not h
  stops_range fault xs (inr h) = stops_in_range false (m.behind_not key l ls) (λ _. refl) (λ _. refl) fault xs h

  pub stops_test : (fault : FilterFault) (xs : List (ℕ × Token)) → StopsTest (depth_of l) fault xs → run xs (m.behind_key key l ls) ≡ stopped fault
  stops_test fault xs (inl h) = refused BeginsTest fault xs (m.behind_key key l ls) refuse_key h
  stops_test fault xs (inr (inl h)) =
      over (Compare h.0) xs h.1 (m.behind_key key l ls) h.2
      ∙ refused IsALiteral fault h.1 (m.behind_operator key h.0 l ls) (refuse_operator h.0) h.3
  stops_test fault xs (inr (inr (inl h))) = stops_in_range true (m.behind_key key l ls) (λ _. refl) (λ _. refl) fault xs h
  stops_test fault xs (inr (inr (inr h))) = over (Marked Not) xs h.0 (m.behind_key key l ls) h.1 ∙ stops_range fault h.0 h.2

  stops_not_in : (fault : FilterFault) (xs : List (ℕ × Token)) → StopsInOrElse (depth_of l) fault xs → run xs (m.closed_not key l ls) ≡ stopped fault
  stops_not_in fault xs (inl h) = refused (IsMarked In) fault xs (m.closed_not key l ls) refuse_closed_not h
  stops_not_in fault xs (inr h) = stops_members false (m.closed_not key l ls) (λ _. refl) fault xs h

  pub stops_membership : (fault : FilterFault) (xs : List (ℕ × Token)) → StopsMembership (depth_of l) fault xs → run xs (m.closed_key key l ls) ≡ stopped fault
  stops_membership fault xs (inl h) = refused IsNotOrIn fault xs (m.closed_key key l ls) refuse_closed h
  stops_membership fault xs (inr (inl h)) = stops_members true (m.closed_key key l ls) (λ _. refl) fault xs h
  stops_membership fault xs (inr (inr h)) = over (Marked Not) xs h.0 (m.closed_key key l ls) h.1 ∙ stops_not_in fault h.0 h.2
