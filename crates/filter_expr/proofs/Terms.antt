-- How the machine goes over terms and what joins them, and where it stops in them.
use Rattle.std.proofs.Common.{◌≡◌, ℕ, List, [], ◌∷◌, refl, sym, ap, ◌∙◌, subst, inl, inr, Option, None, Some, add-one}
use Rattle.std.specs.Prelude.{◌⊎◌}
use Rattle.filter_expr.specs.declared.token.Mark.TheVariants.{Open, Close, And, Or, Not, In, Between}
use Rattle.filter_expr.specs.declared.token.Literal.{Literal}
use Rattle.filter_expr.specs.declared.token.Operator.{Operator}
use Rattle.filter_expr.specs.declared.token.Token.{Token}
use Rattle.filter_expr.specs.declared.token.Token.TheVariants.{Marked, Compare, Key, Value, End}
use Rattle.filter_expr.specs.declared.tree.Test.{Test}
use Rattle.filter_expr.specs.declared.tree.Written.{Written}
use Rattle.filter_expr.specs.declared.fault.FilterFault.{FilterFault}
use Rattle.filter_expr.specs.declared.fault.FilterFault.TheVariants.{Syntax}
use Rattle.filter_expr.specs.Grammar.{IsNext, IsMark, IsMarked, IsAKey, IsAnOperator, IsOpen, IsTest, IsComparison, IsAny, IsAll, IsTerm, IsKeyClosed, BeginsTerm, GoesOn, IsEnd, StopsTerm, StopsAll, StopsAny, no_term, one_too_many, behind_key, behind_literal, behind_closed_key, in_group, behind_group, all_first, all_later, any_first, any_later}
use Rattle.filter_expr.specs.Trees.{Any, All, Term, lone, or_else, one, and_also, compare, group}
use Rattle.filter_expr.proofs.Machine as m
use Rattle.filter_expr.proofs.Machine.{Level, State, Next, End_of, run, step, follow, level, compared, behind_term, depth_of, inner, joined_any, stopped, go, stop}
use Rattle.filter_expr.proofs.Walking.{over, refused}
use Rattle.filter_expr.proofs.Tests.{same_first, over_test, over_membership, stops_test, stops_membership}

-- ---- what a phrase begins with

test_not_closed : (n : ℕ) (test : Test) (xs ys zs : List (ℕ × Token)) → IsTest n test xs ys → IsMark Close xs zs → ⊥
test_not_closed n test xs ys zs (inl h) close = let e : Compare h.0 ≡ Marked Close = same_first _ _ xs h.2 zs h.3 close in cc
test_not_closed n test xs ys zs (inr (inl (inl h))) close = let e : Marked In ≡ Marked Close = same_first _ _ xs h.1 zs h.2 close in cc
test_not_closed n test xs ys zs (inr (inl (inr h))) close = let e : Marked Between ≡ Marked Close = same_first _ _ xs h.2 zs h.3 close in cc
test_not_closed n test xs ys zs (inr (inr h)) close = let e : Marked Not ≡ Marked Close = same_first _ _ xs h.0 zs h.1 close in cc

same_rest : (t u : Token) (xs ys zs : List (ℕ × Token)) → IsNext t xs ys → IsNext u xs zs → ys ≡ zs
same_rest t u xs ys zs h k = ap rest_of (sym h.1 ∙ k.1)
  where
    rest_of : List (ℕ × Token) → List (ℕ × Token)
    rest_of [] = []
    rest_of (x ∷ l) = l

comparison_not_closed : (n : ℕ) (w : Written) (xs ys : List (ℕ × Token)) → IsComparison n w xs ys → IsKeyClosed xs → ⊥
comparison_not_closed n w xs ys (inl h) closed =
    let e = same_rest _ _ xs h.0 closed.1 h.1 closed.3 in
    test_not_closed n w.test h.0 ys closed.2 h.2 (subst (λ (t : List (ℕ × Token)). IsMark Close t closed.2) (sym e) closed.4)
comparison_not_closed n w xs ys (inr (inl h)) closed = let e : Value h.0 ≡ Key closed.0 = same_first _ _ xs h.2 closed.1 h.4 closed.3 in cc
comparison_not_closed n w xs ys (inr (inr h)) closed = let e : Marked Open ≡ Key closed.0 = same_first _ _ xs h.1 closed.1 h.2.1 closed.3 in cc

mutual
  any_not_closed : (any : Any Written) (n : ℕ) (xs ys : List (ℕ × Token)) → IsAny n any xs ys → IsKeyClosed xs → ⊥
  any_not_closed (lone all) n xs ys h closed = all_not_closed all n xs ys h closed
  any_not_closed (or_else any all) n xs ys h closed = any_not_closed any n xs h.0 h.2 closed

  all_not_closed : (all : All Written) (n : ℕ) (xs ys : List (ℕ × Token)) → IsAll n all xs ys → IsKeyClosed xs → ⊥
  all_not_closed (one term) n xs ys h closed = term_not_closed term n xs ys h closed
  all_not_closed (and_also all term) n xs ys h closed = all_not_closed all n xs h.0 h.2 closed

  term_not_closed : (term : Term Written) (n : ℕ) (xs ys : List (ℕ × Token)) → IsTerm n term xs ys → IsKeyClosed xs → ⊥
  term_not_closed (compare w) n xs ys h closed = comparison_not_closed n w xs ys h closed
  term_not_closed (group any) n xs ys h closed = let e : Marked Open ≡ Key closed.0 = same_first _ _ xs h.1 closed.1 h.3.1 closed.3 in cc

-- no filter begins with the end of the text
comparison_not_end : (n : ℕ) (w : Written) (xs ys zs : List (ℕ × Token)) → IsComparison n w xs ys → IsNext End xs zs → ⊥
comparison_not_end n w xs ys zs (inl h) end = let e : Key w.key ≡ End = same_first _ _ xs h.0 zs h.1 end in cc
comparison_not_end n w xs ys zs (inr (inl h)) end = let e : Value h.0 ≡ End = same_first _ _ xs h.2 zs h.4 end in cc
comparison_not_end n w xs ys zs (inr (inr h)) end = let e : Marked Open ≡ End = same_first _ _ xs h.1 zs h.2.1 end in cc

mutual
  pub any_not_end : (any : Any Written) (n : ℕ) (xs ys zs : List (ℕ × Token)) → IsAny n any xs ys → IsNext End xs zs → ⊥
  any_not_end (lone all) n xs ys zs h end = all_not_end all n xs ys zs h end
  any_not_end (or_else any all) n xs ys zs h end = any_not_end any n xs h.0 zs h.2 end

  all_not_end : (all : All Written) (n : ℕ) (xs ys zs : List (ℕ × Token)) → IsAll n all xs ys → IsNext End xs zs → ⊥
  all_not_end (one term) n xs ys zs h end = term_not_end term n xs ys zs h end
  all_not_end (and_also all term) n xs ys zs h end = all_not_end all n xs h.0 zs h.2 end

  term_not_end : (term : Term Written) (n : ℕ) (xs ys zs : List (ℕ × Token)) → IsTerm n term xs ys → IsNext End xs zs → ⊥
  term_not_end (compare w) n xs ys zs h end = comparison_not_end n w xs ys zs h end
  term_not_end (group any) n xs ys zs h end = let e : Marked Open ≡ End = same_first _ _ xs h.1 zs h.3.1 end in cc

-- ---- over terms

-- behind an open parenthesis, where no key alone stands in it
key_opened : (key : List ℕ) (k : ℕ) (l : Level) (ls : List Level) (xs : List (ℕ × Token)) → ((zs : List (ℕ × Token)) → IsMark Close xs zs → ⊥) → run xs (m.open_key key k l ls) ≡ run xs (m.behind_key key (inner k) (l ∷ ls))
key_opened key k l ls [] h = refl
key_opened key k l ls ((place, Marked Close) ∷ xs) h = absurd (h xs (place, refl))
key_opened key k l ls ((place, _) ∷ xs) h = refl

group_opened : (k : ℕ) (l : Level) (ls : List Level) (xs : List (ℕ × Token)) → (IsKeyClosed xs → ⊥) → run xs (m.at_group k l ls) ≡ run xs (m.at_term (inner k) (l ∷ ls))
group_opened k l ls [] h = refl
group_opened k l ls ((place, Key key) ∷ xs) h = key_opened key k l ls xs (λ zs close. h (key, xs, zs, (place, refl), close))
group_opened k l ls ((place, _) ∷ xs) h = refl

over_open : (l : Level) (ls : List Level) (k : ℕ) (xs ys : List (ℕ × Token)) → IsOpen (depth_of l) k xs ys → run xs (m.at_term l ls) ≡ run ys (m.at_group k l ls)
over_open l ls k xs ys h =
    over (Marked Open) xs ys (m.at_term l ls) h.1
    ∙ ap (λ n. follow (m.opened n l ls) (λ t. run ys t)) (h.0 ∙ add-one k)

over_comparison : (w : Written) (l : Level) (ls : List Level) (xs ys : List (ℕ × Token)) → IsComparison (depth_of l) w xs ys → run xs (m.at_term l ls) ≡ run ys (behind_term (compare w) l ls)
over_comparison w l ls xs ys (inl h) = over (Key w.key) xs h.0 (m.at_term l ls) h.1 ∙ over_test w.key l ls w.test h.0 ys h.2
over_comparison w l ls xs ys (inr (inl h)) =
    over (Value h.0) xs h.2 (m.at_term l ls) h.4
    ∙ over (Compare h.1) h.2 h.3 (m.behind_literal h.0 l ls) h.5
    ∙ over (Key w.key) h.3 ys (m.at_key h.0 h.1 l ls) h.6
    ∙ ap (λ (t : Test). run ys (compared w.key t l ls)) (sym h.7)
over_comparison w l ls xs ys (inr (inr h)) =
    over_open l ls h.0 xs h.1 h.2
    ∙ over (Key w.key) h.1 h.3.0 (m.at_group h.0 l ls) h.3.2
    ∙ over (Marked Close) h.3.0 h.3.1 (m.open_key w.key h.0 l ls) h.3.3
    ∙ over_membership w.key l ls w.test h.3.1 ys h.3.4

-- behind what or joins
abbrev pub behind_any : ℕ → Any Written → List Level → State
behind_any n (lone all) ls = m.behind_all n None all ls
behind_any n (or_else any all) ls = m.behind_all n (Some any) all ls

or_behind : (n : ℕ) (any : Any Written) (ls : List Level) (place : ℕ) → step (behind_any n any ls) place (Marked Or) ≡ go (m.at_term (level n (Some any) None) ls)
or_behind n (lone all) ls place = refl
or_behind n (or_else any all) ls place = refl

close_behind : (n : ℕ) (any : Any Written) (l : Level) (ls : List Level) (place : ℕ) → step (behind_any n any (l ∷ ls)) place (Marked Close) ≡ go (behind_term (group any) l ls)
close_behind n (lone all) l ls place = refl
close_behind n (or_else any all) l ls place = refl

pub end_behind : (n : ℕ) (any : Any Written) (place : ℕ) → step (behind_any n any []) place End ≡ m.accept any
end_behind n (lone all) place = refl
end_behind n (or_else any all) place = refl

mutual
  pub over_any : (any : Any Written) (n : ℕ) (ls : List Level) (xs ys : List (ℕ × Token)) → IsAny n any xs ys → run xs (m.at_term (level n None None) ls) ≡ run ys (behind_any n any ls)
  over_any (lone all) n ls xs ys h = over_all all n None ls xs ys h
  over_any (or_else any all) n ls xs ys h =
      over_any any n ls xs h.0 h.2
      ∙ over (Marked Or) h.0 h.1 (behind_any n any ls) h.3
      ∙ ap (λ (next : Next). follow next (λ t. run h.1 t)) (or_behind n any ls h.3.0)
      ∙ over_all all n (Some any) ls h.1 ys h.4

  over_all : (all : All Written) (n : ℕ) (any : Option (Any Written)) (ls : List Level) (xs ys : List (ℕ × Token)) → IsAll n all xs ys → run xs (m.at_term (level n any None) ls) ≡ run ys (m.behind_all n any all ls)
  over_all (one term) n any ls xs ys h = over_term term (level n any None) ls xs ys h
  over_all (and_also all term) n any ls xs ys h =
      over_all all n any ls xs h.0 h.2
      ∙ over (Marked And) h.0 h.1 (m.behind_all n any all ls) h.3
      ∙ over_term term (level n any (Some all)) ls h.1 ys h.4

  over_term : (term : Term Written) (l : Level) (ls : List Level) (xs ys : List (ℕ × Token)) → IsTerm (depth_of l) term xs ys → run xs (m.at_term l ls) ≡ run ys (behind_term term l ls)
  over_term (compare w) l ls xs ys h = over_comparison w l ls xs ys h
  over_term (group any) l ls xs ys h =
      over_open l ls h.0 xs h.1 h.3
      ∙ group_opened h.0 l ls h.1 (any_not_closed any h.0 h.1 h.2 h.4)
      ∙ over_any any h.0 (l ∷ ls) h.1 h.2 h.4
      ∙ over (Marked Close) h.2 ys (behind_any h.0 any (l ∷ ls)) h.5
      ∙ ap (λ (next : Next). follow next (λ t. run ys t)) (close_behind h.0 any l ls h.5.0)

-- ---- where it stops

refuse_term : (l : Level) (ls : List Level) (place : ℕ) (token : Token) → (BeginsTerm token → ⊥) → step (m.at_term l ls) place token ≡ stop (Syntax place)
refuse_term l ls place (Marked Open) h = absurd (h (inl refl))
refuse_term l ls place (Key key) h = absurd (h (inr (inl (key, refl))))
refuse_term l ls place (Value v) h = absurd (h (inr (inr (v, refl))))
refuse_term l ls place _ h = refl

refuse_literal : (literal : Literal) (l : Level) (ls : List Level) (place : ℕ) (token : Token) → (IsAnOperator token → ⊥) → step (m.behind_literal literal l ls) place token ≡ stop (Syntax place)
refuse_literal literal l ls place (Compare operator) h = absurd (h (operator, refl))
refuse_literal literal l ls place _ h = refl

refuse_at_key : (literal : Literal) (operator : Operator) (l : Level) (ls : List Level) (place : ℕ) (token : Token) → (IsAKey token → ⊥) → step (m.at_key literal operator l ls) place token ≡ stop (Syntax place)
refuse_at_key literal operator l ls place (Key key) h = absurd (h (key, refl))
refuse_at_key literal operator l ls place _ h = refl

refuse_close : (n : ℕ) (any : Option (Any Written)) (all : All Written) (l : Level) (ls : List Level) (place : ℕ) (token : Token) → ((IsMarked Close token ⊎ GoesOn token) → ⊥) → step (m.behind_all n any all (l ∷ ls)) place token ≡ stop (Syntax place)
refuse_close n any all l ls place (Marked Close) h = absurd (h (inl refl))
refuse_close n any all l ls place (Marked And) h = absurd (h (inr (inl refl)))
refuse_close n any all l ls place (Marked Or) h = absurd (h (inr (inr refl)))
refuse_close n any all l ls place _ h = refl

refuse_any : (n : ℕ) (any : Any Written) (l : Level) (ls : List Level) (place : ℕ) (token : Token) → ((IsMarked Close token ⊎ GoesOn token) → ⊥) → step (behind_any n any (l ∷ ls)) place token ≡ stop (Syntax place)
refuse_any n (lone all) l ls place token h = refuse_close n None all l ls place token h
refuse_any n (or_else any all) l ls place token h = refuse_close n (Some any) all l ls place token h

refuse_last : (n : ℕ) (any : Option (Any Written)) (all : All Written) (place : ℕ) (token : Token) → ((IsEnd token ⊎ GoesOn token) → ⊥) → step (m.behind_all n any all []) place token ≡ stop (Syntax place)
refuse_last n any all place End h = absurd (h (inl refl))
refuse_last n any all place (Marked And) h = absurd (h (inr (inl refl)))
refuse_last n any all place (Marked Or) h = absurd (h (inr (inr refl)))
refuse_last n any all place _ h = refl

pub refuse_end : (n : ℕ) (any : Any Written) (place : ℕ) (token : Token) → ((IsEnd token ⊎ GoesOn token) → ⊥) → step (behind_any n any []) place token ≡ stop (Syntax place)
refuse_end n (lone all) place token h = refuse_last n None all place token h
refuse_end n (or_else any all) place token h = refuse_last n (Some any) all place token h

mutual
  pub stops_any : (n : ℕ) (fault : FilterFault) (xs : List (ℕ × Token)) → StopsAny n fault xs → (ls : List Level) → run xs (m.at_term (level n None None) ls) ≡ stopped fault
  stops_any _ _ _ (any_first n fault xs h) ls = stops_all n fault xs h None ls
  stops_any _ _ _ (any_later n fault xs a b any is_any mark h) ls =
      over_any any n ls xs a is_any
      ∙ over (Marked Or) a b (behind_any n any ls) mark
      ∙ ap (λ (next : Next). follow next (λ t. run b t)) (or_behind n any ls mark.0)
      ∙ stops_all n fault b h (Some any) ls

  stops_all : (n : ℕ) (fault : FilterFault) (xs : List (ℕ × Token)) → StopsAll n fault xs → (any : Option (Any Written)) (ls : List Level) → run xs (m.at_term (level n any None) ls) ≡ stopped fault
  stops_all _ _ _ (all_first n fault xs h) any ls = stops_term n fault xs h any None ls
  stops_all _ _ _ (all_later n fault xs a b all is_all mark h) any ls =
      over_all all n any ls xs a is_all
      ∙ over (Marked And) a b (m.behind_all n any all ls) mark
      ∙ stops_term n fault b h any (Some all) ls

  stops_term : (n : ℕ) (fault : FilterFault) (xs : List (ℕ × Token)) → StopsTerm n fault xs → (any : Option (Any Written)) (all : Option (All Written)) (ls : List Level) → run xs (m.at_term (level n any all) ls) ≡ stopped fault
  stops_term _ _ _ (no_term n fault xs h) any all ls = refused BeginsTerm fault xs (m.at_term (level n any all) ls) (refuse_term (level n any all) ls) h
  stops_term _ _ _ (one_too_many n fault xs h) any all ls =
      over (Marked Open) xs h.1.0 (m.at_term (level n any all) ls) h.1.1
      ∙ ap (λ d. follow (m.opened d (level n any all) ls) (λ t. run h.1.0 t)) h.0
      ∙ ap stopped (sym h.2)
  stops_term _ _ _ (behind_key n fault xs h) any all ls =
      over (Key h.0) xs h.1 (m.at_term (level n any all) ls) h.2 ∙ stops_test h.0 (level n any all) ls fault h.1 h.3
  stops_term _ _ _ (behind_literal n fault xs (inl h)) any all ls =
      over (Value h.0) xs h.1 (m.at_term (level n any all) ls) h.2
      ∙ refused IsAnOperator fault h.1 (m.behind_literal h.0 (level n any all) ls) (refuse_literal h.0 (level n any all) ls) h.3
  stops_term _ _ _ (behind_literal n fault xs (inr h)) any all ls =
      over (Value h.0) xs h.2 (m.at_term (level n any all) ls) h.4
      ∙ over (Compare h.1) h.2 h.3 (m.behind_literal h.0 (level n any all) ls) h.5
      ∙ refused IsAKey fault h.3 (m.at_key h.0 h.1 (level n any all) ls) (refuse_at_key h.0 h.1 (level n any all) ls) h.6
  stops_term _ _ _ (behind_closed_key n fault xs h) any all ls =
      over_open (level n any all) ls h.0 xs h.1 h.2
      ∙ over (Key h.3.0) h.1 h.3.1 (m.at_group h.0 (level n any all) ls) h.3.3
      ∙ over (Marked Close) h.3.1 h.3.2 (m.open_key h.3.0 h.0 (level n any all) ls) h.3.4
      ∙ stops_membership h.3.0 (level n any all) ls fault h.3.2 h.3.5
  stops_term _ _ _ (in_group n k fault xs a opening not_closed h) any all ls =
      over_open (level n any all) ls k xs a opening
      ∙ group_opened k (level n any all) ls a not_closed
      ∙ stops_any k fault a h (level n any all ∷ ls)
  stops_term _ _ _ (behind_group n k fault xs a b inside opening is_any h) any all ls =
      over_open (level n any all) ls k xs a opening
      ∙ group_opened k (level n any all) ls a (any_not_closed inside k a b is_any)
      ∙ over_any inside k (level n any all ∷ ls) a b is_any
      ∙ refused (λ token. IsMarked Close token ⊎ GoesOn token) fault b (behind_any k inside (level n any all ∷ ls)) (refuse_any k inside (level n any all) ls) h
