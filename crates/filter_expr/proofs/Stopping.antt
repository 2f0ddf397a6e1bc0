-- Where tokens stop to be a term, and what or joins.
use Rattle.std.proofs.Common.{◌≡◌, ℕ, Bool, true, false, List, ◌∷◌, ◌++◌, length, sym, ap, ◌∙◌, inl, inr}
use Rattle.std.specs.Prelude.{◌⊎◌}
use Rattle.std.specs.Bool.{OnFalse}
use Rattle.std.proofs.lemmas.Bool.{false≢true}
use Rattle.filter_expr.specs.declared.token.Mark.TheVariants.{Open, Close}
use Rattle.filter_expr.specs.declared.token.Token.{Token}
use Rattle.filter_expr.specs.declared.token.Token.TheVariants.{Marked}
use Rattle.filter_expr.specs.declared.tree.Written.{Written}
use Rattle.filter_expr.specs.declared.tree.Step.{Step}
use Rattle.filter_expr.specs.declared.tree.Step.TheVariants.{Skip}
use Rattle.filter_expr.specs.declared.fault.FilterFault.{FilterFault}
use Rattle.filter_expr.specs.Trees.{Any, All, Term, or_else, and_also, any_steps, all_steps, term_steps}
use Rattle.filter_expr.specs.Grammar.{BeginsWith, Refuses, IsNotFirst, IsMarked, GoesOn, IsOpen, IsKeyFirst, IsLiteralFirst, IsClosedKey, IsComparison, IsKeyOrLiteral, StopsBare, StopsOpen, StopsClosedKey, StopsTerm, StopsAll, StopsAny, StopsLaterAll, StopsLaterTerm, IsAny, IsAll, IsLaterAll, IsLaterTerm, no_term, one_too_many, behind_key, behind_literal, behind_closed_key, behind_group, all_later, any_later, StopsMark, IsKeyClosed, IsEnd, StopsFilter}
use Rattle.filter_expr.proofs.Literals.{first_token}
use Rattle.filter_expr.proofs.Skips.{joined}

either_is : {A B C : Type 0} → (A → C) → (B → C) → A ⊎ B → C
either_is f g (inl a) = f a
either_is f g (inr b) = g b

-- a token that is refused is none of some others either
pub refuses_also : (A B : Token → Type 0) (fault : FilterFault) (xs : List (ℕ × Token)) → Refuses A fault xs → IsNotFirst B xs → Refuses (λ token. A token ⊎ B token) fault xs
refuses_also A B fault xs h none = (h.0, h.1, h.2, h.3, either_is h.4 (none h.0 h.1 h.2 h.3), h.5)

swap_refused : (A B : Token → Type 0) (fault : FilterFault) (xs : List (ℕ × Token)) → Refuses A fault xs → IsNotFirst B xs → Refuses (λ token. B token ⊎ A token) fault xs
swap_refused A B fault xs h none = (h.0, h.1, h.2, h.3, either_is (none h.0 h.1 h.2 h.3) h.4, h.5)

-- ---- terms

pub bare_stops : (n : ℕ) (fault : FilterFault) (xs : List (ℕ × Token)) → IsNotFirst (IsMarked Open) xs → StopsBare n fault xs → StopsTerm n fault xs
bare_stops n fault xs none (inl h) = no_term n fault xs (swap_refused IsKeyOrLiteral (IsMarked Open) fault xs h none)
bare_stops n fault xs none (inr (inl h)) = behind_key n fault xs h
bare_stops n fault xs none (inr (inr h)) = behind_literal n fault xs h

pub bare_term : (n : ℕ) (w : Written) (xs ys : List (ℕ × Token)) → IsKeyFirst n w xs ys ⊎ IsLiteralFirst w xs ys → IsComparison n w xs ys
bare_term n w xs ys (inl h) = inl h
bare_term n w xs ys (inr h) = inr (inl h)

pub open_stops : (n : ℕ) (fault : FilterFault) (xs : List (ℕ × Token)) → BeginsWith (Marked Open) xs → StopsOpen n fault xs → StopsTerm n fault xs
open_stops n fault xs begins (inl h) =
    let same : (h.0, h.1) ∷ h.2 ≡ (begins.1.0, Marked Open) ∷ begins.0 = sym h.3 ∙ begins.1.1 in
    absurd (h.4 (ap first_token same))
open_stops n fault xs begins (inr h) = one_too_many n fault xs h

pub closed_stops : (n k : ℕ) (fault : FilterFault) (xs a : List (ℕ × Token)) → IsOpen n k xs a → StopsClosedKey n fault a → StopsTerm n fault xs
closed_stops n k fault xs a opened h = behind_closed_key n fault xs (k, a, opened, h)

pub closed_term : (n k : ℕ) (w : Written) (xs a ys : List (ℕ × Token)) → IsOpen n k xs a → IsClosedKey n w a ys → IsComparison n w xs ys
closed_term n k w xs a ys opened h = inr (inr (k, a, opened, h))

pub group_stops : (n k : ℕ) (fault : FilterFault) (xs a b : List (ℕ × Token)) (any : Any Written) → IsOpen n k xs a → IsAny k any a b → IsNotFirst GoesOn b → StopsMark Close fault b → StopsTerm n fault xs
group_stops n k fault xs a b any opened h none stop = behind_group n k fault xs a b any opened h (refuses_also (IsMarked Close) GoesOn fault b stop none)

pub not_closed : (xs : List (ℕ × Token)) (is : Bool) → is ≡ false → OnFalse is (IsKeyClosed xs → ⊥) → IsKeyClosed xs → ⊥
not_closed xs true e h = absurd (false≢true (sym e))
not_closed xs false e h = h

-- ---- what and joins, and what or joins

pub later_term_stops : (n : ℕ) (fault : FilterFault) (xs a : List (ℕ × Token)) (old now : List (Step Written)) → ((all : All Written) × IsAll n all xs a × (now ≡ old ++ all_steps all)) → StopsLaterTerm n fault a → StopsAll n fault xs
later_term_stops n fault xs a old now so_far h = all_later n fault xs a h.0 so_far.0 so_far.1 h.1 h.2

pub later_all_stops : (n : ℕ) (fault : FilterFault) (xs a : List (ℕ × Token)) (old now : List (Step Written)) → ((any : Any Written) × IsAny n any xs a × (now ≡ old ++ any_steps any)) → StopsLaterAll n fault a → StopsAny n fault xs
later_all_stops n fault xs a old now so_far h = any_later n fault xs a h.0 so_far.0 so_far.1 h.1 h.2

pub one_term_more : (n : ℕ) (xs a ys : List (ℕ × Token)) (old now new : List (Step Written)) → ((all : All Written) × IsAll n all xs a × (now ≡ old ++ all_steps all)) → ((term : Term Written) × IsLaterTerm n term a ys × (new ≡ now ++ Skip false (length (term_steps term)) ∷ term_steps term)) → (all : All Written) × IsAll n all xs ys × (new ≡ old ++ all_steps all)
one_term_more n xs a ys old now new so_far h =
    (and_also so_far.0 h.0, (a, h.1.0, so_far.1, h.1.1, h.1.2), joined old now new (all_steps so_far.0) (term_steps h.0) (Skip false (length (term_steps h.0))) so_far.2 h.2)

pub one_all_more : (n : ℕ) (xs a ys : List (ℕ × Token)) (old now new : List (Step Written)) → ((any : Any Written) × IsAny n any xs a × (now ≡ old ++ any_steps any)) → ((all : All Written) × IsLaterAll n all a ys × (new ≡ now ++ Skip true (length (all_steps all)) ∷ all_steps all)) → (any : Any Written) × IsAny n any xs ys × (new ≡ old ++ any_steps any)
one_all_more n xs a ys old now new so_far h =
    (or_else so_far.0 h.0, (a, h.1.0, so_far.1, h.1.1, h.1.2), joined old now new (any_steps so_far.0) (all_steps h.0) (Skip true (length (all_steps h.0))) so_far.2 h.2)

-- ---- whole filters

pub filter_stops : (fault : FilterFault) (xs : List (ℕ × Token)) → IsNotFirst IsEnd xs → StopsAny 64 fault xs → StopsFilter fault xs
filter_stops fault xs none h = inl (none, h)
