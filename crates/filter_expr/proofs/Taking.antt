-- Tokens up to a last one: from each place on they are a phrase, or stop to be one. Here single tokens, and what stands behind a key.
use Rattle.std.proofs.Common.{◌≡◌, ℕ, zero, suc, ◌<◌, ◌≤◌, Bool, true, false, List, [], ◌∷◌, length, refl, sym, ap, ◌∙◌, subst, arith, inl, inr}
use Rattle.std.specs.Prelude.{◌⊎◌}
use Rattle.std.proofs.lemmas.Bool.{false≢true}
use Rattle.filter_expr.specs.declared.token.Mark.{Mark}
use Rattle.filter_expr.specs.declared.token.Mark.TheVariants.{Open, Close, Comma, And, Or, Not, In, Between}
use Rattle.filter_expr.specs.declared.token.Literal.{Literal}
use Rattle.filter_expr.specs.declared.token.Operator.{Operator}
use Rattle.filter_expr.specs.declared.token.Token.{Token}
use Rattle.filter_expr.specs.declared.token.Token.TheVariants.{Marked, Compare, Key, Value}
use Rattle.filter_expr.specs.declared.tree.Test.TheVariants.{Is, Among, Within}
use Rattle.filter_expr.specs.declared.fault.FilterFault.{FilterFault}
use Rattle.filter_expr.specs.declared.fault.FilterFault.TheVariants.{Syntax, TooDeep}
use Rattle.filter_expr.specs.Grammar.{IsNext, IsMarked, IsAKey, IsALiteral, IsAnOperator, IsLiteral, IsNotFirst, Refuses, StopsLiteral, StopsMark, IsOpen, StopsOpen, AreMore, StopsMore, AreLiterals, StopsLiterals, IsListed, StopsListed, IsCommaOrClose, IsMembers, StopsMembers, IsBounds, StopsBounds, IsBetween, StopsBetween, IsRange, IsInOrBetween, StopsInRange, StopsRange, IsTest, BeginsTest, StopsTest, IsMembership, IsNotOrIn, StopsMembership}
use Rattle.filter_expr.specs.Tokens.{is_last}
use Rattle.filter_expr.proofs.Literals.{first_token}

abbrev pub Places : Type 0
Places = List (ℕ × Token)

-- ---- lists that end

-- the last token is one behind which nothing is read
abbrev pub AreEnded : Places → Type 0
AreEnded [] = ⊥
AreEnded (x ∷ []) = is_last x.1 ≡ true
AreEnded (x ∷ y ∷ xs) = AreEnded (y ∷ xs)

-- the first token
pub record Front (xs : Places) : Type 0 where
  pub place : ℕ
  pub token : Token
  pub rest : Places
  pub is : xs ≡ (place, token) ∷ rest
  pub ended : is_last token ≡ false → AreEnded rest

pub front_of : (xs : Places) → AreEnded xs → Front xs
front_of [] e = absurd e
front_of (x ∷ []) e = record { place = x.0; token = x.1; rest = []; is = refl; ended = (λ f. absurd (false≢true (sym f ∙ e))) }
front_of (x ∷ y ∷ xs) e = record { place = x.0; token = x.1; rest = y ∷ xs; is = refl; ended = (λ _. e) }

-- a token is taken
pub record Step (token : Token) (xs : Places) : Type 0 where
  pub rest : Places
  pub next : IsNext token xs rest
  pub ended : AreEnded rest
  pub shorter : length rest < length xs

pub step : (token : Token) (xs : Places) (f : Front xs) → f.token ≡ token → is_last token ≡ false → Step token xs
step token xs f is goes =
    record {
      rest = f.rest;
      next = (f.place, f.is ∙ ap (λ (t : Token). (f.place, t) ∷ f.rest) is);
      ended = f.ended (ap is_last is ∙ goes);
      shorter = omega (arith, ap (λ (l : Places). length l) f.is);
    }

-- ---- what a phrase comes to

pub record Took {A : Type 0} (P : A → Places → Places → Type 0) (xs : Places) : Type 0 where
  pub value : A
  pub rest : Places
  pub ended : AreEnded rest
  pub within : length rest ≤ length xs
  pub holds : P value xs rest

abbrev pub Outcome : {A : Type 0} → (A → Places → Places → Type 0) → (FilterFault → Places → Type 0) → Places → Type 0
Outcome P S xs = Took P xs ⊎ ((fault : FilterFault) × S fault xs)

pub refused : (May : Token → Type 0) (xs : Places) (f : Front xs) → (May f.token → ⊥) → (fault : FilterFault) × Refuses May fault xs
refused May xs f none = (Syntax f.place, (f.place, f.token, f.rest, f.is, none, refl))

-- what a first token isn't
pub not_first : (May : Token → Type 0) (xs : Places) (f : Front xs) → (May f.token → ⊥) → IsNotFirst May xs
not_first May xs f none place token ys e may =
    let same : token ≡ f.token = ap first_token (sym e ∙ f.is) in
    none (subst May same may)

-- ---- which token it is

pub either : {P Q : Type 0} → P ⊎ (P → ⊥) → Q ⊎ (Q → ⊥) → (P ⊎ Q) ⊎ (P ⊎ Q → ⊥)
either (inl p) d = inl (inl p)
either (inr none) (inl q) = inl (inr q)
either {P} {Q} (inr none) (inr nor) = inr neither
  where
    neither : P ⊎ Q → ⊥
    neither (inl p) = none p
    neither (inr q) = nor q

pub key_or_not : (token : Token) → IsAKey token ⊎ (IsAKey token → ⊥)
key_or_not (Key key) = inl (key, refl)
key_or_not token = inr (λ h. let e : token ≡ Key h.0 = h.1 in cc)

pub literal_or_not : (token : Token) → IsALiteral token ⊎ (IsALiteral token → ⊥)
literal_or_not (Value literal) = inl (literal, refl)
literal_or_not token = inr (λ h. let e : token ≡ Value h.0 = h.1 in cc)

pub operator_or_not : (token : Token) → IsAnOperator token ⊎ (IsAnOperator token → ⊥)
operator_or_not (Compare operator) = inl (operator, refl)
operator_or_not token = inr (λ h. let e : token ≡ Compare h.0 = h.1 in cc)

same_mark : (a b : Mark) → (a ≡ b) ⊎ (a ≡ b → ⊥)
same_mark Open Open = inl refl
same_mark Close Close = inl refl
same_mark Comma Comma = inl refl
same_mark And And = inl refl
same_mark Or Or = inl refl
same_mark Not Not = inl refl
same_mark In In = inl refl
same_mark Between Between = inl refl
same_mark a b = inr (λ (e : a ≡ b). cc)

marked_same : (a b : Mark) → (a ≡ b) ⊎ (a ≡ b → ⊥) → IsMarked b (Marked a) ⊎ (IsMarked b (Marked a) → ⊥)
marked_same a b (inl same) = inl (ap Marked same)
marked_same a b (inr none) = inr (λ (e : Marked a ≡ Marked b). none cc)

pub marked_or_not : (mark : Mark) (token : Token) → IsMarked mark token ⊎ (IsMarked mark token → ⊥)
marked_or_not mark (Marked found) = marked_same found mark (same_mark found mark)
marked_or_not mark token = inr (λ (e : token ≡ Marked mark). cc)

-- ---- single tokens

pub mark_first : (mark : Mark) (xs : Places) (f : Front xs) → IsMarked mark f.token ⊎ (IsMarked mark f.token → ⊥) → Step (Marked mark) xs ⊎ (IsMarked mark f.token → ⊥)
mark_first mark xs f (inl is) = inl (step (Marked mark) xs f is refl)
mark_first mark xs f (inr none) = inr none

literal_first : (xs : Places) (f : Front xs) → IsALiteral f.token ⊎ (IsALiteral f.token → ⊥) → Outcome IsLiteral StopsLiteral xs
literal_first xs f (inl is) = let s = step (Value is.0) xs f is.1 refl in inl (record { value = is.0; rest = s.rest; ended = s.ended; within = omega (arith, s.shorter); holds = s.next })
literal_first xs f (inr none) = inr (refused IsALiteral xs f none)

pub literal_at : (xs : Places) → AreEnded xs → Outcome IsLiteral StopsLiteral xs
literal_at xs e = let f = front_of xs e in literal_first xs f (literal_or_not f.token)

-- a mark that has to stand there
pub needed : (mark : Mark) (xs : Places) → AreEnded xs → Step (Marked mark) xs ⊎ ((fault : FilterFault) × StopsMark mark fault xs)
needed mark xs e = let f = front_of xs e in found (f) (mark_first mark xs f (marked_or_not mark f.token))
  where
    found : (f : Front xs) → Step (Marked mark) xs ⊎ (IsMarked mark f.token → ⊥) → Step (Marked mark) xs ⊎ ((fault : FilterFault) × StopsMark mark fault xs)
    found f (inl s) = inl s
    found f (inr none) = inr (refused (IsMarked mark) xs f none)

-- one that may
pub wanted : (mark : Mark) (xs : Places) → AreEnded xs → Step (Marked mark) xs ⊎ IsNotFirst (IsMarked mark) xs
wanted mark xs e = let f = front_of xs e in found (f) (mark_first mark xs f (marked_or_not mark f.token))
  where
    found : (f : Front xs) → Step (Marked mark) xs ⊎ (IsMarked mark f.token → ⊥) → Step (Marked mark) xs ⊎ IsNotFirst (IsMarked mark) xs
    found f (inl s) = inl s
    found f (inr none) = inr (not_first (IsMarked mark) xs f none)

open_found : (n : ℕ) (xs : Places) → Step (Marked Open) xs → Outcome (λ (k : ℕ). IsOpen n k) (StopsOpen n) xs
open_found zero xs s = inr (TooDeep, inr (refl, (s.rest, s.next), refl))
open_found (suc k) xs s = inl (record { value = k; rest = s.rest; ended = s.ended; within = omega (arith, s.shorter); holds = (omega (arith), s.next) })

open_needed : (n : ℕ) (xs : Places) → Step (Marked Open) xs ⊎ ((fault : FilterFault) × StopsMark Open fault xs) → Outcome (λ (k : ℕ). IsOpen n k) (StopsOpen n) xs
open_needed n xs (inl s) = open_found n xs s
open_needed n xs (inr h) = inr (h.0, inl h.1)

pub open_at : (n : ℕ) (xs : Places) → AreEnded xs → Outcome (λ (k : ℕ). IsOpen n k) (StopsOpen n) xs
open_at n xs e = open_needed n xs (needed Open xs e)

-- ---- lists of literals

abbrev IsMoreNoComma : List Literal → Places → Places → Type 0
IsMoreNoComma literals xs ys = AreMore literals xs ys × IsNotFirst (IsMarked Comma) ys

more_after : (xs : Places) (s : Step (Marked Comma) xs) (t : Took IsLiteral s.rest) → Outcome IsMoreNoComma StopsMore t.rest → Outcome IsMoreNoComma StopsMore xs
more_after xs s t (inl m) =
    inl (record { value = t.value ∷ m.value; rest = m.rest; ended = m.ended; within = omega (arith, s.shorter, t.within, m.within); holds = ((s.rest, t.rest, s.next, t.holds, m.holds.0), m.holds.1) })
more_after xs s t (inr h) = let k = h.1 in inr (h.0, (t.value ∷ k.0, k.1, k.2, (s.rest, t.rest, s.next, t.holds, k.3), k.4, k.5))

more_literal : (fuel : ℕ) (xs : Places) (s : Step (Marked Comma) xs) → ((ys : Places) → AreEnded ys → length ys < fuel → Outcome IsMoreNoComma StopsMore ys) → length xs < suc fuel → Outcome IsLiteral StopsLiteral s.rest → Outcome IsMoreNoComma StopsMore xs
more_literal fuel xs s others few (inl t) = more_after xs s t (others t.rest t.ended (omega (arith, few, s.shorter, t.within)))
more_literal fuel xs s others few (inr h) = inr (h.0, ([], xs, s.rest, refl, s.next, h.1))

more_comma : (fuel : ℕ) (xs : Places) → AreEnded xs → ((ys : Places) → AreEnded ys → length ys < fuel → Outcome IsMoreNoComma StopsMore ys) → length xs < suc fuel → Step (Marked Comma) xs ⊎ IsNotFirst (IsMarked Comma) xs → Outcome IsMoreNoComma StopsMore xs
more_comma fuel xs e others few (inl s) = more_literal fuel xs s others few (literal_at s.rest s.ended)
more_comma fuel xs e others few (inr none) = inl (record { value = []; rest = xs; ended = e; within = omega (arith); holds = (refl, none) })

more_at : (fuel : ℕ) (xs : Places) → AreEnded xs → length xs < fuel → Outcome IsMoreNoComma StopsMore xs
more_at zero xs e few = absurd (omega (arith, few))
more_at (suc fuel) xs e few = more_comma fuel xs e (more_at fuel) few (wanted Comma xs e)

abbrev AreLiteralsNoComma : List Literal → Places → Places → Type 0
AreLiteralsNoComma literals xs ys = AreLiterals literals xs ys × IsNotFirst (IsMarked Comma) ys

literals_after : (xs : Places) (t : Took IsLiteral xs) → Outcome IsMoreNoComma StopsMore t.rest → Outcome AreLiteralsNoComma StopsLiterals xs
literals_after xs t (inl m) = inl (record { value = t.value ∷ m.value; rest = m.rest; ended = m.ended; within = omega (arith, t.within, m.within); holds = ((t.rest, t.holds, m.holds.0), m.holds.1) })
literals_after xs t (inr h) = inr (h.0, inr (t.value, t.rest, t.holds, h.1))

literals_first : (xs : Places) → Outcome IsLiteral StopsLiteral xs → Outcome AreLiteralsNoComma StopsLiterals xs
literals_first xs (inl t) = literals_after xs t (more_at (suc (length t.rest)) t.rest t.ended (omega arith))
literals_first xs (inr h) = inr (h.0, inl h.1)

listed_close : (n : ℕ) (xs : Places) (o : Took (λ (k : ℕ). IsOpen n k) xs) (t : Took AreLiteralsNoComma o.rest) → Step (Marked Close) t.rest ⊎ ((fault : FilterFault) × StopsMark Close fault t.rest) → Outcome (IsListed n) (StopsListed n) xs
listed_close n xs o t (inl s) =
    inl (record { value = t.value; rest = s.rest; ended = s.ended; within = omega (arith, o.within, t.within, s.shorter); holds = (o.value, o.rest, t.rest, o.holds, t.holds.0, s.next) })
listed_close n xs o t (inr h) = inr (h.0, inr (inr (o.value, t.value, o.rest, t.rest, o.holds, t.holds.0, comma_or_close t.rest h.0 h.1 t.holds.1)))
  where
    comma_or_close : (ys : Places) (fault : FilterFault) → StopsMark Close fault ys → IsNotFirst (IsMarked Comma) ys → Refuses IsCommaOrClose fault ys
    comma_or_close ys fault k none = (k.0, k.1, k.2, k.3, neither k.1 (none k.0 k.1 k.2 k.3) k.4, k.5)
      where
        neither : (token : Token) → (IsMarked Comma token → ⊥) → (IsMarked Close token → ⊥) → IsCommaOrClose token → ⊥
        neither token a b (inl c) = a c
        neither token a b (inr c) = b c

listed_literals : (n : ℕ) (xs : Places) (o : Took (λ (k : ℕ). IsOpen n k) xs) → Outcome AreLiteralsNoComma StopsLiterals o.rest → Outcome (IsListed n) (StopsListed n) xs
listed_literals n xs o (inl t) = listed_close n xs o t (needed Close t.rest t.ended)
listed_literals n xs o (inr h) = inr (h.0, inr (inl (o.value, o.rest, o.holds, h.1)))

listed_open : (n : ℕ) (xs : Places) → Outcome (λ (k : ℕ). IsOpen n k) (StopsOpen n) xs → Outcome (IsListed n) (StopsListed n) xs
listed_open n xs (inl o) = listed_literals n xs o (literals_first o.rest (literal_at o.rest o.ended))
listed_open n xs (inr h) = inr (h.0, inl h.1)

-- ---- ranges

members_listed : (n : ℕ) (positive : Bool) (xs : Places) (s : Step (Marked In) xs) → Outcome (IsListed n) (StopsListed n) s.rest → Outcome (IsMembers n positive) (StopsMembers n) xs
members_listed n positive xs s (inl t) = inl (record { value = Among positive t.value; rest = t.rest; ended = t.ended; within = omega (arith, s.shorter, t.within); holds = (t.value, s.rest, s.next, t.holds, refl) })
members_listed n positive xs s (inr h) = inr (h.0, (s.rest, s.next, h.1))

pub members_behind : (n : ℕ) (positive : Bool) (xs : Places) → Step (Marked In) xs → Outcome (IsMembers n positive) (StopsMembers n) xs
members_behind n positive xs s = members_listed n positive xs s (listed_open n s.rest (open_at n s.rest s.ended))

abbrev IsBoth : Literal × Literal → Places → Places → Type 0
IsBoth both = IsBounds both.0 both.1

bounds_high : (xs : Places) (l : Took IsLiteral xs) (s : Step (Marked And) l.rest) → Outcome IsLiteral StopsLiteral s.rest → Outcome IsBoth StopsBounds xs
bounds_high xs l s (inl h) = inl (record { value = (l.value, h.value); rest = h.rest; ended = h.ended; within = omega (arith, l.within, s.shorter, h.within); holds = (l.rest, s.rest, l.holds, s.next, h.holds) })
bounds_high xs l s (inr h) = inr (h.0, inr (inr (l.value, l.rest, s.rest, l.holds, s.next, h.1)))

bounds_and : (xs : Places) (l : Took IsLiteral xs) → Step (Marked And) l.rest ⊎ ((fault : FilterFault) × StopsMark And fault l.rest) → Outcome IsBoth StopsBounds xs
bounds_and xs l (inl s) = bounds_high xs l s (literal_at s.rest s.ended)
bounds_and xs l (inr h) = inr (h.0, inr (inl (l.value, l.rest, l.holds, h.1)))

bounds_low : (xs : Places) → Outcome IsLiteral StopsLiteral xs → Outcome IsBoth StopsBounds xs
bounds_low xs (inl l) = bounds_and xs l (needed And l.rest l.ended)
bounds_low xs (inr h) = inr (h.0, inl h.1)

between_bounds : (positive : Bool) (xs : Places) (s : Step (Marked Between) xs) → Outcome IsBoth StopsBounds s.rest → Outcome (IsBetween positive) StopsBetween xs
between_bounds positive xs s (inl t) =
    inl (record { value = Within positive t.value.0 t.value.1; rest = t.rest; ended = t.ended; within = omega (arith, s.shorter, t.within); holds = (t.value.0, t.value.1, s.rest, s.next, t.holds, refl) })
between_bounds positive xs s (inr h) = inr (h.0, (s.rest, s.next, h.1))

between_behind : (positive : Bool) (xs : Places) → Step (Marked Between) xs → Outcome (IsBetween positive) StopsBetween xs
between_behind positive xs s = between_bounds positive xs s (bounds_low s.rest (literal_at s.rest s.ended))

range_members : (n : ℕ) (positive : Bool) (xs : Places) → Outcome (IsMembers n positive) (StopsMembers n) xs → Outcome (IsRange n positive) (StopsInRange n) xs
range_members n positive xs (inl t) = inl (record { value = t.value; rest = t.rest; ended = t.ended; within = t.within; holds = inl t.holds })
range_members n positive xs (inr h) = inr (h.0, inl h.1)

range_between : (n : ℕ) (positive : Bool) (xs : Places) → Outcome (IsBetween positive) StopsBetween xs → Outcome (IsRange n positive) (StopsInRange n) xs
range_between n positive xs (inl t) = inl (record { value = t.value; rest = t.rest; ended = t.ended; within = t.within; holds = inr t.holds })
range_between n positive xs (inr h) = inr (h.0, inr h.1)

in_range : (n : ℕ) (positive : Bool) (xs : Places) (f : Front xs) → IsInOrBetween f.token → Outcome (IsRange n positive) (StopsInRange n) xs
in_range n positive xs f (inl is) = range_members n positive xs (members_behind n positive xs (step (Marked In) xs f is refl))
in_range n positive xs f (inr is) = range_between n positive xs (between_behind positive xs (step (Marked Between) xs f is refl))

range_told : (n : ℕ) (positive : Bool) (xs : Places) → Outcome (IsRange n positive) (StopsInRange n) xs → Outcome (IsRange n positive) (StopsRange n) xs
range_told n positive xs (inl t) = inl t
range_told n positive xs (inr h) = inr (h.0, inr h.1)

range_first : (n : ℕ) (positive : Bool) (xs : Places) (f : Front xs) → IsInOrBetween f.token ⊎ (IsInOrBetween f.token → ⊥) → Outcome (IsRange n positive) (StopsRange n) xs
range_first n positive xs f (inl is) = range_told n positive xs (in_range n positive xs f is)
range_first n positive xs f (inr none) = let h = refused IsInOrBetween xs f none in inr (h.0, inl h.1)

in_or_between : (token : Token) → IsInOrBetween token ⊎ (IsInOrBetween token → ⊥)
in_or_between token = either (marked_or_not In token) (marked_or_not Between token)

range_at : (n : ℕ) (positive : Bool) (xs : Places) → AreEnded xs → Outcome (IsRange n positive) (StopsRange n) xs
range_at n positive xs e = let f = front_of xs e in range_first n positive xs f (in_or_between f.token)

-- ---- what stands behind a key

test_relation : (n : ℕ) (xs : Places) (operator : Operator) (s : Step (Compare operator) xs) → Outcome IsLiteral StopsLiteral s.rest → Outcome (IsTest n) (StopsTest n) xs
test_relation n xs operator s (inl t) = inl (record { value = Is operator t.value; rest = t.rest; ended = t.ended; within = omega (arith, s.shorter, t.within); holds = inl (operator, t.value, s.rest, s.next, t.holds, refl) })
test_relation n xs operator s (inr h) = inr (h.0, inr (inl (operator, s.rest, s.next, h.1)))

test_range : (n : ℕ) (xs : Places) → Outcome (IsRange n true) (StopsInRange n) xs → Outcome (IsTest n) (StopsTest n) xs
test_range n xs (inl t) = inl (record { value = t.value; rest = t.rest; ended = t.ended; within = t.within; holds = inr (inl t.holds) })
test_range n xs (inr h) = inr (h.0, inr (inr (inl h.1)))

test_not : (n : ℕ) (xs : Places) (s : Step (Marked Not) xs) → Outcome (IsRange n false) (StopsRange n) s.rest → Outcome (IsTest n) (StopsTest n) xs
test_not n xs s (inl t) = inl (record { value = t.value; rest = t.rest; ended = t.ended; within = omega (arith, s.shorter, t.within); holds = inr (inr (s.rest, s.next, t.holds)) })
test_not n xs s (inr h) = inr (h.0, inr (inr (inr (s.rest, s.next, h.1))))

test_first : (n : ℕ) (xs : Places) (f : Front xs) → BeginsTest f.token ⊎ (BeginsTest f.token → ⊥) → Outcome (IsTest n) (StopsTest n) xs
test_first n xs f (inl (inl is)) = let s = step (Compare is.0) xs f is.1 refl in test_relation n xs is.0 s (literal_at s.rest s.ended)
test_first n xs f (inl (inr (inl is))) = let s = step (Marked Not) xs f is refl in test_not n xs s (range_at n false s.rest s.ended)
test_first n xs f (inl (inr (inr is))) = test_range n xs (in_range n true xs f is)
test_first n xs f (inr none) = let h = refused BeginsTest xs f none in inr (h.0, inl h.1)

pub test_at : (n : ℕ) (xs : Places) → AreEnded xs → Outcome (IsTest n) (StopsTest n) xs
test_at n xs e = let f = front_of xs e in test_first n xs f (either (operator_or_not f.token) (either (marked_or_not Not f.token) (in_or_between f.token)))

membership_in : (n : ℕ) (xs : Places) → Outcome (IsMembers n true) (StopsMembers n) xs → Outcome (IsMembership n) (StopsMembership n) xs
membership_in n xs (inl t) = inl (record { value = t.value; rest = t.rest; ended = t.ended; within = t.within; holds = inl t.holds })
membership_in n xs (inr h) = inr (h.0, inr (inl h.1))

membership_not_in : (n : ℕ) (xs : Places) (s : Step (Marked Not) xs) → Outcome (IsMembers n false) (StopsMembers n) s.rest → Outcome (IsMembership n) (StopsMembership n) xs
membership_not_in n xs s (inl t) = inl (record { value = t.value; rest = t.rest; ended = t.ended; within = omega (arith, s.shorter, t.within); holds = inr (s.rest, s.next, t.holds) })
membership_not_in n xs s (inr h) = inr (h.0, inr (inr (s.rest, s.next, inr h.1)))

membership_not : (n : ℕ) (xs : Places) (s : Step (Marked Not) xs) → Step (Marked In) s.rest ⊎ ((fault : FilterFault) × StopsMark In fault s.rest) → Outcome (IsMembership n) (StopsMembership n) xs
membership_not n xs s (inl t) = membership_not_in n xs s (members_behind n false s.rest t)
membership_not n xs s (inr h) = inr (h.0, inr (inr (s.rest, s.next, inl h.1)))

membership_first : (n : ℕ) (xs : Places) (f : Front xs) → IsNotOrIn f.token ⊎ (IsNotOrIn f.token → ⊥) → Outcome (IsMembership n) (StopsMembership n) xs
membership_first n xs f (inl (inl is)) = let s = step (Marked Not) xs f is refl in membership_not n xs s (needed In s.rest s.ended)
membership_first n xs f (inl (inr is)) = membership_in n xs (members_behind n true xs (step (Marked In) xs f is refl))
membership_first n xs f (inr none) = let h = refused IsNotOrIn xs f none in inr (h.0, inl h.1)

pub membership_at : (n : ℕ) (xs : Places) → AreEnded xs → Outcome (IsMembership n) (StopsMembership n) xs
membership_at n xs e = let f = front_of xs e in membership_first n xs f (either (marked_or_not Not f.token) (marked_or_not In f.token))
