-- A history has as many entries as its callers have made, one after the other.
use Rattle.std.proofs.Common.{◌≡◌, ◌≢◌, ℕ, ◌+◌, ◌≤◌, ◌<◌, zero, suc, length, Bool, true, false, List, [], ◌∷◌, refl, sym, ◌∙◌, ap, arith, eq-eqb}
use Rattle.std.specs.Prelude.{cond, ◌==◌}
use Rattle.std.proofs.lemmas.Bool.{cases_lt}
use Rattle.std.proofs.lemmas.Bool.Decides.{nat_tests}
use mathlib.Core.Logic.{◌⊎◌, inl, inr}
use Rattle.desk.specs.Adds.{own}
use Rattle.desk.specs.History.{Entry}
use Rattle.ms_server.specs.Crews.{count_to}

-- one entry weighs one at its own caller, and nothing at another
abbrev weight : ℕ → Entry → ℕ
weight c e = cond (e.0.caller == c) 1 0

own_more : (c : ℕ) (e : Entry) (es : List Entry) → length (own c (e ∷ es)) ≡ weight c e + length (own c es)
own_more c e es = by_test (e.0.caller == c)
  where
    by_test : (b : Bool) → length (cond b (e ∷ own c es) (own c es)) ≡ cond b 1 0 + length (own c es)
    by_test true = omega arith
    by_test false = omega arith

abbrev weights : ℕ → Entry → ℕ
weights zero e = weight 0 e
weights (suc n) e = weights n e + weight (suc n) e

count_more : (n : ℕ) (e : Entry) (es : List Entry) → count_to n (e ∷ es) ≡ weights n e + count_to n es
count_more zero e es = own_more 0 e es
count_more (suc n) e es =
    let now = own_more (suc n) e es in
    let before = count_more n e es in
    omega (arith, now, before)

no_weight : (c : ℕ) (e : Entry) → e.0.caller ≢ c → weight c e ≡ 0
no_weight c e not =
    let no : (e.0.caller == c) ≡ false = grind (arith, nat_tests, not) in
    ap (λ (b : Bool). cond b 1 0) no

one_weight : (c : ℕ) (e : Entry) → e.0.caller ≡ c → weight c e ≡ 1
one_weight c e is = ap (λ (b : Bool). cond b 1 0) (eq-eqb e.0.caller c is)

weights_above : (n : ℕ) (e : Entry) → n < e.0.caller → weights n e ≡ 0
weights_above zero e above = no_weight 0 e (λ is. omega (arith, above, is))
weights_above (suc n) e above =
    let now : weight (suc n) e ≡ 0 = no_weight (suc n) e (λ is. omega (arith, above, is)) in
    let before = weights_above n e (omega (arith, above)) in
    omega (arith, now, before)

weights_one : (n : ℕ) (e : Entry) → e.0.caller ≤ n → weights n e ≡ 1
weights_one zero e within = one_weight 0 e (omega (arith, within))
weights_one (suc n) e within = by_test (e.0.caller == suc n) refl (λ below. weights_one n e below)
  where
    by_test : (b : Bool) → (e.0.caller == suc n) ≡ b → (e.0.caller ≤ n → weights n e ≡ 1) → weights (suc n) e ≡ 1
    by_test true is before =
        let same : e.0.caller ≡ suc n = grind (arith, nat_tests, is) in
        let now = one_weight (suc n) e same in
        let none = weights_above n e (omega (arith, same)) in
        omega (arith, now, none)
    by_test false is before =
        let not : e.0.caller ≢ suc n = λ same. grind (arith, nat_tests, is, same) in
        let now = no_weight (suc n) e not in
        let one = before (omega (arith, within, not)) in
        omega (arith, now, one)

tail_none : (c : ℕ) (e : Entry) (es : List Entry) → own c (e ∷ es) ≡ [] → own c es ≡ []
tail_none c e es none = by_test (e.0.caller == c) none
  where
    by_test : (b : Bool) → cond b (e ∷ own c es) (own c es) ≡ [] → own c es ≡ []
    by_test true is = grind (arith, is)
    by_test false is = is

head_within : (n : ℕ) (e : Entry) (es : List Entry) → ((c : ℕ) → n < c → own c (e ∷ es) ≡ []) → e.0.caller ≤ n
head_within n e es none = by_case (cases_lt n e.0.caller)
  where
    by_case : (n < e.0.caller) ⊎ (e.0.caller ≤ n) → e.0.caller ≤ n
    by_case (inl above) = let h : e ∷ own e.0.caller es ≡ [] = ap (λ (b : Bool). cond b (e ∷ own e.0.caller es) (own e.0.caller es)) (sym (eq-eqb e.0.caller e.0.caller refl)) ∙ none e.0.caller above in grind (arith, h)
    by_case (inr within) = within

-- where nobody above n has an entry
pub count_all : (n : ℕ) (es : List Entry) → ((c : ℕ) → n < c → own c es ≡ []) → count_to n es ≡ length es
count_all n [] none = none_yet n
  where
    none_yet : (m : ℕ) → count_to m [] ≡ 0
    none_yet zero = refl
    none_yet (suc m) = let h = none_yet m in omega (arith, h)
count_all n (e ∷ es) none =
    let one = weights_one n e (head_within n e es none) in
    let rest = count_all n es (λ c above. tail_none c e es (none c above)) in
    let more = count_more n e es in
    omega (arith, one, rest, more)
