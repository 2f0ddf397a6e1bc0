-- Which values are valid, as a test.
use Rattle.std.proofs.Common.{◌≡◌, ◌≢◌, ◌==◌, ◌&&◌, ◌∙◌, ℕ, Bool, true, false, not, List, [], ◌∷◌, length, refl, sym, inl, inr, ◌⊎◌}
use Rattle.std.specs.Prelude.{nat_le}
use Rattle.std.specs.List.{AllByRecursion, list_all}
use Rattle.std.proofs.lemmas.Bool.{false≢true, le-leb, leb-true}
use Rattle.std.proofs.lemmas.Bool.Decides.{eqb_tells}
use Rattle.std.proofs.lemmas.List.Elements.{All-from_recursion, recursion_from_All}
use Rattle.part_names.specs.Making.{IsValidValue}
use Rattle.ms_calls.specs.Arguments.{is_valid_value}

both : (a b : Bool) → (a && b) ≡ true → (a ≡ true) × (b ≡ true)
both true b is = (refl, is)
both false b is = absurd cc

-- one byte more, by whether it is 0
tested_by : (x : ℕ) (b : Bool) → (((x == 0) ≡ true) × (x ≡ 0)) ⊎ (((x == 0) ≡ false) × (x ≢ 0)) → x ≢ 0 → b ≡ true → (not (x == 0) && b) ≡ true
tested_by x b (inl is) other rest = absurd (other is.1)
tested_by x b (inr is) other rest = λ i. not (is.0 i) && rest i

tested : (xs : List ℕ) → AllByRecursion (λ byte. byte ≢ 0) xs → list_all (λ byte. not (byte == 0)) xs ≡ true
tested [] h = refl
tested (x ∷ xs) h = tested_by x (list_all (λ byte. not (byte == 0)) xs) (eqb_tells x 0) h.0 (tested xs h.1)

found_by : (x : ℕ) → not (x == 0) ≡ true → (((x == 0) ≡ true) × (x ≡ 0)) ⊎ (((x == 0) ≡ false) × (x ≢ 0)) → x ≢ 0
found_by x other (inl is) = absurd (false≢true (sym (λ i. not (is.0 i)) ∙ other))
found_by x other (inr is) = is.1

found : (xs : List ℕ) → list_all (λ byte. not (byte == 0)) xs ≡ true → AllByRecursion (λ byte. byte ≢ 0) xs
found [] h = tt
found (x ∷ xs) h =
    let each = both (not (x == 0)) (list_all (λ byte. not (byte == 0)) xs) h in
    (found_by x each.0 (eqb_tells x 0), found xs each.1)

valid_from : (v : List ℕ) → is_valid_value v ≡ true → IsValidValue v
valid_from v h =
    let each = both (nat_le (length v) 4000) (list_all (λ byte. not (byte == 0)) v) h in
    (leb-true (length v) 4000 each.0, All-from_recursion (λ byte. byte ≢ 0) v (found v each.1))

invalid_by : (v : List ℕ) (b : Bool) → (IsValidValue v → false ≡ true) → is_valid_value v ≡ b → false ≡ b
invalid_by v true only is = absurd (false≢true (only (valid_from v is)))
invalid_by v false only is = refl

-- a test that tells valid values is this one
pub valid : (r : Bool) (v : List ℕ) → (r ≡ true → IsValidValue v) → (IsValidValue v → r ≡ true) → r ≡ is_valid_value v
valid true v told only =
    let is = told refl in
    sym (λ i. le-leb (length v) 4000 is.0 i && tested v (recursion_from_All (λ byte. byte ≢ 0) v is.1) i)
valid false v told only = invalid_by v (is_valid_value v) only refl
