-- Where a key is cut.
use Rattle.std.proofs.Common.{◌≡◌, ℕ, zero, suc, ◌<◌, ◌≤◌, Bool, true, false, cond, List, refl, subst, arith}
use Rattle.std.proofs.lemmas.Bool.Decides.{nat_tests}
use Rattle.std.specs.Prelude.{nat_lt}
use Rattle.std.specs.Str.{IsCharBoundary}
use Rattle.rulings.specs.Refusals.{can_cut, last_cut}

cuts : (text : List ℕ) (place : ℕ) → can_cut text place ≡ true → IsCharBoundary text place
cuts text place is = (grind (arith, nat_tests, is), λ inside above. grind (arith, nat_tests, is, inside, above))

cuts_not : (text : List ℕ) (place : ℕ) → can_cut text place ≡ false → IsCharBoundary text place → ⊥
cuts_not text place is can = grind (arith, nat_tests, is, can.0, can.1)

-- the last boundary up to a place is the last place where a text can be cut
pub last_is : (text : List ℕ) (most n : ℕ) → n ≤ most → IsCharBoundary text n → ((i : ℕ) → n < i → i ≤ most → IsCharBoundary text i → ⊥) → n ≡ last_cut text most
last_is text zero n within can none = omega (arith, within)
last_is text (suc most) n within can none =
    by_test (can_cut text (suc most)) refl (nat_lt n (suc most)) refl (λ below. last_is text most n below can (λ i above upto. none i above (omega (arith, upto))))
  where
    by_test : (b : Bool) → can_cut text (suc most) ≡ b → (below : Bool) → nat_lt n (suc most) ≡ below → (n ≤ most → n ≡ last_cut text most) → n ≡ cond b (suc most) (last_cut text most)
    by_test true is true lt lower = absurd (none (suc most) (grind (arith, nat_tests, lt)) (omega arith) (cuts text (suc most) is))
    by_test true is false lt lower = grind (arith, nat_tests, lt, within)
    by_test false is true lt lower = lower (grind (arith, nat_tests, lt))
    by_test false is false lt lower =
        let same : n ≡ suc most = grind (arith, nat_tests, lt, within) in
        absurd (cuts_not text (suc most) is (subst (λ (k : ℕ). IsCharBoundary text k) same can))
