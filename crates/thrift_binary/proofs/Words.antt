-- Short lists of bytes.
use Rattle.std.proofs.Common.{◌≡◌, ℕ, List, [], ◌∷◌, length, get_or, refl, arith}

-- a list of one number
pub single : (xs : List ℕ) → length xs ≡ 1 → xs ≡ get_or xs 0 0 ∷ []
single [] e = absurd (omega (arith, e))
single (x ∷ []) e = refl
single (x ∷ y ∷ ys) e = absurd (omega (arith, e))

-- of four
pub four : (xs : List ℕ) → length xs ≡ 4 → xs ≡ get_or xs 0 0 ∷ get_or xs 1 0 ∷ get_or xs 2 0 ∷ get_or xs 3 0 ∷ []
four [] e = absurd (omega (arith, e))
four (a ∷ []) e = absurd (omega (arith, e))
four (a ∷ b ∷ []) e = absurd (omega (arith, e))
four (a ∷ b ∷ c ∷ []) e = absurd (omega (arith, e))
four (a ∷ b ∷ c ∷ d ∷ []) e = refl
four (a ∷ b ∷ c ∷ d ∷ x ∷ xs) e = absurd (omega (arith, e))

-- of five
pub five : (xs : List ℕ) → length xs ≡ 5 → xs ≡ get_or xs 0 0 ∷ get_or xs 1 0 ∷ get_or xs 2 0 ∷ get_or xs 3 0 ∷ get_or xs 4 0 ∷ []
five [] e = absurd (omega (arith, e))
five (a ∷ []) e = absurd (omega (arith, e))
five (a ∷ b ∷ []) e = absurd (omega (arith, e))
five (a ∷ b ∷ c ∷ []) e = absurd (omega (arith, e))
five (a ∷ b ∷ c ∷ d ∷ []) e = absurd (omega (arith, e))
five (a ∷ b ∷ c ∷ d ∷ x ∷ []) e = refl
five (a ∷ b ∷ c ∷ d ∷ x ∷ y ∷ xs) e = absurd (omega (arith, e))

-- of six
pub six : (xs : List ℕ) → length xs ≡ 6 → xs ≡ get_or xs 0 0 ∷ get_or xs 1 0 ∷ get_or xs 2 0 ∷ get_or xs 3 0 ∷ get_or xs 4 0 ∷ get_or xs 5 0 ∷ []
six [] e = absurd (omega (arith, e))
six (a ∷ []) e = absurd (omega (arith, e))
six (a ∷ b ∷ []) e = absurd (omega (arith, e))
six (a ∷ b ∷ c ∷ []) e = absurd (omega (arith, e))
six (a ∷ b ∷ c ∷ d ∷ []) e = absurd (omega (arith, e))
six (a ∷ b ∷ c ∷ d ∷ x ∷ []) e = absurd (omega (arith, e))
six (a ∷ b ∷ c ∷ d ∷ x ∷ y ∷ []) e = refl
six (a ∷ b ∷ c ∷ d ∷ x ∷ y ∷ z ∷ xs) e = absurd (omega (arith, e))
