-- The number that digits spell.
use Rattle.std.proofs.Common.{◌≡◌, ℕ, ◌+◌, ◌<◌, ◌≤◌, ◌^◌, Bool, true, false, List, [], ◌∷◌, drop, get_or, length, refl, sym, ap, ◌∙◌, arith, Some, None, add-one, drop-cons, if◌then◌else◌}
use Rattle.std.specs.List.{fold, list_all}
use Rattle.std.specs.Char.{is_ascii_digit}
use Rattle.std.proofs.lemmas.Bool.{lt-ltb}
use Rattle.filter_expr.specs.Integers.{grown, number, up_to}

-- more digits make no smaller number
grown_least : (digits : List ℕ) (n : ℕ) → n ≤ fold grown n digits
grown_least [] n = omega arith
grown_least (d ∷ ds) n = omega (arith, grown_least ds (grown n d))

above_limit : (digits rest : List ℕ) (limit n d : ℕ) → limit < 2 ^ 64 → 2 ^ 64 ≤ grown n d → fold grown n (d ∷ rest) ≡ fold grown 0 digits → up_to limit (number digits) ≡ None
above_limit [] rest limit n d small large e = refl
above_limit (x ∷ xs) rest limit n d small large e =
    let above : limit < fold grown 0 (x ∷ xs) = omega (arith, grown_least rest (grown n d), e) in
    go (list_all is_ascii_digit (x ∷ xs)) (fold grown 0 (x ∷ xs)) above
  where
    go : (b : Bool) (m : ℕ) → limit < m → up_to limit (if b then Some m else None) ≡ None
    go true m h = rw (lt-ltb limit m h) refl
    go false m h = refl

-- digits whose number grows out of u64 are above each limit of u64
pub too_large : (digits : List ℕ) (i limit n : ℕ) → i < length digits → limit < 2 ^ 64 → 2 ^ 64 ≤ grown n (get_or digits i 0) → fold grown n (drop i digits) ≡ fold grown 0 digits → None ≡ up_to limit (number digits)
too_large digits i limit n within small large e = sym (above_limit digits (drop (i + 1) digits) limit n (get_or digits i 0) small large (rw (add-one i) (ap (fold grown n) (sym (drop-cons digits i 0 within)) ∙ e)))

pub no_digit : (digits : List ℕ) (limit : ℕ) → list_all is_ascii_digit digits ≡ false → up_to limit (number digits) ≡ None
no_digit [] limit e = refl
no_digit (x ∷ xs) limit e = go (list_all is_ascii_digit (x ∷ xs)) (fold grown 0 (x ∷ xs)) e
  where
    go : (b : Bool) (m : ℕ) → b ≡ false → up_to limit (if b then Some m else None) ≡ None
    go true m h = cc
    go false m h = refl

pub is_number : (digits : List ℕ) (n : ℕ) → 0 < length digits → list_all is_ascii_digit digits ≡ true → n ≡ fold grown 0 digits → number digits ≡ Some n
is_number [] n some e f = absurd (omega arith)
is_number (x ∷ xs) n some e f = rw e (ap Some (sym f))
