-- What undoing the escapes of a text does at its front.
use Rattle.std.proofs.Common.{◌≡◌, ◌≢◌, ℕ, suc, ◌+◌, ◌*◌, ◌<◌, ◌≤◌, Bool, true, false, List, [], ◌∷◌, ◌++◌, length, get_or, drop, refl, sym, ap, ◌∙◌, lit<, arith}
use Rattle.std.proofs.lemmas.Bool.{ltb-true}
use Rattle.std.proofs.lemmas.Bool.Decides.{nat_tests}
use Rattle.std.proofs.lemmas.List.{append-nil, append_assoc, length-append}
use Rattle.std.proofs.lemmas.Str.{IsCharBoundary-after_ascii, encode_ascii, length-encode}
use Rattle.std.specs.Char.{digit_value, is_digit}
use Rattle.std.specs.Prelude.{encode_utf8, IsUtf8, IsCharBoundary, ◌==◌, ◌&&◌, if◌then◌else◌}
use Rattle.part_names.specs.Reading.{is_escape, unescaped}

-- a hexadecimal digit is ASCII
low_digit : (mark high low : ℕ) → is_escape mark high low ≡ true → low < 128
low_digit mark high low e = grind (arith, nat_tests)

both : (a b : Bool) → (a && b) ≡ true → (a ≡ true) × (b ≡ true)
both true true e = (refl, refl)
both true false e = (refl, e)
both false b e = (e, absurd (cc))

-- the digits of an escape are hexadecimal
digits_below : (mark high low : ℕ) → is_escape mark high low ≡ true → (digit_value high < 16) × (digit_value low < 16)
digits_below mark high low e =
    let digits = both (is_digit high 16) (is_digit low 16) (both (mark == 37) (is_digit high 16 && is_digit low 16) e).1 in
    (ltb-true (digit_value high) 16 digits.0, ltb-true (digit_value low) 16 digits.1)

-- the two digits of an escape may be cut off
pub past_digits : (text : List ℕ) → IsUtf8 text → 2 ≤ length text → is_escape 37 (get_or text 0 0) (get_or text 1 0) ≡ true → IsCharBoundary text 2
past_digits text utf8 within e = IsCharBoundary-after_ascii text 1 utf8 (omega arith) (low_digit 37 (get_or text 0 0) (get_or text 1 0) e)

-- an escape at the front becomes its character
pub unescaped-digits : (text : List ℕ) → 2 ≤ length text → is_escape 37 (get_or text 0 0) (get_or text 1 0) ≡ true →
    unescaped (37 ∷ text) ≡ encode_utf8 (16 * digit_value (get_or text 0 0) + digit_value (get_or text 1 0)) ++ unescaped (drop 2 text)
unfolding unescaped
unescaped-digits [] within e = absurd (omega arith)
unescaped-digits (high ∷ []) within e = absurd (omega arith)
unescaped-digits (high ∷ low ∷ rest) within e = rw e refl

-- a % with no two digits behind it stays
pub unescaped-alone : (text : List ℕ) → (2 ≤ length text → is_escape 37 (get_or text 0 0) (get_or text 1 0) ≡ false) → unescaped (37 ∷ text) ≡ 37 ∷ unescaped text
unfolding unescaped
unescaped-alone [] none = refl
unescaped-alone (high ∷ []) none = refl
unescaped-alone (high ∷ low ∷ rest) none = let e : is_escape 37 high low ≡ false = none (omega arith) in rw e refl

-- another byte stays
pub unescaped-other : (byte : ℕ) (text : List ℕ) → byte ≢ 37 → unescaped (byte ∷ text) ≡ byte ∷ unescaped text
unfolding unescaped
unescaped-other byte [] other = refl
unescaped-other byte (high ∷ []) other = refl
unescaped-other byte (high ∷ low ∷ rest) other = let e : is_escape byte high low ≡ false = grind (arith, nat_tests) in rw e refl

-- bytes other than % stay
pub unescaped-others : (bytes text : List ℕ) → ((i : ℕ) → i < length bytes → get_or bytes i 0 ≢ 37) → unescaped (bytes ++ text) ≡ bytes ++ unescaped text
unescaped-others [] text others = refl
unescaped-others (byte ∷ bytes) text others =
    unescaped-other byte (bytes ++ text) (others 0 (omega arith)) ∙ ap (λ xs. byte ∷ xs) (unescaped-others bytes text (λ i h. others (suc i) (omega arith)))

pub unescaped-none : (bytes : List ℕ) → ((i : ℕ) → i < length bytes → get_or bytes i 0 ≢ 37) → unescaped bytes ≡ bytes
unfolding unescaped
unescaped-none bytes others = sym (ap unescaped (append-nil bytes)) ∙ unescaped-others bytes [] others ∙ append-nil bytes

-- the character of an escape was added, and what stands behind its digits is left
pub read_digits : (plain plain' after rest : List ℕ) (character code : ℕ) → plain' ≡ plain ++ encode_utf8 character → character ≡ code →
    code ≡ 16 * digit_value (get_or after 0 0) + digit_value (get_or after 1 0) → rest ≡ drop 2 after → 2 ≤ length after →
    is_escape 37 (get_or after 0 0) (get_or after 1 0) ≡ true → plain' ++ unescaped rest ≡ plain ++ unescaped (37 ∷ after)
read_digits plain plain' after rest character code added same is left within digits =
    let both : encode_utf8 character ++ unescaped rest ≡ unescaped (37 ∷ after) = rw (same, is, left) (sym (unescaped-digits after within digits)) in
    rw (added, append_assoc) (ap (λ xs. plain ++ xs) both)

-- a % alone was added
pub read_alone : (plain plain' after : List ℕ) → plain' ≡ plain ++ encode_utf8 37 → (2 ≤ length after → is_escape 37 (get_or after 0 0) (get_or after 1 0) ≡ false) →
    plain' ++ unescaped after ≡ plain ++ unescaped (37 ∷ after)
read_alone plain plain' after added none = rw (added, encode_ascii 37 (lit< tt), append_assoc) (ap (λ xs. plain ++ xs) (sym (unescaped-alone after none)))

-- a turn: what stands before a % is read as it stands, and then what begins at the %
pub undone_more : (left plain before after grown plain' rest text : List ℕ) → left ≡ before ++ 37 ∷ after → ((i : ℕ) → i < length before → get_or before i 0 ≢ 37) →
    plain ++ unescaped left ≡ unescaped text → grown ≡ plain ++ before → plain' ++ unescaped rest ≡ grown ++ unescaped (37 ∷ after) → plain' ++ unescaped rest ≡ unescaped text
undone_more left plain before after grown plain' rest text parts others so_far added read =
    read ∙ ap (λ xs. xs ++ unescaped (37 ∷ after)) added ∙ append_assoc plain before (unescaped (37 ∷ after))
    ∙ ap (λ xs. plain ++ xs) (sym (unescaped-others before (37 ∷ after) others)) ∙ ap (λ xs. plain ++ unescaped xs) (sym parts) ∙ so_far

-- the end: no % is left
pub undone_all : (left plain plain' text : List ℕ) → ((i : ℕ) → i < length left → get_or left i 0 ≢ 37) → plain ++ unescaped left ≡ unescaped text → plain' ≡ plain ++ left → plain' ≡ unescaped text
undone_all left plain plain' text others so_far added = added ∙ ap (λ xs. plain ++ xs) (sym (unescaped-none left others)) ∙ so_far

-- the character of an escape takes two bytes at most
short_escape : (mark high low : ℕ) → is_escape mark high low ≡ true → length (encode_utf8 (16 * digit_value high + digit_value low)) ≤ 2
short_escape mark high low e =
    let code : 16 * digit_value high + digit_value low < 2048 = code_bound mark high low e in rw (length-encode (16 * digit_value high + digit_value low)) (grind (arith, nat_tests))
  where
    code_bound : (mark high low : ℕ) → is_escape mark high low ≡ true → 16 * digit_value high + digit_value low < 2048
    code_bound mark high low e = omega (arith, digits_below mark high low e)

one_of : (b : Bool) (xs ys : List ℕ) (n : ℕ) → (b ≡ true → length xs ≤ n) → length ys ≤ n → length (if b then xs else ys) ≤ n
one_of true xs ys n first second = first refl
one_of false xs ys n first second = second

-- undoing escapes makes no text longer
pub length-unescaped : (text : List ℕ) → length (unescaped text) ≤ length text
unfolding unescaped
length-unescaped [] = omega arith
length-unescaped (mark ∷ []) = omega arith
length-unescaped (mark ∷ high ∷ []) = omega arith
length-unescaped (mark ∷ high ∷ low ∷ rest) =
    one_of (is_escape mark high low) (encode_utf8 (16 * digit_value high + digit_value low) ++ unescaped rest) (mark ∷ unescaped (high ∷ low ∷ rest)) (suc (suc (suc (length rest))))
    (λ e. omega (arith, length-append (encode_utf8 (16 * digit_value high + digit_value low)) (unescaped rest), short_escape mark high low e, length-unescaped rest))
    (omega (arith, length-unescaped (high ∷ low ∷ rest)))

-- the same of what was undone
pub undone_short : (plain text : List ℕ) (len : ℕ) → len ≡ length plain → plain ≡ unescaped text → len ≤ length text
undone_short plain text len counted undone = rw (counted, undone) (length-unescaped text)
