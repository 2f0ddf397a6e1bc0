-- Tokens behind one another.
use Rattle.std.proofs.Common.{◌≡◌, ℕ, ◌+◌, ◌-◌, ◌<◌, ◌≤◌, Bool, true, false, List, [], ◌∷◌, drop, length, refl, sym, ap, ◌∙◌, arith, suc, zero, subst, if◌then◌else◌}
use Rattle.filter_expr.specs.declared.token.Token.{Token}
use Rattle.filter_expr.specs.declared.token.Token.TheVariants.{End}
use Rattle.filter_expr.specs.Tokens.{is_last, begins_with_space, token_at, tokens_behind, tokens_left}

-- bytes that belong to a token before are passed over
skip_taken : (xs : List ℕ) (n place : ℕ) → n ≤ length xs → tokens_behind n place xs ≡ tokens_behind 0 (place + n) (drop n xs)
skip_taken [] zero place h = let e : place ≡ place + 0 = omega arith in ap (λ p. tokens_behind 0 p []) e
skip_taken [] (suc n) place h = absurd (omega arith)
skip_taken (b ∷ bs) zero place h = let e : place ≡ place + 0 = omega arith in ap (λ p. tokens_behind 0 p (b ∷ bs)) e
skip_taken (b ∷ bs) (suc n) place h =
    let e : place + 1 + n ≡ place + suc n = omega arith in
    skip_taken bs n (place + 1) (omega arith) ∙ ap (λ p. tokens_behind 0 p (drop n bs)) e

-- what stands behind a token
behind_token : (b : ℕ) (bs : List ℕ) (place len : ℕ) (last : Bool) → len ≤ length (b ∷ bs) → (last ≡ false → 0 < len) → (if last then [] else tokens_behind 0 (place + len) (drop len (b ∷ bs))) ≡ (if last then [] else tokens_behind (len - 1) (place + 1) bs)
behind_token b bs place len true w s = refl
behind_token b bs place zero false w s = absurd (omega (arith, s refl))
behind_token b bs place (suc m) false w s =
    let one : suc m - 1 ≡ m = omega arith in
    let e : place + 1 + m ≡ place + suc m = omega arith in
    sym (ap (λ n. tokens_behind n (place + 1) bs) one ∙ skip_taken bs m (place + 1) (omega arith) ∙ ap (λ p. tokens_behind 0 p (drop m bs)) e)

found_left : (b : ℕ) (bs : List ℕ) (place len : ℕ) (token : Token) (found : Token × ℕ) → (token, len) ≡ found → len ≤ length (b ∷ bs) → (is_last token ≡ false → 0 < len) → tokens_left place token (place + len) (drop len (b ∷ bs)) ≡ (place, found.0) ∷ (if is_last found.0 then [] else tokens_behind (found.1 - 1) (place + 1) bs)
found_left b bs place len token found e w s =
    subst (λ (f : Token × ℕ). tokens_left place token (place + len) (drop len (b ∷ bs)) ≡ (place, f.0) ∷ (if is_last f.0 then [] else tokens_behind (f.1 - 1) (place + 1) bs)) e
    (ap (λ (xs : List (ℕ × Token)). (place, token) ∷ xs) (behind_token b bs place len (is_last token) w s))

-- the first token, and those behind it
pub first_left : (text : List ℕ) (place len : ℕ) (token : Token) → (token, len) ≡ token_at text → begins_with_space text ≡ false → len ≤ length text → (is_last token ≡ false → 0 < len) → tokens_left place token (place + len) (drop len text) ≡ tokens_behind 0 place text
first_left [] place len token e h w s =
    let end : token ≡ End = ap (λ (f : Token × ℕ). f.0) e in
    rw end refl
first_left (b ∷ bs) place len token e h w s = rw h (found_left b bs place len token (token_at (b ∷ bs)) e w s)
