-- Texts cut at their first LF.
use Rattle.std.proofs.Common.{◌≡◌, refl, sym, ap, ◌∙◌, rules, arith, ℕ, zero, suc, ◌<◌, ◌≤◌, ◌==◌, length, take, drop, slice_index, List, [], ◌∷◌, ◌++◌, Bool, true, false, cond, Option, None, Some}
use Rattle.std.proofs.lemmas.List.{take_all}
use Rattle.dump_manifest.specs.Pieces.{cut_by, cut_line, lacks_lf}

step : (same : Bool) (b : ℕ) (bytes : List ℕ) (rest : Bool) (cut : Option (List ℕ × List ℕ)) (line tail : List ℕ) → cond same false rest ≡ true → (rest ≡ true → cut ≡ Some (line, tail))
    → cut_by same b bytes cut ≡ Some (b ∷ line, tail)
step true b bytes rest cut line tail lacks go = search rules
step false b bytes rest cut line tail lacks go = ap (λ o. cut_by false b bytes o) (go lacks)

-- the first LF is at this place
pub cut_there : (text : List ℕ) (at : ℕ) → at < length text → lacks_lf (take at text) ≡ true → slice_index text at ≡ 10 → cut_line text ≡ Some (take at text, drop (suc at) text)
cut_there [] at some none here = absurd (omega (arith, some))
cut_there (b ∷ bytes) zero some none here = rw here refl
cut_there (b ∷ bytes) (suc at) some none here =
    step (b == 10) b bytes (lacks_lf (take at bytes)) (cut_line bytes) (take at bytes) (drop (suc at) bytes) none (λ h. cut_there bytes at (omega (arith, some)) h here)

pub cut_again : (line rest : List ℕ) → lacks_lf line ≡ true → cut_line (line ++ 10 ∷ rest) ≡ Some (line, rest)
cut_again [] rest lacks = refl
cut_again (b ∷ line) rest lacks = step (b == 10) b (line ++ 10 ∷ rest) (lacks_lf line) (cut_line (line ++ 10 ∷ rest)) line rest lacks (λ h. cut_again line rest h)

-- no LF is found where there is none
no_step : (same : Bool) (b : ℕ) (bytes : List ℕ) (rest : Bool) (cut : Option (List ℕ × List ℕ)) → cond same false rest ≡ true → (rest ≡ true → cut ≡ None)
    → cut_by same b bytes cut ≡ None
no_step true b bytes rest cut lacks go = search rules
no_step false b bytes rest cut lacks go = ap (λ o. cut_by false b bytes o) (go lacks)

pub cut_none : (text : List ℕ) → lacks_lf text ≡ true → cut_line text ≡ None
cut_none [] lacks = refl
cut_none (b ∷ bytes) lacks = no_step (b == 10) b bytes (lacks_lf bytes) (cut_line bytes) lacks (λ h. cut_none bytes h)

some_pair : (a c b d : List ℕ) (x : Option (List ℕ × List ℕ)) → x ≡ Some (a, b) → x ≡ Some (c, d) → (a ≡ c) × (b ≡ d)
some_pair a c b d x one other = search rules

is_lf : (b : ℕ) → (b == 10) ≡ true → b ≡ 10
is_lf b same = search rules

together : (same : Bool) (b : ℕ) (bytes : List ℕ) (cut : Option (List ℕ × List ℕ)) (line rest : List ℕ) → (b == 10) ≡ same
    → cut_by same b bytes cut ≡ Some (line, rest)
    → ((l r : List ℕ) → cut ≡ Some (l, r) → (bytes ≡ l ++ 10 ∷ r) × (lacks_lf l ≡ true))
    → (b ∷ bytes ≡ line ++ 10 ∷ rest) × (lacks_lf line ≡ true)
together true b bytes cut line rest is found go =
    let parts = some_pair [] line bytes rest _ refl found in
    let lf = is_lf b is in
    rw (sym parts.0, sym parts.1, lf) (refl, refl)
together false b bytes None line rest is found go = search rules
together false b bytes (Some (l, r)) line rest is found go =
    let parts = some_pair (b ∷ l) line r rest _ refl found in
    let inner = go l r refl in
    rw (sym parts.0, sym parts.1, is) (ap (λ bs. b ∷ bs) inner.0, inner.1)

pub put_together : (text line rest : List ℕ) → cut_line text ≡ Some (line, rest) → (text ≡ line ++ 10 ∷ rest) × (lacks_lf line ≡ true)
put_together [] line rest cut = search rules
put_together (b ∷ bytes) line rest cut = together (b == 10) b bytes (cut_line bytes) line rest refl cut (λ l r h. put_together bytes l r h)

not_lf : (b : ℕ) → (b ≡ 10 → ⊥) → (b == 10) ≡ false
not_lf b other = search rules

pub cut_end : (text : List ℕ) (at : ℕ) → length text ≤ at → lacks_lf (take at text) ≡ true → None ≡ cut_line text
cut_end text at all none = sym (cut_none text (ap (λ t. lacks_lf t) (sym (take_all at text all)) ∙ none))

-- one byte more holds no LF
pub lacks_more : (text : List ℕ) (at : ℕ) → at < length text → lacks_lf (take at text) ≡ true → (slice_index text at ≡ 10 → ⊥) → lacks_lf (take (suc at) text) ≡ true
lacks_more [] at some none here = absurd (omega (arith, some))
lacks_more (b ∷ bytes) zero some none here = rw (not_lf b here) refl
lacks_more (b ∷ bytes) (suc at) some none here = more (b == 10) _ _ none (λ h. lacks_more bytes at (omega (arith, some)) h here)
  where
    more : (same : Bool) (x y : Bool) → cond same false x ≡ true → (x ≡ true → y ≡ true) → cond same false y ≡ true
    more true x y h go = h
    more false x y h go = go h

-- the same, where the place after is told by an equation
pub cut_here : (text rest : List ℕ) (at next : ℕ) → next ≡ suc at → rest ≡ drop next text → at < length text → lacks_lf (take at text) ≡ true → slice_index text at ≡ 10 → cut_line text ≡ Some (take at text, rest)
cut_here text rest at next is behind some none here = rw (behind, is) (cut_there text at some none here)

pub lacks_next : (text : List ℕ) (at next : ℕ) → next ≡ suc at → at < length text → lacks_lf (take at text) ≡ true → (slice_index text at ≡ 10 → ⊥) → lacks_lf (take next text) ≡ true
lacks_next text at next is some none here = rw is (lacks_more text at some none here)
