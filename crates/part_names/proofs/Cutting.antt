-- A text that was joined by a mark that no part has is cut into those parts again.
use Rattle.std.proofs.Common.{◌≡◌, ℕ, zero, suc, ◌+◌, ◌<◌, false, List, [], ◌∷◌, ◌++◌, length, take, drop, refl, sym, ap, ◌∙◌, arith}
use Rattle.std.proofs.lemmas.Bool.Decides.{nat_tests}
use Rattle.std.proofs.lemmas.List.{take_at, drop_at, append_assoc, length-append}
use Rattle.std.proofs.lemmas.List.Splits.{slice_split_at, slice_split_none}
use Rattle.std.specs.List.{AllByRecursion, position_or_len, before_first, after_first, join_with_byte, slice_split}
use Rattle.std.specs.Prelude.{◌==◌, All}
use Rattle.part_names.specs.Reading.{components}
use Rattle.part_names.proofs.Parts.{position_or_len-yes, position_or_len-no}

-- no byte of a text is this one
abbrev pub Lacks : ℕ → List ℕ → Type 0
Lacks mark text = All (λ b. (b == mark) ≡ false) text

pub Lacks-nil : (mark : ℕ) → Lacks mark []
Lacks-nil mark k d h = absurd (omega arith)

pub Lacks-cons : (mark byte : ℕ) (bytes : List ℕ) → (byte == mark) ≡ false → Lacks mark bytes → Lacks mark (byte ∷ bytes)
Lacks-cons mark byte bytes other all zero d h = other
Lacks-cons mark byte bytes other all (suc k) d h = all k d (omega arith)

pub Lacks-tail : (mark byte : ℕ) (bytes : List ℕ) → Lacks mark (byte ∷ bytes) → Lacks mark bytes
Lacks-tail mark byte bytes all k d h = all (suc k) d (omega arith)

-- the first place of the mark is behind the part that lacks it
pub first_mark : (mark : ℕ) (front rest : List ℕ) → Lacks mark front → position_or_len (λ b. b == mark) (front ++ mark ∷ rest) ≡ length front
first_mark mark [] rest all = position_or_len-yes (λ b. b == mark) mark rest (grind (arith, nat_tests))
first_mark mark (byte ∷ front) rest all =
    position_or_len-no (λ b. b == mark) byte (front ++ mark ∷ rest) (all 0 byte (omega arith)) ∙ ap (λ n. suc n) (first_mark mark front rest (Lacks-tail mark byte front all))

pub before_first-at : (mark : ℕ) (front rest : List ℕ) → Lacks mark front → before_first (λ b. b == mark) (front ++ mark ∷ rest) ≡ front
before_first-at mark front rest all = ap (λ n. take n (front ++ mark ∷ rest)) (first_mark mark front rest all) ∙ take_at front (mark ∷ rest) (length front) refl

pub after_first-at : (mark : ℕ) (front rest : List ℕ) → Lacks mark front → after_first (λ b. b == mark) (front ++ mark ∷ rest) ≡ rest
after_first-at mark front rest all =
    ap (λ n. drop (n + 1) (front ++ mark ∷ rest)) (first_mark mark front rest all) ∙ ap (λ xs. drop (length front + 1) xs) (sym (append_assoc front (mark ∷ []) rest))
    ∙ drop_at (front ++ mark ∷ []) rest (length front + 1) (length-append front (mark ∷ []))

-- not empty, and without slash
pub record IsPart (text : List ℕ) : Type 0 where
  pub some : 0 < length text
  pub lacks : Lacks 47 text

pub slice_split-join : (text : List ℕ) (texts : List (List ℕ)) → AllByRecursion IsPart (text ∷ texts) → slice_split (λ b. b == 47) (join_with_byte 47 (text ∷ texts)) ≡ text ∷ texts
slice_split-join text [] all = slice_split_none (λ b. b == 47) text all.0.lacks
slice_split-join text (next ∷ texts) all =
    slice_split_at (λ b. b == 47) text 47 (join_with_byte 47 (next ∷ texts)) all.0.lacks refl ∙ ap (λ xs. text ∷ xs) (slice_split-join next texts all.1)

components-some : (text : List ℕ) → 0 < length text → components text ≡ slice_split (λ b. b == 47) text
components-some [] some = absurd (omega arith)
components-some (byte ∷ bytes) some = refl

join-some : (text : List ℕ) (texts : List (List ℕ)) → 0 < length text → 0 < length (join_with_byte 47 (text ∷ texts))
join-some text [] some = some
join-some text (next ∷ texts) some = omega (arith, length-append text (47 ∷ join_with_byte 47 (next ∷ texts)))

pub components-join : (texts : List (List ℕ)) → AllByRecursion IsPart texts → components (join_with_byte 47 texts) ≡ texts
components-join [] all = refl
components-join (text ∷ texts) all =
    components-some (join_with_byte 47 (text ∷ texts)) (join-some text texts all.0.some) ∙ slice_split-join text texts all
