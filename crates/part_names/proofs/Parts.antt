-- The parts of a name, one component after another.
use Rattle.std.proofs.Common.{◌≡◌, ℕ, suc, ◌<◌, Bool, true, false, List, [], ◌∷◌, length, take, refl, sym, ap, ◌∙◌, arith}
use Rattle.std.proofs.lemmas.List.Splits.{slice_split_first, slice_split-cons_no, slice_split-cons_yes}
use Rattle.std.specs.List.{position_from, position_or_len, before_first, after_first, slice_split, onto_first}
use Rattle.std.specs.Prelude.{◌==◌, Option, None, Some}
use Rattle.part_names.specs.Reading.{components_left, first_component, is_unreadable}

pub position_or_len-yes : (p : ℕ → Bool) (x : ℕ) (xs : List ℕ) → p x ≡ true → position_or_len p (x ∷ xs) ≡ 0
position_or_len-yes p x xs is = rw is refl

pub position_or_len-no : (p : ℕ → Bool) (x : ℕ) (xs : List ℕ) → p x ≡ false → position_or_len p (x ∷ xs) ≡ suc (position_or_len p xs)
position_or_len-no p x xs is = rw is (omega arith)

pub before_first-no : (p : ℕ → Bool) (x : ℕ) (xs : List ℕ) → p x ≡ false → before_first p (x ∷ xs) ≡ x ∷ before_first p xs
before_first-no p x xs is = ap (λ n. take n (x ∷ xs)) (position_or_len-no p x xs is)

-- where there is nothing to cut at, the text is the one part
pub slice_split-last : (p : ℕ → Bool) (xs : List ℕ) → position_or_len p xs ≡ length xs → slice_split p xs ≡ before_first p xs ∷ []
slice_split-last p [] e = refl
slice_split-last p (x ∷ xs) e =
    at_head (p x) refl (λ rest. slice_split-last p xs rest)
  where
    at_head : (b : Bool) → p x ≡ b → (position_or_len p xs ≡ length xs → slice_split p xs ≡ before_first p xs ∷ []) → slice_split p (x ∷ xs) ≡ before_first p (x ∷ xs) ∷ []
    at_head true is further = absurd (omega (arith, e, position_or_len-yes p x xs is))
    at_head false is further =
        let rest : slice_split p xs ≡ before_first p xs ∷ [] = further (omega (arith, e, position_or_len-no p x xs is)) in
        slice_split-cons_no p x xs is ∙ ap (λ ys. onto_first x ys) rest ∙ ap (λ ys. ys ∷ []) (sym (before_first-no p x xs is))

-- the first part, and those of what stands behind it
pub slice_split-more : (p : ℕ → Bool) (xs after : List ℕ) → position_or_len p xs < length xs → after ≡ after_first p xs → slice_split p xs ≡ before_first p xs ∷ slice_split p after
slice_split-more p xs after within is = slice_split_first p xs 0 within ∙ ap (λ ys. before_first p xs ∷ slice_split p ys) (sym is)

-- the first part is what stands before the first place to cut at
first_part : (p : ℕ → Bool) (xs : List ℕ) → (rest : List (List ℕ)) × (slice_split p xs ≡ before_first p xs ∷ rest)
first_part p [] = ([], refl)
first_part p (x ∷ xs) = at_head (p x) refl (first_part p xs)
  where
    at_head : (b : Bool) → p x ≡ b → (rest : List (List ℕ)) × (slice_split p xs ≡ before_first p xs ∷ rest) → (rest : List (List ℕ)) × (slice_split p (x ∷ xs) ≡ before_first p (x ∷ xs) ∷ rest)
    at_head true is further = (slice_split p xs, slice_split-cons_yes p x xs is ∙ ap (λ n. take n (x ∷ xs) ∷ slice_split p xs) (sym (position_or_len-yes p x xs is)))
    at_head false is further = (further.0, slice_split-cons_no p x xs is ∙ ap (λ ys. onto_first x ys) further.1 ∙ ap (λ ys. ys ∷ further.0) (sym (before_first-no p x xs is)))

-- where the first component can't be read, its number is the one that is told
pub unreadable_first : (text : List ℕ) (told number : ℕ) (first : Option ℕ) → first ≡ position_from is_unreadable number (components_left (Some text)) →
    is_unreadable (first_component text) ≡ true → told ≡ number → first ≡ Some told
unreadable_first text told number first so_far unreadable same =
    let parts = first_part (λ b. b == 47) text in so_far ∙ ap (λ xs. position_from is_unreadable number xs) parts.1 ∙ rw (unreadable, same) refl

-- how much is left of a name
abbrev pub text_left : Option (List ℕ) → ℕ
text_left None = 0
text_left (Some text) = suc (length text)
