-- Elements at their places.
use Rattle.std.proofs.Common.{◌≡◌, ℕ, suc, ◌+◌, ◌<◌, ◌≤◌, length, List, [], ◌∷◌, ◌++◌, refl, sym, ◌∙◌, ap, subst, arith, append_assoc}
use Rattle.std.specs.Prelude.{slice_index_or}
use Rattle.std.proofs.lemmas.Bool.{cases_lt}
use Rattle.std.proofs.Math.ListN.{get_or-append}
use Rattle.std.proofs.Math.Seq.{get_or-append_seam}
use Rattle.std.proofs.lemmas.List.{length-append}
use mathlib.Core.Logic.{◌⊎◌, inl, inr}
use Rattle.ms_server.specs.Crews.{Placed}

-- one element more, at the end
pub placed_more : {X : Type 0} (P : ℕ → X → Type 0) → (xs ys : List X) (x : X) → Placed P xs → P (length xs) x → ys ≡ xs ++ x ∷ [] → Placed P ys
placed_more {X} P xs ys x all one is = subst (Placed P) (sym is) (λ k d lt. by_case k d lt (cases_lt k (length xs)))
  where
    by_case : (k : ℕ) (d : X) → k < length (xs ++ x ∷ []) → (k < length xs) ⊎ (length xs ≤ k) → P k (slice_index_or (xs ++ x ∷ []) k d)
    by_case k d lt (inl front) = subst (P k) (sym (get_or-append xs (x ∷ []) d k front)) (all k d front)
    by_case k d lt (inr back) =
        let here : length xs ≡ k = omega (arith, lt, back, length-append xs (x ∷ [])) in
        subst (λ (n : ℕ). P n (slice_index_or (xs ++ x ∷ []) n d)) here (subst (P (length xs)) (sym (get_or-append_seam xs x [] d)) one)

-- the element behind those that were taken off the front
pub at_seam : {X : Type 0} (all taken left after : List X) (x d : X) → all ≡ taken ++ left → left ≡ x ∷ after → x ≡ slice_index_or all (length taken) d
at_seam {X} all taken left after x d is front = sym (ap (λ (l : List X). slice_index_or l (length taken) d) (is ∙ ap (λ (l : List X). taken ++ l) front) ∙ get_or-append_seam taken x after d)

-- one element more was taken off the front
pub taken_more : {X : Type 0} (all taken left after : List X) (x : X) → all ≡ taken ++ left → left ≡ x ∷ after → all ≡ (taken ++ x ∷ []) ++ after
taken_more {X} all taken left after x is front = is ∙ ap (λ (l : List X). taken ++ l) front ∙ sym (append_assoc taken (x ∷ []) after)

-- so many elements were taken off the front, and these are left
pub record Taken {X : Type 0} (all left : List X) (count : ℕ) : Type 0 where
  pub taken : List X
  pub is : all ≡ taken ++ left
  pub counted : length taken ≡ count

pub taken_none : {X : Type 0} (all : List X) → Taken all all 0
taken_none all = record { taken = []; is = refl; counted = refl }

pub taken_one : {X : Type 0} (all left after : List X) (x : X) (count : ℕ) → Taken all left count → left ≡ x ∷ after → Taken all after (count + 1)
taken_one {X} all left after x count t front = record {
  taken = t.taken ++ x ∷ [];
  is = taken_more all t.taken left after x t.is front;
  counted = length-append t.taken (x ∷ []) ∙ ap (λ (n : ℕ). n + 1) t.counted;
}

pub next_at : {X : Type 0} (all left after : List X) (x : X) (count : ℕ) → Taken all left count → left ≡ x ∷ after → (d : X) → x ≡ slice_index_or all count d
next_at {X} all left after x count t front d = subst (λ (n : ℕ). x ≡ slice_index_or all n d) t.counted (at_seam all t.taken left after x d t.is front)

-- P holds of each element at its place, counted from n on
abbrev pub PlacedFrom : {X : Type 0} → ℕ → (ℕ → X → Type 0) → List X → Type 0
PlacedFrom {X} n P xs = (k : ℕ) (d : X) → k < length xs → P (n + k) (slice_index_or xs k d)

pub placed_from : {X : Type 0} (P : ℕ → X → Type 0) (xs : List X) → Placed P xs → PlacedFrom 0 P xs
placed_from {X} P xs all = λ k d lt. subst (λ (n : ℕ). P n (slice_index_or xs k d)) (omega arith) (all k d lt)

-- the first of them
pub placed_head : {X : Type 0} (n : ℕ) (P : ℕ → X → Type 0) (xs ys : List X) (x : X) → PlacedFrom n P xs → xs ≡ x ∷ ys → P n x
placed_head {X} n P xs ys x all is = subst (λ (m : ℕ). P m x) (omega arith) (subst (PlacedFrom n P) is all 0 x (omega arith))

-- those behind it
pub placed_behind : {X : Type 0} (n : ℕ) (P : ℕ → X → Type 0) (xs ys : List X) (x : X) → PlacedFrom n P xs → xs ≡ x ∷ ys → PlacedFrom (n + 1) P ys
placed_behind {X} n P xs ys x all is = λ k d lt.
    let behind : suc k < length (x ∷ ys) = omega (arith, lt) in
    subst (λ (m : ℕ). P m (slice_index_or ys k d)) (omega arith) (subst (PlacedFrom n P) is all (suc k) d behind)

-- the same where the element was pushed
pub placed_pushed : {X : Type 0} (P : ℕ → X → Type 0) (xs ys : List X) (x : X) → ys ≡ xs ++ x ∷ [] → Placed P xs → P (length xs) x → Placed P ys
placed_pushed {X} P xs ys x is all one = placed_more P xs ys x all one is
