-- What a read of a source over memory gives.
use Rattle.std.proofs.Common.{◌≡◌, ℕ, ◌+◌, List, [], ◌++◌, take, drop, sym, ap, ◌∙◌, add-zero}
use Rattle.std.proofs.lemmas.List.{take-append-drop, drop-drop}

-- what was given stands at the front of what was left
pub given_front : (bytes left buf : List ℕ) (at n : ℕ) → drop at bytes ≡ left → take n buf ≡ take n left → left ≡ take n buf ++ drop (at + n) bytes
given_front bytes left buf at n view copied =
    sym (take-append-drop n left) ∙ ap (λ xs. xs ++ drop n left) (sym copied) ∙ ap (λ xs. take n buf ++ drop n xs) (sym view) ∙ ap (λ xs. take n buf ++ xs) (drop-drop n at bytes)

-- where nothing was given and nothing was left, nothing is left
pub none_given : (bytes left : List ℕ) (at n : ℕ) → drop at bytes ≡ left → n ≡ 0 → left ≡ [] → drop (at + n) bytes ≡ []
none_given bytes left at n view none nothing = ap (λ k. drop (at + k) bytes) none ∙ ap (λ k. drop k bytes) (add-zero at) ∙ view ∙ nothing
