-- A listing stops at its number.
use Rattle.std.proofs.Common.{◌≡◌, ℕ, zero, suc, ◌-◌, ℤ, pos, negsuc, Bool, true, false, List, [], ◌∷◌, ◌++◌, length, map, take, filter, cond, refl, sym, ap, ◌∙◌, append_assoc, arith}
use Rattle.std.proofs.lemmas.Bool.Decides.{nat_tests}
use Rattle.rulings.specs.Listed.{has_reached}

-- what is still wanted of a list, where so many were told
abbrev pub first_behind : {X : Type 0} → ℕ → ℤ → List X → List X
first_behind count (pos max) xs = take (max - count) xs
first_behind count (negsuc n) xs = xs

take_more : {X : Type 0} (n m : ℕ) (x : X) (xs : List X) → n ≡ suc m → take n (x ∷ xs) ≡ x ∷ take m xs
take_more n m x xs is = ap (λ (k : ℕ). take k (x ∷ xs)) is

behind_one : {X : Type 0} (max : ℤ) (count : ℕ) (x : X) (rest : List X) → has_reached max count ≡ false → first_behind count max (x ∷ rest) ≡ x ∷ first_behind (suc count) max rest
behind_one (pos max) count x rest not_yet =
    let more : max - count ≡ suc (max - suc count) = grind (arith, nat_tests, not_yet) in
    take_more (max - count) (max - suc count) x rest more
behind_one (negsuc n) count x rest not_yet = refl

length_snoc : {Y : Type 0} (told : List Y) (y : Y) → length (told ++ y ∷ []) ≡ suc (length told)
length_snoc [] y = refl
length_snoc (z ∷ zs) y = ap suc (length_snoc zs y)

-- one more of those that are wanted is told
pub told_one : {X Y : Type 0} (f : X → Y) (test : X → Bool) (max : ℤ) (told next whole : List Y) (x : X) (rest : List X) → told ++ map f (first_behind (length told) max (filter test (x ∷ rest))) ≡ whole → has_reached max (length told) ≡ false → test x ≡ true
    → next ≡ told ++ f x ∷ [] → next ++ map f (first_behind (length next) max (filter test rest)) ≡ whole
told_one f test max told next whole x rest so_far not_yet passes pushed =
    ap (λ ys. ys ++ map f (first_behind (length ys) max (filter test rest))) pushed
    ∙ append_assoc told (f x ∷ []) (map f (first_behind (length (told ++ f x ∷ [])) max (filter test rest)))
    ∙ ap (λ (n : ℕ). told ++ f x ∷ map f (first_behind n max (filter test rest))) (length_snoc told (f x))
    ∙ ap (λ xs. told ++ map f xs) (sym (behind_one max (length told) x (filter test rest) not_yet))
    ∙ ap (λ (b : Bool). told ++ map f (first_behind (length told) max (cond b (x ∷ filter test rest) (filter test rest)))) (sym passes)
    ∙ so_far

-- of nothing nothing is taken
pub take_empty : {X : Type 0} (n : ℕ) (xs : List X) → xs ≡ [] → take n xs ≡ []
take_empty zero xs is = refl
take_empty (suc n) xs is = ap (λ ys. take (suc n) ys) is
