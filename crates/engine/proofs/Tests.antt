-- Tests together.
use Rattle.std.proofs.Common.{◌≡◌, Bool, true, false, ◌&&◌, refl, ◌∙◌, ap}

pub all_of : (a b : Bool) → a ≡ true → b ≡ true → (a && b) ≡ true
all_of a b p q = ap (λ (x : Bool). x && b) p ∙ q

pub first_of : (a b : Bool) → (a && b) ≡ true → a ≡ true
first_of true b is = refl
first_of false b is = absurd cc

pub last_of : (a b : Bool) → (a && b) ≡ true → b ≡ true
last_of true b is = is
last_of false b is = absurd cc
