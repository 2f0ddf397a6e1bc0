-- Steps of a reading that did not stop, and bytes behind others.
use Rattle.std.proofs.Common.{◌≡◌, ℕ, ◌+◌, Bool, true, false, cond, List, ◌++◌, length, Result, Ok, Err, refl}
use Rattle.std.proofs.lemmas.List.{get_or-append-add}
use Rattle.change_codec.specs.Forms.{Reading, ◌>>=◌}
use Rattle.change_codec.specs.Whole.{AreBytes}

-- the value of a step that did not stop
pub bind_ok : {A B : Type 0} (r : Reading A) (f : A × List ℕ → Reading B) (y : B × List ℕ) → (r >>= f) ≡ Ok y → (x : A × List ℕ) × (r ≡ Ok x) × (f x ≡ Ok y)
bind_ok (Ok x) f y e = (x, refl, e)
bind_ok (Err n) f y e = absurd cc

-- a test that did not stop it
pub guard_ok : {A : Type 0} (b : Bool) (n : ℕ) (x y : A) → cond b (Err n) (Ok x) ≡ Ok y → (b ≡ false) × (x ≡ y)
guard_ok true n x y e = absurd cc
guard_ok false n x y e = (refl, cc)

-- a test that let it go on
pub let_ok : {A : Type 0} (b : Bool) (n : ℕ) (x y : A) → cond b (Ok x) (Err n) ≡ Ok y → (b ≡ true) × (x ≡ y)
let_ok true n x y e = (refl, cc)
let_ok false n x y e = absurd cc

abbrev read_as : {A : Type 0} → A → Result A ℕ
read_as x = Ok x

pub ok_is : {A : Type 0} (x y : A) → read_as x ≡ read_as y → x ≡ y
ok_is x y e = cc

pub AreBytes-behind : (a b : List ℕ) → AreBytes (a ++ b) → AreBytes b
AreBytes-behind a b h i = rw (← get_or-append-add a b i 0) (h (length a + i))
