-- A field with another id.
use Rattle.std.proofs.Common.{◌≡◌, ◌≢◌, ℕ, ℤ, Bool, true, false, refl}
use Rattle.std.specs.Ordering.{int_eq}
use Rattle.std.proofs.lemmas.Bool.Decides.{Decides-int_eq}
use Rattle.ms_structs.specs.declared.got.Got.{Got}
use Rattle.thrift_binary.specs.Tree.{Wire}
use Rattle.ms_structs.specs.Slots.{slot}

not_true : (b : Bool) → b ≢ true → b ≡ false
not_true true h = absurd (h refl)
not_true false h = refl

pub ne_int_eq : (x y : ℤ) → x ≢ y → int_eq x y ≡ false
ne_int_eq x y ne = not_true (int_eq x y) (λ e. ne ((Decides-int_eq x y).0 e))

-- a field with another id leaves a slot as it was
pub slot_other : {T : Type 0} (key : ℤ) (code : ℕ) (means : Wire → Got T) (before : Got T) (ty : ℕ) (id : ℤ) (w : Wire) → id ≢ key → slot key code means before ty id w ≡ before
slot_other key code means before ty id w ne = rw (ne_int_eq id key ne) refl
