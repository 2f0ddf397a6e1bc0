-- A test for a name or for values tells whether it is the one.
use Rattle.std.proofs.Common.{◌≡◌, Bool, true, false, [], ◌∷◌, refl, sym, subst}
use Rattle.std.specs.Prelude.{◌&&◌, Decides}
use Rattle.std.specs.Cmp.Lexicographic.{slice_cmp}
use Rattle.std.specs.Ordering.{is_eq, nat_cmp, ordering_then}
use Rattle.std.specs.declared.cmp.Ordering.{Ordering}
use Rattle.std.specs.declared.cmp.Ordering.TheVariants.{Less, Equal, Greater}
use Rattle.std.proofs.lemmas.Map.Text.{is_eq-slice_cmp}
use Rattle.std.proofs.lemmas.Slice.Eq.{bytes_eq-Decides}
use Rattle.cat_objects.specs.Catalogue.{is_name}
use Rattle.cat_objects.specs.Parts.{are_values}
use Rattle.replicas.specs.Objects.{Name, Values}
use Rattle.replicas.proofs.Tests.{both}

abbrev pub Tells : {K : Type 0} → (K → K → Ordering) → Type 0
Tells {K} R = (x y : K) → Decides (is_eq (R x y)) (x ≡ y)

then_is : (o p : Ordering) → is_eq (ordering_then o p) ≡ (is_eq o && is_eq p)
then_is Less p = refl
then_is Equal p = refl
then_is Greater p = refl

then_tells : {P Q R : Type 0} (o p : Ordering) → Decides (is_eq o) P → Decides (is_eq p) Q → (P → Q → R) → (R → P) → (R → Q) → Decides (is_eq (ordering_then o p)) R
then_tells {R = R} o p f g join left right = subst (λ (x : Bool). Decides x R) (sym (then_is o p)) (both f g join left right)

slice_tells : {K : Type 0} (R : K → K → Ordering) → Tells R → Tells (slice_cmp R)
slice_tells R tells [] [] = (λ e. refl, λ e. refl)
slice_tells R tells [] (y ∷ ys) = (λ e. absurd (cc), λ e. absurd (cc))
slice_tells R tells (x ∷ xs) [] = (λ e. absurd (cc), λ e. absurd (cc))
slice_tells R tells (x ∷ xs) (y ∷ ys) = then_tells (R x y) (slice_cmp R xs ys) (tells x y) (slice_tells R tells xs ys) (λ p q. cc) (λ e. cc) (λ e. cc)

pub name_tells : Tells (slice_cmp nat_cmp)
name_tells x y = subst (λ (b : Bool). Decides b (x ≡ y)) (sym (is_eq-slice_cmp x y)) (bytes_eq-Decides x y)

pub values_tell : Tells (slice_cmp (slice_cmp nat_cmp))
values_tell = slice_tells (slice_cmp nat_cmp) name_tells

other_is : {K : Type 0} (R : K → K → Ordering) → Tells R → (q x : K) → (q ≡ x → ⊥) → is_eq (R q x) ≡ false
other_is R tells q x off = by (is_eq (R q x)) refl
  where
    by : (b : Bool) → is_eq (R q x) ≡ b → is_eq (R q x) ≡ false
    by true is = absurd (off ((tells q x).0 is))
    by false is = is

pub name_here : (n : Name) → is_name n n ≡ true
name_here n = (name_tells n n).1 refl

pub name_off : (m n : Name) → (m ≡ n → ⊥) → is_name m n ≡ false
name_off m n off = other_is (slice_cmp nat_cmp) name_tells m n off

pub values_here : (v : Values) → are_values v v ≡ true
values_here v = (values_tell v v).1 refl

pub values_off : (w v : Values) → (w ≡ v → ⊥) → are_values w v ≡ false
values_off w v off = other_is (slice_cmp (slice_cmp nat_cmp)) values_tell w v off
