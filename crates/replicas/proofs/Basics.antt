-- Names and values are the same or not, and what is there is one thing.
use Rattle.std.proofs.Common.{◌≡◌, ◌⊎◌, inl, inr, ℕ, Bool, true, false, List, [], ◌∷◌, Option, Some, None, refl, sym, ◌∙◌, ap, arith}
use Rattle.std.specs.Prelude.{◌==◌}
use Rattle.std.proofs.lemmas.Bool.Decides.{nat_tests}
use Rattle.replicas.specs.Objects.{Name, Values, Table, HasBorn}

abbrev pub Same : {A : Type 0} → A → A → Type 0
Same a b = (a ≡ b) ⊎ (a ≡ b → ⊥)

pub same_nat : (a b : ℕ) → Same a b
same_nat a b = by_test (a == b) refl
  where
    by_test : (x : Bool) → (a == b) ≡ x → Same a b
    by_test true is = inl (grind (arith, nat_tests))
    by_test false is = inr (λ e. absurd (grind (arith, nat_tests)))

same_list : {A : Type 0} → ((a b : A) → Same a b) → (xs ys : List A) → Same xs ys
same_list d [] [] = inl refl
same_list d [] (y ∷ ys) = inr (λ e. absurd (cc))
same_list d (x ∷ xs) [] = inr (λ e. absurd (cc))
same_list d (x ∷ xs) (y ∷ ys) = both (d x y) (same_list d xs ys)
  where
    both : Same x y → Same xs ys → Same (x ∷ xs) (y ∷ ys)
    both (inl e) (inl f) = inl (cc)
    both (inl e) (inr f) = inr (λ g. f (cc))
    both (inr e) f = inr (λ g. e (cc))

pub same_name : (a b : Name) → Same a b
same_name = same_list same_nat

pub same_values : (a b : Values) → Same a b
same_values = same_list same_name

pub not_both : {A : Type 0} {o : Option A} {x : A} → o ≡ None → o ≡ Some x → ⊥
not_both gone there = absurd (cc)

pub one : {A : Type 0} {o : Option A} {x y : A} → o ≡ Some x → o ≡ Some y → x ≡ y
one {x = x} {y = y} p q = let two : Some x ≡ Some y = sym p ∙ q in cc

pub one_born : {b : ℕ} {o : Option Table} {x : Table} → HasBorn b o → o ≡ Some x → x.0 ≡ b
one_born h is = ap (λ (t : Table). t.0) (one is h.is) ∙ h.born

pub born_at : {b c : ℕ} {o : Option Table} → HasBorn b o → HasBorn c o → b ≡ c
born_at h k = sym (one_born h k.is) ∙ k.born

pub has_born : {b : ℕ} {o : Option Table} → (x : Table) → o ≡ Some x → x.0 ≡ b → HasBorn b o
has_born x is born = record { table = x; is = is; born = born }
