-- Each test of a name decides its fact.
use Rattle.std.proofs.Common.{ℕ, ◌≤◌, Bool, leb, List, length, refl, sym, ◌∙◌, inl, inr, arith}
use Rattle.std.specs.Bool.{Decides}
use Rattle.std.specs.Int.{IsInRange, is_in_range}
use Rattle.std.specs.List.{All, list_all}
use Rattle.std.proofs.lemmas.Bool.{false≢true}
use Rattle.std.proofs.lemmas.Bool.Decides.{leb_tells, Decides-and, Decides-or, Decides-eqb, Decides-by_and}
use Rattle.cat_values.specs.Names.{IsNameByte, is_name_byte, HasNameLength, has_name_length, IsObjectName, is_object_name}

pub leb-Decides : (a b : ℕ) → Decides (leb a b) (a ≤ b)
leb-Decides a b = elim (leb_tells a b) [
  | inl w ↦ (λ _. w.1, λ _. w.0)
  | inr w ↦ (λ e. absurd (false≢true (sym w.0 ∙ e)), λ h. absurd (omega arith))
]

range-Decides : (low high c : ℕ) → Decides (is_in_range low high c) (IsInRange low high c)
range-Decides low high c = Decides-and _ _ (leb-Decides low c) (leb-Decides c high)

pub all-Decides : {X : Type 0} (p : X → Bool) (P : X → Type 0) → ((x : X) → Decides (p x) (P x)) → (xs : List X) → Decides (list_all p xs) (All P xs)
all-Decides p P each xs = Decides-by_and p P (list_all p) each refl (λ _ _. refl) xs

name_byte-Decides : (byte : ℕ) → Decides (is_name_byte byte) (IsNameByte byte)
name_byte-Decides byte = Decides-or _ _ (Decides-or _ _ (Decides-or _ _ (range-Decides 48 57 byte) (range-Decides 65 90 byte)) (range-Decides 97 122 byte)) (Decides-eqb byte 95)

pub name_length-Decides : (name : List ℕ) → Decides (has_name_length name) (HasNameLength name)
name_length-Decides name = Decides-and _ _ (leb-Decides 1 (length name)) (leb-Decides (length name) 128)

pub object_name-Decides : (name : List ℕ) → Decides (is_object_name name) (IsObjectName name)
object_name-Decides name = Decides-and _ _ (name_length-Decides name) (all-Decides is_name_byte IsNameByte name_byte-Decides name)
