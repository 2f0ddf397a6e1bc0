-- What a type's text begins with.
use Rattle.std.proofs.Common.{◌≡◌, ℕ, Bool, true, false, List, map, length, take, refl, sym, ap, ◌∙◌, ◌↔◌, subst}
use Rattle.std.specs.Bool.{Decides}
use Rattle.std.specs.Str.{bytes_eq}
use Rattle.std.specs.Char.{to_ascii_lowercase}
use Rattle.std.proofs.lemmas.List.{take-map, length-map}
use Rattle.std.proofs.lemmas.Slice.Eq.{bytes_eq-Decides}
use Rattle.cat_values.specs.Columns.{has_prefix}

same_test : (P : Type 0) (r s : Bool) → (r ≡ true ↔ P) → Decides s P → r ≡ s
same_test P true s h d = sym (d.1 (h.0 refl))
same_test P false true h d = h.1 (d.0 refl)
same_test P false false h d = refl

-- its first bytes tell, in lower case
pub has_prefix_by_bytes : (text prefix : List ℕ) (r : Bool) → (r ≡ true ↔ (map to_ascii_lowercase (take (length prefix) text) ≡ map to_ascii_lowercase prefix)) → r ≡ has_prefix (map to_ascii_lowercase prefix) (map to_ascii_lowercase text)
has_prefix_by_bytes text prefix r h =
    same_test _ r _ h
    (subst (λ (xs : List ℕ). Decides (bytes_eq xs (map to_ascii_lowercase prefix)) (map to_ascii_lowercase (take (length prefix) text) ≡ map to_ascii_lowercase prefix))
    (sym (take-map to_ascii_lowercase (length prefix) text) ∙ ap (λ n. take n (map to_ascii_lowercase text)) (sym (length-map prefix to_ascii_lowercase)))
    (bytes_eq-Decides (map to_ascii_lowercase (take (length prefix) text)) (map to_ascii_lowercase prefix)))
