-- Texts, from their parts.
use Rattle.std.proofs.Common.{◌≡◌, ℕ, ◌≤◌, pos, List, ◌++◌, length, Option, Some, None, IfSome, OnSome, IsNone, refl, sym, ap, ◌∙◌, subst}
use Rattle.std.specs.Str.{IsUtf8}
use Rattle.cat_values.specs.declared.text.TheConstants.{TEXT_LIMIT}
use Rattle.thrift_binary.specs.Wire.{int_bytes, IsThen, IsLength, IsBody, IsString, IsText}

-- a text is its length and its bytes
pub string_is : (n : ℕ) (body bytes : List ℕ) → IsThen {A = ℕ} {B = List ℕ} IsLength IsBody n body bytes → IsString body bytes
string_is n body bytes h =
    let len : length body ≡ n = h.4.1 in
    (h.2 ∙ ap (λ x. x ++ h.1) h.3.0 ∙ ap (λ y. int_bytes (pos n) ++ y) h.4.0 ∙ ap (λ m. int_bytes (pos m) ++ body) (sym len), subst (λ m. m ≤ TEXT_LIMIT) (sym len) h.3.1)

-- bytes are a text where they are UTF-8
pub text_is : (o : Option (List ℕ)) (body bytes : List ℕ) → IfSome o (λ text. text ≡ body) → OnSome o (IsUtf8 body) → (IsNone o → IsUtf8 body → ⊥) → IsString body bytes → IsText o bytes
text_is None body bytes same utf8 none string = (body, string, none refl)
text_is (Some text) body bytes same utf8 none string = (subst (λ t. IsString t bytes) (sym same) string, subst IsUtf8 (sym same) utf8)
