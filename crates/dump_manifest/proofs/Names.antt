-- Names and hexadecimal digits hold no LF.
use Rattle.std.proofs.Common.{◌≡◌, refl, rules, arith, ℕ, ◌<◌, ◌==◌, List, [], ◌∷◌, true, false, inl, inr}
use Rattle.std.specs.List.{All}
use Rattle.std.specs.Str.{IsUtf8}
use Rattle.std.proofs.lemmas.List.Elements.{All-head, All-tail, All-weaker}
use Rattle.std.proofs.lemmas.Str.{IsUtf8-from_ascii}
use Rattle.std.proofs.lemmas.Str.Ascii.{IsAscii-from_all}
use Rattle.dump_manifest.specs.Manifests.{IsLowerByte, IsLowerName, db_line}
use Rattle.dump_manifest.specs.Pieces.{db_of, lacks_lf}
use Rattle.dump_manifest.proofs.Pieces.{Lacks}

lower_ascii : (b : ℕ) → IsLowerByte b → b < 128
lower_ascii b (inl letter) = omega (arith, letter.1)
lower_ascii b (inr (inl digit)) = omega (arith, digit.1)
lower_ascii b (inr (inr line)) = omega (arith, line)

lower_other : (b : ℕ) → IsLowerByte b → b ≡ 10 → ⊥
lower_other b (inl letter) is = omega (arith, letter.0, is)
lower_other b (inr (inl digit)) is = omega (arith, digit.0, is)
lower_other b (inr (inr line)) is = omega (arith, line, is)

not_lf : (b : ℕ) → (b ≡ 10 → ⊥) → (b == 10) ≡ false
not_lf b other = search rules

pub lower_lacks : (name : List ℕ) → All IsLowerByte name → lacks_lf name ≡ true
lower_lacks [] all = refl
lower_lacks (b ∷ name) all = rw (not_lf b (lower_other b (All-head IsLowerByte b name all))) (lower_lacks name (All-tail IsLowerByte b name all))

pub name_utf8 : (name : List ℕ) → IsLowerName name → IsUtf8 name
name_utf8 name fits = IsUtf8-from_ascii name (IsAscii-from_all name (All-weaker IsLowerByte (λ b. b < 128) lower_ascii name fits.1))

pub db_lacks : Lacks db_of
unfolding db_line
db_lacks = λ name fits. lower_lacks name fits.1
