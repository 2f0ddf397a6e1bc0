-- The name of a folder tells its store and its dump.
use Rattle.std.proofs.Common.{◌≡◌, refl, sym, ap, ◌∙◌, arith, ℕ, ◌+◌, ◌*◌, ◌<◌, length, take, drop, List, ◌++◌, Option, None, Some, codes, decimal, IfSome, IsNone}
use Rattle.std.proofs.lemmas.Fmt.{decimal_injective}
use Rattle.std.proofs.lemmas.List.{length-append, take-append-drop}
use Rattle.hex.specs.Hex.{decode_of, encode_lower, lower_digits}
use Rattle.hex.proofs.HexLemmas.{decode_of-encode_lower, decode_of-same, length-encode_with}
use Rattle.dump_manifest.specs.Laws.{DirsDiffer}
use Rattle.dump_manifest.specs.Manifests.{IsDigest, IsWord, dir_text}
use Rattle.dump_manifest.specs.Reading.{IsReadAs, dir_of}
use Rattle.dump_manifest.proofs.Words.{behind_same, same_front}

pub long_hex : (count : ℕ) (bytes : List ℕ) → IsDigest count bytes → length (encode_lower bytes) ≡ 2 * count
long_hex count bytes fits = length-encode_with lower_digits bytes ∙ ap (λ n. 2 * n) fits.1

pub one_hex : (count : ℕ) (a b : List ℕ) → IsDigest count a → IsDigest count b → encode_lower a ≡ encode_lower b → a ≡ b
one_hex count a b fa fb same =
    decode_of-same (encode_lower a) a b (decode_of-encode_lower a fa.0) (ap (λ t. decode_of t) same ∙ decode_of-encode_lower b fb.0)

pub short_dir : (dir bytes : List ℕ) (value : List ℕ × ℕ) → bytes ≡ dir → IsDigest 16 value.0 × IsWord value.1 → dir ≡ dir_text value.0 value.1 → length bytes < 32 → ⊥
short_dir dir bytes value is fits same short =
    let digits = long_hex 16 value.0 fits.0 in
    let long : length bytes ≡ length (encode_lower value.0) + length (codes "-" ++ decimal value.1) =
    ap (λ t. length t) (is ∙ same) ∙ length-append (encode_lower value.0) (codes "-" ++ decimal value.1) in
    omega (arith, short, digits, long)

pub dir_read : (dir bytes front back : List ℕ) (o : Option (List ℕ × ℕ)) → bytes ≡ dir → front ≡ take 32 bytes → back ≡ drop 32 bytes → length front ≡ 32
    → IfSome o (λ found. dir_of.Fits found × (front ≡ encode_lower found.0) × (back ≡ codes "-" ++ decimal found.1))
    → (IsNone o → (source : List ℕ) (n : ℕ) → dir_of.Fits (source, n) → front ≡ encode_lower source → back ≡ codes "-" ++ decimal n → ⊥)
    → IsReadAs dir_of dir o
dir_read dir bytes front back (Some found) is first second long some none =
    let parts : dir ≡ front ++ back = sym is ∙ (sym (take-append-drop 32 bytes) ∙ (ap (λ t. t ++ drop 32 bytes) (sym first) ∙ ap (λ t. front ++ t) (sym second))) in
    (some.0, parts ∙ (ap (λ t. t ++ back) some.1 ∙ ap (λ t. encode_lower found.0 ++ t) some.2))
dir_read dir bytes front back None is first second long some none = λ value fits same.
    let parts : dir ≡ front ++ back = sym is ∙ (sym (take-append-drop 32 bytes) ∙ (ap (λ t. t ++ drop 32 bytes) (sym first) ∙ ap (λ t. front ++ t) (sym second))) in
    let cut = same_front front (encode_lower value.0) back (codes "-" ++ decimal value.1) (long ∙ sym (long_hex 16 value.0 fits.0)) (sym parts ∙ same) in
    none refl value.0 value.1 fits cut.0 cut.1

pub dirs_differ : DirsDiffer
dirs_differ = λ source source' dump dump' fs fs' fd fd' same.
    let cut = same_front (encode_lower source) (encode_lower source') (codes "-" ++ decimal dump) (codes "-" ++ decimal dump')
    (long_hex 16 source fs ∙ sym (long_hex 16 source' fs')) same in
    (one_hex 16 source source' fs fs' cut.0, decimal_injective dump dump' fd fd' (behind_same (codes "-") (decimal dump) (decimal dump') cut.1))
