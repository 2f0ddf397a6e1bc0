-- The end of a file's line: its length and its digest.
use Rattle.std.proofs.Common.{◌≡◌, refl, sym, ap, ◌∙◌, rules, arith, ℕ, suc, ◌+◌, ◌/◌, ◌%◌, ◌<◌, ◌^◌, ◌==◌, Bool, length, take, drop, slice_index, List, [], ◌∷◌, ◌++◌, true, false, Option, None, Some, codes, decimal, IfSome, IsNone}
use Rattle.std.proofs.lemmas.List.{length-append, take-append-drop}
use Rattle.hex.specs.Hex.{IsBytes, encode_lower, encode_with, hex_digit_value, lower_digits}
use Rattle.hex.proofs.HexLemmas.{IsDigits-lower_digits}
use Rattle.dump_manifest.specs.Manifests.{HasItems, IsDigest, IsWord, event_name, item_name}
use Rattle.dump_manifest.specs.Pieces.{Fronts, came, lacks_lf, named, tail_of}
use Rattle.dump_manifest.specs.Reading.{IsReadAs}
use Rattle.dump_manifest.proofs.Folders.{long_hex}
use Rattle.dump_manifest.proofs.Pieces.{Lacks, decimal_lacks, lacks_both}
use Rattle.dump_manifest.proofs.Words.{same_front}

not_lf : (b : ℕ) → (b ≡ 10 → ⊥) → (b == 10) ≡ false
not_lf b other = search rules

pub lacks_cons : (b : ℕ) (bytes : List ℕ) → (b ≡ 10 → ⊥) → lacks_lf bytes ≡ true → lacks_lf (b ∷ bytes) ≡ true
lacks_cons b bytes other rest = rw (not_lf b other) rest

digit_other : (d : ℕ) → d < 16 → slice_index lower_digits d ≡ 10 → ⊥
digit_other d small is = cc (sym (IsDigits-lower_digits d small) ∙ ap (λ c. hex_digit_value c) is)

pub hex_lacks : (bytes : List ℕ) → IsBytes bytes → lacks_lf (encode_lower bytes) ≡ true
unfolding encode_with
hex_lacks [] all = refl
hex_lacks (b ∷ bytes) all =
    let fits : b < 256 = all 0 in
    lacks_cons (slice_index lower_digits (b / 16)) (slice_index lower_digits (b % 16) ∷ encode_lower bytes) (digit_other (b / 16) (omega (arith, fits)))
    (lacks_cons (slice_index lower_digits (b % 16)) (encode_lower bytes) (digit_other (b % 16) (omega arith)) (hex_lacks bytes (λ k. all (suc k))))

pub tail_lacks : Lacks tail_of
tail_lacks = λ value fits. lacks_both (decimal value.0) (codes " " ++ encode_lower value.1) (decimal_lacks value.0 fits.0)
    (lacks_both (codes " ") (encode_lower value.1) refl (hex_lacks value.1 fits.1.0))

pub named_lacks : (word : List ℕ) (n : ℕ) → lacks_lf word ≡ true → n < 2 ^ 64 → Lacks (named word n)
named_lacks word n plain small = λ value fits. lacks_both word (decimal n ++ (codes " " ++ (decimal value.0 ++ (codes " " ++ encode_lower value.1)))) plain
    (lacks_both (decimal n) (codes " " ++ (decimal value.0 ++ (codes " " ++ encode_lower value.1))) (decimal_lacks n small)
    (lacks_both (codes " ") (decimal value.0 ++ (codes " " ++ encode_lower value.1)) refl (tail_lacks value fits)))

long_tail : (n : ℕ) (bytes text : List ℕ) → IsDigest 32 bytes → text ≡ decimal n ++ (codes " " ++ encode_lower bytes) → length text ≡ length (decimal n) + 65
long_tail n bytes text fits same =
    let digits = long_hex 32 bytes fits in
    let all : length text ≡ length (decimal n) + length (codes " " ++ encode_lower bytes) = ap (λ t. length t) same ∙ length-append (decimal n) (codes " " ++ encode_lower bytes) in
    omega (arith, digits, all)

pub short_tail : (text : List ℕ) (value : ℕ × List ℕ) → IsWord value.0 × IsDigest 32 value.1 → text ≡ decimal value.0 ++ (codes " " ++ encode_lower value.1) → length text < 65 → ⊥
short_tail text value fits same short = let long = long_tail value.0 value.1 text fits.1 same in omega (arith, short, long)

pub tail_read : (text front back : List ℕ) (at : ℕ) (o : Option (ℕ × List ℕ)) → at + 65 ≡ length text → front ≡ take at text → back ≡ drop at text → length front ≡ at
    → IfSome o (λ found. tail_of.Fits found × (front ≡ decimal found.0) × (back ≡ codes " " ++ encode_lower found.1))
    → (IsNone o → (n : ℕ) (bytes : List ℕ) → tail_of.Fits (n, bytes) → front ≡ decimal n → back ≡ codes " " ++ encode_lower bytes → ⊥)
    → IsReadAs tail_of text o
tail_read text front back at (Some found) place first second long some none =
    let parts : text ≡ front ++ back = sym (take-append-drop at text) ∙ (ap (λ t. t ++ drop at text) (sym first) ∙ ap (λ t. front ++ t) (sym second)) in
    (some.0, parts ∙ (ap (λ t. t ++ back) some.1 ∙ ap (λ t. decimal found.0 ++ t) some.2))
tail_read text front back at None place first second long some none = λ value fits same.
    let parts : text ≡ front ++ back = sym (take-append-drop at text) ∙ (ap (λ t. t ++ drop at text) (sym first) ∙ ap (λ t. front ++ t) (sym second)) in
    let all = long_tail value.0 value.1 text fits.1 same in
    let cut = same_front front (decimal value.0) back (codes " " ++ encode_lower value.1) (omega (arith, place, long, all)) (sym parts ∙ same) in
    none refl value.0 value.1 fits cut.0 cut.1

-- the line after a word is that of the next file
pub named_item : (b : Bool) (items events : ℕ) (text : List ℕ) (o : Option ((ℕ × List ℕ) × List ℕ)) → b ≡ true → events ≡ 0 → Fronts (named (codes "file i") items) text o
    → Fronts (came b items events true) text o
unfolding item_name
named_item b items events text (Some front) boot first read = (((boot, first), read.0.0, read.0.1), read.1)
named_item b items events text None boot first none = λ value rest fits same. none value rest (fits.1, fits.2) same

pub named_event : (b : Bool) (items events : ℕ) (text : List ℕ) (o : Option ((ℕ × List ℕ) × List ℕ)) → HasItems b items → Fronts (named (codes "file e") events) text o
    → Fronts (came b items events false) text o
unfolding event_name
named_event b items events text (Some front) has read = ((has, read.0.0, read.0.1), read.1)
named_event b items events text None has none = λ value rest fits same. none value rest (fits.1, fits.2) same
