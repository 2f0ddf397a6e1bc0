-- Words cut off lines.
use Rattle.std.proofs.Common.{◌≡◌, refl, sym, ap, ◌∙◌, rules, ℕ, length, take, drop, List, [], ◌∷◌, ◌++◌, Bool, true, false, Option, None, Some, codes, decimal}
use Rattle.std.proofs.Math.Seq.{take-append_seam}
use Rattle.std.proofs.lemmas.List.{take-append-drop}
use Rattle.std.proofs.lemmas.Slice.Eq.{bytes_eq-Decides}
use Rattle.std.specs.Str.{bytes_eq}
use Rattle.std.proofs.lemmas.List.{append_assoc, append-nil}
use Rattle.hex.specs.Hex.{encode_lower}
use Rattle.dump_manifest.specs.declared.manifest.FileLine.{FileLine}
use Rattle.dump_manifest.specs.Manifests.{file_line, kind_line, lines_text, with_lf}
use Rattle.dump_manifest.specs.Reading.{IsReadAs, number, number_line}

pub drop_seam : (xs ys : List ℕ) → drop (length xs) (xs ++ ys) ≡ ys
drop_seam [] ys = refl
drop_seam (x ∷ xs) ys = drop_seam xs ys

-- a text that begins with a word is the word and what is left of the text
pub parted : (word text rest : List ℕ) → bytes_eq (take (length word) text) word ≡ true → rest ≡ drop (length word) text → text ≡ word ++ rest
parted word text rest begins behind =
    let front = (bytes_eq-Decides (take (length word) text) word).0 begins in
    sym (take-append-drop (length word) text) ∙ (ap (λ w. w ++ drop (length word) text) front ∙ ap (λ d. word ++ d) (sym behind))

-- and another text isn't
pub unparted : (word text rest : List ℕ) → bytes_eq (take (length word) text) word ≡ false → text ≡ word ++ rest → ⊥
unparted word text rest differs same =
    let front : take (length word) text ≡ word = ap (λ l. take (length word) l) same ∙ take-append_seam word rest in
    let equal = (bytes_eq-Decides (take (length word) text) word).1 front in
    search rules

pub behind_word : (word line digits : List ℕ) (o : Option ℕ) → bytes_eq (take (length word) line) word ≡ true → digits ≡ drop (length word) line → IsReadAs number digits o → IsReadAs (number_line word) line o
behind_word word line digits (Some n) begins behind (fits, spelled) = (fits, parted word line digits begins behind ∙ ap (λ d. word ++ d) spelled)
behind_word word line digits None begins behind none = λ value fits same.
    none value fits (behind ∙ (ap (λ l. drop (length word) l) same ∙ drop_seam word (decimal value)))

pub no_word : (word line : List ℕ) → bytes_eq (take (length word) line) word ≡ false → IsReadAs (number_line word) line None
no_word word line differs = λ value fits same. unparted word line (decimal value) differs same

-- two texts with fronts of one length
pub same_front : (a b x y : List ℕ) → length a ≡ length b → a ++ x ≡ b ++ y → (a ≡ b) × (x ≡ y)
same_front a b x y long same = (
  sym (take-append_seam a x) ∙ (ap (λ l. take (length a) l) same ∙ (ap (λ n. take n (b ++ y)) long ∙ take-append_seam b y)),
  sym (drop_seam a x) ∙ (ap (λ l. drop (length a) l) same ∙ (ap (λ n. drop n (b ++ y)) long ∙ drop_seam b y)),
)

-- a word in front of two texts
pub behind_same : (word x y : List ℕ) → word ++ x ≡ word ++ y → x ≡ y
behind_same word x y same = (same_front word word x y refl same).1

pub kind_incremental : (b : Bool) → b ≡ false → with_lf (kind_line b) ≡ codes "kind incremental\n"
unfolding kind_line
kind_incremental b is = rw is refl

pub file_end : (f : FileLine) → with_lf (file_line f)
    ≡ codes "file " ++ (f.name ++ (codes " " ++ (decimal f.length ++ (codes " " ++ (encode_lower f.digest ++ codes "\n")))))
unfolding file_line
file_end f = ap (λ t. codes "file " ++ t) (append_assoc f.name (codes " " ++ (decimal f.length ++ (codes " " ++ encode_lower f.digest))) (codes "\n")
    ∙ ap (λ t. f.name ++ (codes " " ++ t)) (append_assoc (decimal f.length) (codes " " ++ encode_lower f.digest) (codes "\n")))

pub text_more : (lines : List (List ℕ)) (line : List ℕ) → lines_text (lines ++ line ∷ []) ≡ lines_text lines ++ with_lf line
text_more [] line = append-nil (with_lf line)
text_more (l ∷ lines) line = ap (λ t. with_lf l ++ t) (text_more lines line) ∙ sym (append_assoc (with_lf l) (lines_text lines) (with_lf line))
