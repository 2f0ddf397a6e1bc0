-- Words, values and lines at the front of a text.
use Rattle.std.proofs.Common.{◌≡◌, refl, sym, ap, subst, ◌∙◌, rules, ℕ, ◌+◌, ◌%◌, ◌^◌, ◌<◌, ◌==◌, List, [], ◌∷◌, ◌++◌, Bool, true, false, cond, Option, None, Some, decimal}
use Rattle.std.proofs.lemmas.Fmt.{decimal_by_steps}
use Rattle.std.proofs.lemmas.List.{append_assoc}
use Rattle.dump_manifest.specs.Manifests.{with_lf}
use Rattle.dump_manifest.specs.Pieces.{Follows, Fronts, cut_line, lacks_lf, prefixed}
use Rattle.dump_manifest.specs.Reading.{IsReadAs, Kind, number_line}
use Rattle.dump_manifest.proofs.Cutting.{cut_again, put_together}
use Rattle.dump_manifest.proofs.Words.{behind_same}

-- ---- a word and another

lf_behind : (a b rest : List ℕ) → with_lf (a ++ b) ++ rest ≡ a ++ (with_lf b ++ rest)
lf_behind a b rest = ap (λ t. t ++ rest) (append_assoc a b (10 ∷ [])) ∙ append_assoc a (with_lf b) rest

-- a word, and then a line
pub word_line : (a b text mid : List ℕ) (o : Option (List ℕ)) → text ≡ a ++ mid → Follows (with_lf b) mid o → Follows (with_lf (a ++ b)) text o
word_line a b text mid (Some rest) first second = first ∙ (ap (λ t. a ++ t) second ∙ sym (lf_behind a b rest))
word_line a b text mid None first second = λ rest same. second rest (behind_same a mid (with_lf b ++ rest) (sym first ∙ (same ∙ lf_behind a b rest)))

pub no_word_line : (a b text : List ℕ) → Follows a text None → Follows (with_lf (a ++ b)) text None
no_word_line a b text none = λ rest same. none (with_lf b ++ rest) (same ∙ lf_behind a b rest)

-- a line, and then its LF
pub line_lf : (a text mid : List ℕ) (o : Option (List ℕ)) → text ≡ a ++ mid → Follows (10 ∷ []) mid o → Follows (with_lf a) text o
line_lf a text mid (Some rest) first second = first ∙ (ap (λ t. a ++ t) second ∙ sym (append_assoc a (10 ∷ []) rest))
line_lf a text mid None first second = λ rest same. second rest (behind_same a mid (10 ∷ rest) (sym first ∙ (same ∙ append_assoc a (10 ∷ []) rest)))

pub no_line_lf : (a text : List ℕ) → Follows a text None → Follows (with_lf a) text None
no_line_lf a text none = λ rest same. none (10 ∷ rest) (same ∙ append_assoc a (10 ∷ []) rest)

-- a word, and then a value
pub word_value : {T : Type 0} (word : List ℕ) (kind : Kind T) (text mid : List ℕ) (o : Option T) → text ≡ word ++ mid → IsReadAs kind mid o → IsReadAs (prefixed word kind) text o
word_value word kind text mid (Some v) first second = (second.0, first ∙ ap (λ t. word ++ t) second.1)
word_value word kind text mid None first second = λ value fits same. second value fits (behind_same word mid (kind.code value) (sym first ∙ same))

pub no_word_value : {T : Type 0} (word : List ℕ) (kind : Kind T) (text : List ℕ) → Follows word text None → IsReadAs (prefixed word kind) text None
no_word_value word kind text none = λ value fits same. none (kind.code value) same

-- ---- bytes without an LF

pub lacks_both : (xs ys : List ℕ) → lacks_lf xs ≡ true → lacks_lf ys ≡ true → lacks_lf (xs ++ ys) ≡ true
lacks_both [] ys one other = other
lacks_both (x ∷ xs) ys one other = both (x == 10) _ _ one (λ h. lacks_both xs ys h other)
  where
    both : (same : Bool) (p q : Bool) → cond same false p ≡ true → (p ≡ true → q ≡ true) → cond same false q ≡ true
    both true p q h go = h
    both false p q h go = go h

digit_lacks : (d : ℕ) → lacks_lf ((48 + d) ∷ []) ≡ true
digit_lacks d =
    let other : (48 + d == 10) ≡ false = search rules in
    rw other refl

pub decimal_lacks : (n : ℕ) → n < 2 ^ 64 → lacks_lf (decimal n) ≡ true
decimal_lacks = decimal_by_steps (λ n ds. lacks_lf ds ≡ true) (λ n small. digit_lacks n) (λ n ds big h. lacks_both ds _ h (digit_lacks (n % 10)))

-- ---- the line of a value

-- no value of this kind has a text with an LF
abbrev pub Lacks : {T : Type 0} → Kind T → Type 0
Lacks {T} kind = (value : T) → kind.Fits value → lacks_lf (kind.code value) ≡ true

pub front_some : {T : Type 0} (kind : Kind T) (text line rest : List ℕ) (value : T) → cut_line text ≡ Some (line, rest) → IsReadAs kind line (Some value)
    → kind.Fits value × (text ≡ with_lf (kind.code value) ++ rest)
front_some kind text line rest value cut read =
    (read.0, (put_together text line rest cut).0 ∙ (ap (λ l. l ++ 10 ∷ rest) read.1 ∙ sym (append_assoc (kind.code value) (10 ∷ []) rest)))

some_parts : (a c b d : List ℕ) (x : Option (List ℕ × List ℕ)) → x ≡ Some (a, b) → x ≡ Some (c, d) → (a ≡ c) × (b ≡ d)
some_parts a c b d x one other = search rules

no_line : (a b : List ℕ) (x : Option (List ℕ × List ℕ)) → x ≡ None → x ≡ Some (a, b) → ⊥
no_line a b x one other = search rules

pub cut_front : (text line rest : List ℕ) → lacks_lf line ≡ true → text ≡ with_lf line ++ rest → cut_line text ≡ Some (line, rest)
cut_front text line rest plain same = ap (λ t. cut_line t) (same ∙ append_assoc line (10 ∷ []) rest) ∙ cut_again line rest plain

pub one_line : (text a x b y : List ℕ) → lacks_lf a ≡ true → lacks_lf b ≡ true → text ≡ with_lf a ++ x → text ≡ with_lf b ++ y → (a ≡ b) × (x ≡ y)
one_line text a x b y pa pb fa fb = some_parts a b x y (cut_line text) (cut_front text a x pa fa) (cut_front text b y pb fb)

pub front_unread : {T : Type 0} (kind : Kind T) (text line rest : List ℕ) → Lacks kind → cut_line text ≡ Some (line, rest) → IsReadAs kind line None → Fronts kind text None
front_unread kind text line rest plain cut none = λ value behind fits same.
    none value fits (some_parts line (kind.code value) rest behind (cut_line text) cut (cut_front text (kind.code value) behind (plain value fits) same)).0

pub front_uncut : {T : Type 0} (kind : Kind T) (text : List ℕ) → Lacks kind → cut_line text ≡ None → Fronts kind text None
front_uncut kind text plain cut = λ value behind fits same.
    no_line (kind.code value) behind (cut_line text) cut (cut_front text (kind.code value) behind (plain value fits) same)

pub number_lacks : (word : List ℕ) → lacks_lf word ≡ true → Lacks (number_line word)
number_lacks word plain = λ value fits. lacks_both word (decimal value) plain (decimal_lacks value fits)

-- a word that is spelled, and then a line or a value
pub word_line_is : (a b spelled text mid : List ℕ) (o : Option (List ℕ)) → spelled ≡ b → text ≡ a ++ mid → Follows (with_lf spelled) mid o → Follows (with_lf (a ++ b)) text o
word_line_is a b spelled text mid o is first second = word_line a b text mid o first (subst (λ s. Follows (with_lf s) mid o) is second)

pub word_value_is : {T : Type 0} (word spelled : List ℕ) (kind : Kind T) (text mid : List ℕ) (o : Option T) → spelled ≡ word → text ≡ spelled ++ mid → IsReadAs kind mid o → IsReadAs (prefixed word kind) text o
word_value_is word spelled kind text mid o is first second = word_value word kind text mid o (first ∙ ap (λ w. w ++ mid) is) second
