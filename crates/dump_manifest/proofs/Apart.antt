-- Lines say what they say in one way.
use Rattle.std.proofs.Common.{◌≡◌, refl, sym, ap, subst, ◌∙◌, arith, ℕ, zero, suc, ◌+◌, ◌/◌, ◌%◌, ◌^◌, ◌<◌, ◌≤◌, ◌==◌, length, slice_index, List, [], ◌∷◌, ◌++◌, Bool, true, false, inl, inr, codes, decimal, if◌then◌else◌, nat_lt}
use Rattle.std.specs.Fmt.{digit_glyph, digits, digits_onto}
use Rattle.std.proofs.lemmas.Fmt.{decimal_injective}
use Rattle.hex.specs.Hex.{encode_lower}
use Rattle.dump_manifest.specs.declared.manifest.FileLine.{FileLine}
use Rattle.dump_manifest.specs.Manifests.{IsDigest, IsFile, begin_line, born_line, db_line, done_line, dump_line, end_line, event_name, file_line, item_name, kind_line, source_line, version_line}
use Rattle.dump_manifest.specs.Pieces.{lacks_lf, line_of}
use Rattle.dump_manifest.specs.Reading.{IsNextFile, MayStand, Place, at_begin, at_born, at_db, at_dump, at_end, at_file, at_kind, at_last, at_source, at_version}
use Rattle.dump_manifest.proofs.Folders.{one_hex}
use Rattle.dump_manifest.proofs.Names.{lower_lacks}
use Rattle.dump_manifest.proofs.Pieces.{lacks_both}
use Rattle.dump_manifest.proofs.Rows.{line_is}
use Rattle.dump_manifest.proofs.Tails.{hex_lacks, lacks_cons}
use Rattle.dump_manifest.proofs.Words.{behind_same}

-- ---- digits and letters

-- no byte is below the digits
abbrev pub High : List ℕ → Type 0
High [] = Unit {0}
High (b ∷ bytes) = (48 ≤ b) × High bytes

glyph_high : (d : ℕ) → 48 ≤ digit_glyph false d
glyph_high d = by (nat_lt d 10)
  where
    by : (small : Bool) → 48 ≤ (if small then 48 + d else 87 + d)
    by true = omega arith
    by false = omega arith

onto_by : (last : Bool) (n : ℕ) (acc others : List ℕ) → High acc → High others → High (if last then digit_glyph false (n % 10) ∷ acc else others)
onto_by true n acc others high other = (glyph_high (n % 10), high)
onto_by false n acc others high other = other

onto_high : (k n : ℕ) (acc : List ℕ) → High acc → High (digits_onto k 10 false n acc)
onto_high zero n acc high = high
onto_high (suc k) n acc high = onto_by (n / 10 == 0) n acc (digits_onto k 10 false (n / 10) (digit_glyph false (n % 10) ∷ acc)) high
    (onto_high k (n / 10) (digit_glyph false (n % 10) ∷ acc) (glyph_high (n % 10), high))

pub decimal_high : (n : ℕ) → High (decimal n)
unfolding digits
decimal_high n = onto_high 64 n [] tt

pub item_high : (n : ℕ) → High (item_name n)
unfolding item_name
item_high n = (omega arith, decimal_high n)

pub event_high : (n : ℕ) → High (event_name n)
unfolding event_name
event_high n = (omega arith, decimal_high n)

pub high_lacks : (bytes : List ℕ) → High bytes → lacks_lf bytes ≡ true
high_lacks [] high = refl
high_lacks (b ∷ bytes) high = let low = high.0 in lacks_cons b bytes (λ e. omega (arith, e, low)) (high_lacks bytes high.1)

-- ---- texts cut at a byte that isn't in them

abbrev first_of : List ℕ → ℕ
first_of [] = 0
first_of (b ∷ bytes) = b

abbrev rest_of : List ℕ → List ℕ
rest_of [] = []
rest_of (b ∷ bytes) = bytes

pub one_cut : (c : ℕ) (a b x y : List ℕ) → c < 48 → High a → High b → a ++ c ∷ x ≡ b ++ c ∷ y → (a ≡ b) × (x ≡ y)
one_cut c [] [] x y low ha hb same = (refl, ap rest_of same)
one_cut c [] (b ∷ bs) x y low ha hb same = let e : c ≡ b = ap first_of same in let h = hb.0 in absurd (omega (arith, e, h, low))
one_cut c (a ∷ as') [] x y low ha hb same = let e : a ≡ c = ap first_of same in let h = ha.0 in absurd (omega (arith, e, h, low))
one_cut c (a ∷ as') (b ∷ bs) x y low ha hb same =
    let e : a ≡ b = ap first_of same in
    let r = one_cut c as' bs x y low ha.1 hb.1 (ap rest_of same) in
    (ap (λ z. z ∷ as') e ∙ ap (λ zs. b ∷ zs) r.0, r.1)

-- ---- lines hold no LF

name_high : (b : Bool) (items events : ℕ) (name : List ℕ) (next : Place) → IsNextFile b items events name next → High name
name_high b items events name next (inl (boot, first, is, place)) = subst High (sym is) (item_high items)
name_high b items events name next (inr (has, is, place)) = subst High (sym is) (event_high events)

line_lacks : (name : List ℕ) (n : ℕ) (digest : List ℕ) → High name → IsDigest 32 digest → lacks_lf (line_of name n digest) ≡ true
line_lacks name n digest high fits =
    lacks_both (codes "file ") (name ++ (codes " " ++ (decimal n ++ (codes " " ++ encode_lower digest)))) refl
    (lacks_both name (codes " " ++ (decimal n ++ (codes " " ++ encode_lower digest))) (high_lacks name high)
    (lacks_both (codes " ") (decimal n ++ (codes " " ++ encode_lower digest)) refl
    (lacks_both (decimal n) (codes " " ++ encode_lower digest) (high_lacks (decimal n) (decimal_high n))
    (lacks_both (codes " ") (encode_lower digest) refl (hex_lacks digest fits.0)))))

word_lacks : (word : List ℕ) (n : ℕ) (line : List ℕ) → lacks_lf word ≡ true → line ≡ word ++ decimal n → lacks_lf line ≡ true
word_lacks word n line plain is = subst (λ l. lacks_lf l ≡ true) (sym is) (lacks_both word (decimal n) plain (high_lacks (decimal n) (decimal_high n)))

kind_lacks : (b : Bool) → lacks_lf (kind_line b) ≡ true
unfolding kind_line
kind_lacks true = refl
kind_lacks false = refl

pub stands_lacks : (source : List ℕ) (dump : ℕ) (place : Place) (line : List ℕ) (next : Place) → IsDigest 16 source → MayStand source dump place line next → lacks_lf line ≡ true
unfolding version_line source_line db_line dump_line begin_line end_line born_line done_line
stands_lacks source dump at_version line next digest stands = subst (λ l. lacks_lf l ≡ true) (sym stands.0) refl
stands_lacks source dump at_source line next digest stands =
    subst (λ l. lacks_lf l ≡ true) (sym stands.0) (lacks_both (codes "source ") (encode_lower source) refl (hex_lacks source digest.0))
stands_lacks source dump at_db line next digest (name, fits, is, place) =
    subst (λ l. lacks_lf l ≡ true) (sym is) (lacks_both (codes "db ") name refl (lower_lacks name fits.1))
stands_lacks source dump at_dump line next digest stands = word_lacks (codes "dump ") dump line refl stands.0
stands_lacks source dump at_kind line next digest (b, is, place) = subst (λ l. lacks_lf l ≡ true) (sym is) (kind_lacks b)
stands_lacks source dump (at_begin b) line next digest (n, fits, is, place) = word_lacks (codes "begin ") n line refl is
stands_lacks source dump (at_end b begin) line next digest (n, fits, is, place) = word_lacks (codes "end ") n line refl is
stands_lacks source dump (at_born b) line next digest (n, fits, is, place) = word_lacks (codes "born ") n line refl is
stands_lacks source dump (at_file b items events) line next digest (inl (f, fits, is, which)) =
    subst (λ l. lacks_lf l ≡ true) (sym (is ∙ line_is f)) (line_lacks f.name f.length f.digest (name_high b items events f.name next which) fits.1)
stands_lacks source dump (at_file b items events) line next digest (inr (has, is, place)) = subst (λ l. lacks_lf l ≡ true) (sym is) refl
stands_lacks source dump at_last line next digest stands = absurd stands

-- ---- what a line says

pub kind_same : (b c : Bool) → kind_line b ≡ kind_line c → b ≡ c
unfolding kind_line
kind_same true true same = refl
kind_same false false same = refl
kind_same true false same = let e : 14 ≡ 16 = ap (λ l. length l) same in absurd (omega (arith, e))
kind_same false true same = let e : 16 ≡ 14 = ap (λ l. length l) same in absurd (omega (arith, e))

pub begin_same : (m n : ℕ) → m < 2 ^ 64 → n < 2 ^ 64 → begin_line m ≡ begin_line n → m ≡ n
unfolding begin_line
begin_same m n sm sn same = decimal_injective m n sm sn (behind_same (codes "begin ") (decimal m) (decimal n) same)

pub end_same : (m n : ℕ) → m < 2 ^ 64 → n < 2 ^ 64 → end_line m ≡ end_line n → m ≡ n
unfolding end_line
end_same m n sm sn same = decimal_injective m n sm sn (behind_same (codes "end ") (decimal m) (decimal n) same)

pub born_same : (m n : ℕ) → m < 2 ^ 64 → n < 2 ^ 64 → born_line m ≡ born_line n → m ≡ n
unfolding born_line
born_same m n sm sn same = decimal_injective m n sm sn (behind_same (codes "born ") (decimal m) (decimal n) same)

pub db_same : (a b : List ℕ) → db_line a ≡ db_line b → a ≡ b
unfolding db_line
db_same a b same = behind_same (codes "db ") a b same

item_event : (i e m n : ℕ) (x y : List ℕ) → line_of (item_name i) m x ≡ line_of (event_name e) n y → ⊥
unfolding item_name event_name
item_event i e m n x y same = let s : 105 ≡ 101 = ap (λ l. slice_index l 5) same in omega (arith, s)

pub file_done : (name x : List ℕ) (n : ℕ) → line_of name n x ≡ done_line → ⊥
unfolding done_line
file_done name x n same = let s : 102 ≡ 100 = ap (λ l. slice_index l 0) same in omega (arith, s)

-- the line of each file says its name, its length and its digest
file_path : (f g : FileLine) → f.name ≡ g.name → f.length ≡ g.length → f.digest ≡ g.digest → f ≡ g
file_path f g p q r = λ i. record { name = p i; length = q i; digest = r i }

pub file_same : (f g : FileLine) → High f.name → High g.name → IsFile f → IsFile g → file_line f ≡ file_line g → f ≡ g
file_same f g hf hg ff fg same =
    let lines = behind_same (codes "file ") (f.name ++ (codes " " ++ (decimal f.length ++ (codes " " ++ encode_lower f.digest))))
    (g.name ++ (codes " " ++ (decimal g.length ++ (codes " " ++ encode_lower g.digest)))) (sym (line_is f) ∙ (same ∙ line_is g)) in
    let names = one_cut 32 f.name g.name (decimal f.length ++ (codes " " ++ encode_lower f.digest)) (decimal g.length ++ (codes " " ++ encode_lower g.digest)) (omega arith) hf hg lines in
    let lengths = one_cut 32 (decimal f.length) (decimal g.length) (encode_lower f.digest) (encode_lower g.digest) (omega arith) (decimal_high f.length) (decimal_high g.length) names.1 in
    file_path f g names.0 (decimal_injective f.length g.length ff.0 fg.0 lengths.0) (one_hex 32 f.digest g.digest ff.1 fg.1 lengths.1)

-- ---- where a line leads

named_as : (f : FileLine) (name line : List ℕ) → line ≡ file_line f → f.name ≡ name → line ≡ line_of name f.length f.digest
named_as f name line is called = is ∙ (line_is f ∙ ap (λ n. line_of n f.length f.digest) called)

files_next : (b : Bool) (items events : ℕ) (f g : FileLine) (line : List ℕ) (p q : Place) → line ≡ file_line f → line ≡ file_line g
    → IsNextFile b items events f.name p → IsNextFile b items events g.name q → p ≡ q
files_next b items events f g line p q lf lg (inl (boot, first, is, place)) (inl (boot', first', is', place')) = place ∙ sym place'
files_next b items events f g line p q lf lg (inr (has, is, place)) (inr (has', is', place')) = place ∙ sym place'
files_next b items events f g line p q lf lg (inl (boot, first, is, place)) (inr (has', is', place')) =
    absurd (item_event items events f.length g.length f.digest g.digest (sym (named_as f (item_name items) line lf is) ∙ named_as g (event_name events) line lg is'))
files_next b items events f g line p q lf lg (inr (has, is, place)) (inl (boot', first', is', place')) =
    absurd (item_event items events g.length f.length g.digest f.digest (sym (named_as g (item_name items) line lg is') ∙ named_as f (event_name events) line lf is))

pub next_same : (source : List ℕ) (dump : ℕ) (place : Place) (line : List ℕ) (p q : Place) → MayStand source dump place line p → MayStand source dump place line q → p ≡ q
next_same source dump at_version line p q one other = one.1 ∙ sym other.1
next_same source dump at_source line p q one other = one.1 ∙ sym other.1
next_same source dump at_db line p q (a, fits, is, place) (a', fits', is', place') = place ∙ sym place'
next_same source dump at_dump line p q one other = one.1 ∙ sym other.1
next_same source dump at_kind line p q (b, is, place) (b', is', place') = place ∙ (ap at_begin (kind_same b b' (sym is ∙ is')) ∙ sym place')
next_same source dump (at_begin b) line p q (n, fits, is, place) (n', fits', is', place') = place ∙ (ap (at_end b) (begin_same n n' fits fits' (sym is ∙ is')) ∙ sym place')
next_same source dump (at_end b begin) line p q (n, fits, is, place) (n', fits', is', place') = place ∙ sym place'
next_same source dump (at_born b) line p q (n, fits, is, place) (n', fits', is', place') = place ∙ sym place'
next_same source dump (at_file b items events) line p q (inl (f, fits, is, which)) (inl (g, fits', is', which')) = files_next b items events f g line p q is is' which which'
next_same source dump (at_file b items events) line p q (inl (f, fits, is, which)) (inr (has, is', place')) =
    absurd (file_done f.name f.digest f.length (sym (line_is f) ∙ (sym is ∙ is')))
next_same source dump (at_file b items events) line p q (inr (has, is, place)) (inl (g, fits', is', which')) =
    absurd (file_done g.name g.digest g.length (sym (line_is g) ∙ (sym is' ∙ is)))
next_same source dump (at_file b items events) line p q (inr (has, is, place)) (inr (has', is', place')) = place ∙ sym place'
next_same source dump at_last line p q one other = absurd one
