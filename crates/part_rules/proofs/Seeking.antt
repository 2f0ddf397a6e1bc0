-- Partitions whose values begin so stand behind one another, from the first one on that isn't below these values.
use Rattle.std.proofs.Common.{◌≡◌, ℕ, ◌-◌, ℤ, pos, negsuc, Bool, true, false, cond, ◌&&◌, List, [], ◌∷◌, ◌++◌, filter, length, take, refl, sym, ap, ◌∙◌, subst, append-nil, arith}
use Rattle.std.proofs.lemmas.List.Kept.{IsStrictlySortedBy-filter}
use Rattle.std.proofs.lemmas.Map.Keys.{sorted_head, sorted_tail}
use Rattle.std.proofs.lemmas.Map.Text.{is_eq-slice_cmp}
use Rattle.std.specs.Cmp.Lexicographic.{nat_list_cmp_total, slice_cmp}
use Rattle.std.specs.List.{AllByRecursion, list_all}
use Rattle.std.specs.List.Sorted.{IsStrictlySortedBy}
use Rattle.std.specs.Map.{keys_of}
use Rattle.std.specs.Ordering.{is_eq, is_le, nat_cmp, ordering_reverse, ordering_then}
use Rattle.std.specs.Str.{bytes_eq}
use Rattle.std.specs.declared.cmp.Ordering.{Ordering}
use Rattle.std.specs.declared.cmp.Ordering.TheVariants.{Equal, Greater, Less}
use Rattle.cat_objects.specs.Parts.{PartList, parts_from}
use Rattle.cat_values.specs.declared.records.PartRec.{PartRec}
use Rattle.part_rules.proofs.Listing.{listed_behind}
use Rattle.part_rules.specs.Partitions.{begin_with, leading, listed}
use Rattle.rulings.proofs.Listing.{first_behind, take_empty}

abbrev text_cmp : List ℕ → List ℕ → Ordering
text_cmp = slice_cmp nat_cmp

abbrev texts_cmp : List (List ℕ) → List (List ℕ) → Ordering
texts_cmp = slice_cmp text_cmp

both_true : (a b : Bool) → (a && b) ≡ true → (a ≡ true) × (b ≡ true)
both_true true b is = (refl, is)
both_true false b is = absurd cc

-- ---- what begins as it is asked for begins with the leading values, and isn't below them
leads : (wanted values : List (List ℕ)) → begin_with wanted values ≡ true → begin_with (leading wanted) values ≡ true
leads [] values is = refl
leads ([] ∷ more) values is = refl
leads ((b ∷ bs) ∷ more) [] is = absurd cc
leads ((b ∷ bs) ∷ more) (v ∷ vs) is =
    let both = both_true (bytes_eq (b ∷ bs) v) (begin_with more vs) is in
    ap (λ (t : Bool). t && begin_with (leading more) vs) both.0 ∙ leads more vs both.1

equal_le : (o p : Ordering) → is_eq o ≡ true → is_le p ≡ true → is_le (ordering_then o p) ≡ true
equal_le Less p is le = absurd cc
equal_le Equal p is le = le
equal_le Greater p is le = absurd cc

not_below : (wanted values : List (List ℕ)) → begin_with (leading wanted) values ≡ true → is_le (texts_cmp (leading wanted) values) ≡ true
not_below [] [] is = refl
not_below [] (v ∷ vs) is = refl
not_below ([] ∷ more) [] is = refl
not_below ([] ∷ more) (v ∷ vs) is = refl
not_below ((b ∷ bs) ∷ more) [] is = absurd cc
not_below ((b ∷ bs) ∷ more) (v ∷ vs) is =
    let both = both_true (bytes_eq (b ∷ bs) v) (begin_with (leading more) vs) is in
    equal_le (text_cmp (b ∷ bs) v) (texts_cmp (leading more) vs) (is_eq-slice_cmp (b ∷ bs) v ∙ both.0) (not_below more vs both.1)

-- ---- behind values that don't begin so, and aren't below, no values begin so
same_turned : (w x y : List ℕ) → text_cmp x y ≡ Equal → text_cmp w x ≡ text_cmp w y
same_turned w x y same =
    nat_list_cmp_total.antisymm w x ∙ ap ordering_reverse (nat_list_cmp_total.congr x y w same) ∙ sym (nat_list_cmp_total.antisymm w y)

unequal : (w y : List ℕ) (rest : Bool) → text_cmp w y ≡ Less → (bytes_eq w y && rest) ≡ false
unequal w y rest below = ap (λ (t : Bool). t && rest) (sym (is_eq-slice_cmp w y) ∙ ap is_eq below)

equal_rest : (w x : List ℕ) (rest : Bool) → text_cmp w x ≡ Equal → (bytes_eq w x && rest) ≡ false → rest ≡ false
equal_rest w x rest same is = ap (λ (t : Bool). t && rest) (sym (ap is_eq same) ∙ is_eq-slice_cmp w x) ∙ is

rest_false : (t rest : Bool) → rest ≡ false → (t && rest) ≡ false
rest_false true rest is = is
rest_false false rest is = refl

by_orders : (w x y : List ℕ) (fs xs ys : List (List ℕ)) (o p : Ordering) → text_cmp w x ≡ o → text_cmp x y ≡ p → is_le (ordering_then o (texts_cmp fs xs)) ≡ true → (bytes_eq w x && begin_with fs xs) ≡ false
    → ordering_then p (texts_cmp xs ys) ≡ Less → (is_le (texts_cmp fs xs) ≡ true → begin_with fs xs ≡ false → texts_cmp xs ys ≡ Less → begin_with fs ys ≡ false) → (bytes_eq w y && begin_with fs ys) ≡ false
by_orders w x y fs xs ys Greater p wx xy le not_so below later = absurd cc
by_orders w x y fs xs ys Less Less wx xy le not_so below later = unequal w y (begin_with fs ys) (nat_list_cmp_total.trans w x y wx xy)
by_orders w x y fs xs ys Less Equal wx xy le not_so below later = unequal w y (begin_with fs ys) (sym (same_turned w x y xy) ∙ wx)
by_orders w x y fs xs ys Less Greater wx xy le not_so below later = absurd cc
by_orders w x y fs xs ys Equal Less wx xy le not_so below later = unequal w y (begin_with fs ys) (nat_list_cmp_total.congr w x y wx ∙ xy)
by_orders w x y fs xs ys Equal Equal wx xy le not_so below later = rest_false (bytes_eq w y) (begin_with fs ys) (later le (equal_rest w x (begin_with fs xs) wx not_so) below)
by_orders w x y fs xs ys Equal Greater wx xy le not_so below later = absurd cc

past : (wanted xs ys : List (List ℕ)) → is_le (texts_cmp (leading wanted) xs) ≡ true → begin_with (leading wanted) xs ≡ false → texts_cmp xs ys ≡ Less → begin_with (leading wanted) ys ≡ false
past [] xs ys le not_so below = absurd cc
past ([] ∷ more) xs ys le not_so below = absurd cc
past ((b ∷ bs) ∷ more) [] ys le not_so below = absurd cc
past ((b ∷ bs) ∷ more) (x ∷ xs) [] le not_so below = absurd cc
past ((b ∷ bs) ∷ more) (x ∷ xs) (y ∷ ys) le not_so below =
    by_orders (b ∷ bs) x y (leading more) xs ys (text_cmp (b ∷ bs) x) (text_cmp x y) refl refl le not_so below (λ l n u. past more xs ys l n u)

not_led : (wanted values : List (List ℕ)) (b : Bool) → begin_with wanted values ≡ b → begin_with (leading wanted) values ≡ false → b ≡ false
not_led wanted values true is none = sym (leads wanted values is) ∙ none
not_led wanted values false is none = refl

-- ---- what is left of the partitions from the leading values on

-- it rises, and nothing in it is below those values
abbrev pub IsLeft : List (List ℕ) → PartList → Type 0
IsLeft wanted left = IsStrictlySortedBy texts_cmp (keys_of left) × (list_all (λ e. is_le (texts_cmp (leading wanted) e.0)) left ≡ true)

keys_kept : (p : List (List ℕ) → Bool) (parts : PartList) → filter p (keys_of parts) ≡ keys_of (filter (λ e. p e.0) parts)
keys_kept p [] = refl
keys_kept p (e ∷ es) = by_test (p e.0) (keys_kept p es)
  where
    by_test : (b : Bool) → filter p (keys_of es) ≡ keys_of (filter (λ d. p d.0) es) → cond b (e.0 ∷ filter p (keys_of es)) (filter p (keys_of es)) ≡ keys_of (cond b (e ∷ filter (λ d. p d.0) es) (filter (λ d. p d.0) es))
    by_test true same = ap (λ ks. e.0 ∷ ks) same
    by_test false same = same

all_kept : (p : List (List ℕ) × PartRec → Bool) (parts : PartList) → list_all p (filter p parts) ≡ true
all_kept p [] = refl
all_kept p (e ∷ es) = by_test (p e) refl (all_kept p es)
  where
    by_test : (b : Bool) → p e ≡ b → list_all p (filter p es) ≡ true → list_all p (cond b (e ∷ filter p es) (filter p es)) ≡ true
    by_test true is all = ap (λ (t : Bool). t && list_all p (filter p es)) is ∙ all
    by_test false is all = all

pub left_first : (wanted : List (List ℕ)) (parts : PartList) → IsStrictlySortedBy texts_cmp (keys_of parts) → IsLeft wanted (parts_from (leading wanted) parts)
left_first wanted parts sorted =
    let kept = IsStrictlySortedBy-filter texts_cmp (λ k. is_le (texts_cmp (leading wanted) k)) (keys_of parts) sorted in
    (subst (λ ks. IsStrictlySortedBy texts_cmp ks) (keys_kept (λ k. is_le (texts_cmp (leading wanted) k)) parts) kept, all_kept (λ e. is_le (texts_cmp (leading wanted) e.0)) parts)

left_behind : (wanted values : List (List ℕ)) (rec : PartRec) (rest : PartList) → IsLeft wanted ((values, rec) ∷ rest) → IsLeft wanted rest
left_behind wanted values rec rest left = (sorted_tail texts_cmp values (keys_of rest) left.0, (both_true (is_le (texts_cmp (leading wanted) values)) (list_all (λ e. is_le (texts_cmp (leading wanted) e.0)) rest) left.1).1)

pub left_next : (wanted values : List (List ℕ)) (rec : PartRec) (left rest : PartList) → IsLeft wanted left → left ≡ (values, rec) ∷ rest → IsLeft wanted rest
left_next wanted values rec left rest is front = left_behind wanted values rec rest (subst (λ ps. IsLeft wanted ps) front is)

none_later : (wanted values : List (List ℕ)) (rest : PartList) → is_le (texts_cmp (leading wanted) values) ≡ true → begin_with (leading wanted) values ≡ false → AllByRecursion (λ y. texts_cmp values y ≡ Less) (keys_of rest) → filter (λ p. begin_with wanted p.0) rest ≡ []
none_later wanted values [] le not_so below = refl
none_later wanted values (e ∷ es) le not_so below =
    ap (λ (b : Bool). cond b (e ∷ filter (λ p. begin_with wanted p.0) es) (filter (λ p. begin_with wanted p.0) es)) (not_led wanted e.0 (begin_with wanted e.0) refl (past wanted values e.0 le not_so below.0))
    ∙ none_later wanted values es le not_so below.1

none_here : (wanted values : List (List ℕ)) (rec : PartRec) (rest : PartList) → IsLeft wanted ((values, rec) ∷ rest) → begin_with (leading wanted) values ≡ false → filter (λ p. begin_with wanted p.0) ((values, rec) ∷ rest) ≡ []
none_here wanted values rec rest left not_so =
    let le = (both_true (is_le (texts_cmp (leading wanted) values)) (list_all (λ e. is_le (texts_cmp (leading wanted) e.0)) rest) left.1).0 in
    ap (λ (b : Bool). cond b ((values, rec) ∷ filter (λ p. begin_with wanted p.0) rest) (filter (λ p. begin_with wanted p.0) rest)) (not_led wanted values (begin_with wanted values) refl not_so)
    ∙ none_later wanted values rest le not_so (sorted_head texts_cmp values (keys_of rest) left.0)

-- where values don't begin so, none that are left do
pub none_left : (wanted values : List (List ℕ)) (rec : PartRec) (left rest : PartList) → IsLeft wanted left → left ≡ (values, rec) ∷ rest → begin_with (leading wanted) values ≡ false → filter (λ p. begin_with wanted p.0) left ≡ []
none_left wanted values rec left rest is front not_so =
    ap (λ ps. filter (λ p. begin_with wanted p.0) ps) front ∙ none_here wanted values rec rest (subst (λ ps. IsLeft wanted ps) front is) not_so

-- all that begin so stand from the leading values on
pub all_from : (wanted : List (List ℕ)) (parts : PartList) → filter (λ p. begin_with wanted p.0) (parts_from (leading wanted) parts) ≡ filter (λ p. begin_with wanted p.0) parts
all_from wanted [] = refl
all_from wanted (e ∷ es) = by_tests (is_le (texts_cmp (leading wanted) e.0)) refl (begin_with wanted e.0) refl (all_from wanted es)
  where
    by_tests : (a : Bool) → is_le (texts_cmp (leading wanted) e.0) ≡ a → (b : Bool) → begin_with wanted e.0 ≡ b → filter (λ p. begin_with wanted p.0) (parts_from (leading wanted) es) ≡ filter (λ p. begin_with wanted p.0) es
        → filter (λ p. begin_with wanted p.0) (cond a (e ∷ parts_from (leading wanted) es) (parts_from (leading wanted) es)) ≡ cond b (e ∷ filter (λ p. begin_with wanted p.0) es) (filter (λ p. begin_with wanted p.0) es)
    by_tests true le true so same = ap (λ (b : Bool). cond b (e ∷ filter (λ p. begin_with wanted p.0) (parts_from (leading wanted) es)) (filter (λ p. begin_with wanted p.0) (parts_from (leading wanted) es))) so ∙ ap (λ ps. e ∷ ps) same
    by_tests true le false so same = ap (λ (b : Bool). cond b (e ∷ filter (λ p. begin_with wanted p.0) (parts_from (leading wanted) es)) (filter (λ p. begin_with wanted p.0) (parts_from (leading wanted) es))) so ∙ same
    by_tests false le true so same = let no : true ≡ false = sym (not_below wanted e.0 (leads wanted e.0 so)) ∙ le in absurd cc
    by_tests false le false so same = same

-- ---- listings

-- what is told, where none of those that are left are listed
pub told_all : {X : Type 0} (told whole : List X) (more : PartList → List X) (none : more [] ≡ []) (count : ℕ) (max : ℤ) (wanted : List (List ℕ)) (left : PartList) → told ++ more (listed_behind count wanted max left) ≡ whole → filter (λ p. begin_with wanted p.0) left ≡ [] → told ≡ whole
told_all told whole more none count max wanted left so_far nothing =
    sym (append-nil told) ∙ ap (λ xs. told ++ xs) (sym none)
    ∙ ap (λ ps. told ++ more ps) (sym (none_behind count max (filter (λ p. begin_with wanted p.0) left) nothing))
    ∙ so_far
  where
    none_behind : (n : ℕ) (m : ℤ) (ps : PartList) → ps ≡ [] → first_behind n m ps ≡ []
    none_behind n (pos k) ps is = take_empty (k - n) ps is
    none_behind n (negsuc k) ps is = is

-- at the leading values nothing is told yet
begun : {X : Type 0} (more : PartList → List X) (max : ℤ) (wanted : List (List ℕ)) (parts : PartList) → more (listed_behind 0 wanted max (parts_from (leading wanted) parts)) ≡ more (listed wanted max parts)
begun more (pos k) wanted parts =
    let same : k - 0 ≡ k = omega arith in
    ap (λ (n : ℕ). more (take n (filter (λ p. begin_with wanted p.0) (parts_from (leading wanted) parts)))) same
    ∙ ap (λ ps. more (take k ps)) (all_from wanted parts)
begun more (negsuc k) wanted parts = ap more (all_from wanted parts)

pub started : {X : Type 0} (more : PartList → List X) (max : ℤ) (wanted front : List (List ℕ)) (parts left : PartList) (told : List X) → told ≡ [] → left ≡ parts_from front parts → front ≡ leading wanted → told ++ more (listed_behind (length told) wanted max left) ≡ more (listed wanted max parts)
started more max wanted front parts left told none from is =
    ap (λ ts. ts ++ more (listed_behind (length ts) wanted max left)) none
    ∙ ap (λ ps. more (listed_behind 0 wanted max ps)) (from ∙ ap (λ f. parts_from f parts) is)
    ∙ begun more max wanted parts

pub started_left : (wanted front : List (List ℕ)) (parts left : PartList) → left ≡ parts_from front parts → front ≡ leading wanted → IsStrictlySortedBy texts_cmp (keys_of parts) → IsLeft wanted left
started_left wanted front parts left from is sorted = subst (λ ps. IsLeft wanted ps) (sym (from ∙ ap (λ f. parts_from f parts) is)) (left_first wanted parts sorted)

fails_here : (wanted : List (List ℕ)) (e : List (List ℕ) × PartRec) (rest : PartList) (b : Bool) → b ≡ false → cond b (e ∷ filter (λ p. begin_with wanted p.0) rest) (filter (λ p. begin_with wanted p.0) rest) ≡ filter (λ p. begin_with wanted p.0) rest
fails_here wanted e rest true is = absurd cc
fails_here wanted e rest false is = refl

-- one that doesn't begin so is passed over
pub passed_over : {X : Type 0} (more : PartList → List X) (told whole : List X) (count : ℕ) (max : ℤ) (wanted values : List (List ℕ)) (rec : PartRec) (left rest : PartList) → told ++ more (listed_behind count wanted max left) ≡ whole → left ≡ (values, rec) ∷ rest → begin_with wanted values ≡ false → told ++ more (listed_behind count wanted max rest) ≡ whole
passed_over more told whole count max wanted values rec left rest so_far front fails =
    ap (λ ps. told ++ more (first_behind count max ps)) (sym (ap (λ ps. filter (λ p. begin_with wanted p.0) ps) front ∙ fails_here wanted (values, rec) rest (begin_with wanted values) fails))
    ∙ so_far

nothing_left : (wanted : List (List ℕ)) (left : PartList) → left ≡ [] → filter (λ p. begin_with wanted p.0) left ≡ []
nothing_left wanted left none = ap (λ ps. filter (λ p. begin_with wanted p.0) ps) none

pub told_to_end : {X : Type 0} (told whole : List X) (more : PartList → List X) (none : more [] ≡ []) (count : ℕ) (max : ℤ) (wanted : List (List ℕ)) (left : PartList) → told ++ more (listed_behind count wanted max left) ≡ whole → left ≡ [] → told ≡ whole
told_to_end told whole more none count max wanted left so_far ended = told_all told whole more none count max wanted left so_far (nothing_left wanted left ended)
