-- Names, each once, in the order of first asking.
use Rattle.std.proofs.Common.{◌≡◌, ℕ, Bool, true, false, ◌||◌, List, [], ◌∷◌, ◌++◌, cond, if◌then◌else◌, refl, sym, ap, subst, ◌∙◌}
use Rattle.std.proofs.lemmas.List.{append_assoc}
use Rattle.std.proofs.lemmas.Map.Text.{is_eq-slice_cmp}
use Rattle.std.specs.BTreeMap.{is_at}
use Rattle.std.specs.Cmp.Lexicographic.{nat_list_cmp_total, slice_cmp}
use Rattle.std.specs.List.{list_any}
use Rattle.std.specs.Ordering.{is_eq, nat_cmp, ordering_reverse}
use Rattle.std.specs.Str.{bytes_eq}
use Rattle.std.specs.declared.cmp.Ordering.{Ordering}
use Rattle.std.specs.declared.cmp.Ordering.TheVariants.{Equal, Greater, Less}
use Rattle.stat_rules.specs.Records.{first_asked}

-- the same names stand in both lists
abbrev pub SameNames : List (List ℕ) → List (List ℕ) → Type 0
SameNames xs ys = (name : List ℕ) → list_any (bytes_eq name) xs ≡ list_any (bytes_eq name) ys

-- whether a set has a name
abbrev pub has_name : List (List ℕ) → List ℕ → Bool
has_name names name = list_any (is_at (slice_cmp nat_cmp name)) names

by_bytes : (name : List ℕ) (names : List (List ℕ)) → has_name names name ≡ list_any (bytes_eq name) names
by_bytes name [] = refl
by_bytes name (x ∷ xs) = ap (λ (b : Bool). b || has_name xs name) (is_eq-slice_cmp name x) ∙ ap (λ (b : Bool). bytes_eq name x || b) (by_bytes name xs)

asked_by : (b : Bool) (xs ys : List (List ℕ)) (name : List ℕ) (names : List (List ℕ)) → first_asked xs names ≡ first_asked ys names → first_asked (name ∷ xs) names ≡ first_asked (name ∷ ys) names
    → (if b then first_asked xs names else name ∷ first_asked (name ∷ xs) names) ≡ (if b then first_asked ys names else name ∷ first_asked (name ∷ ys) names)
asked_by true xs ys name names passed taken = passed
asked_by false xs ys name names passed taken = ap (λ ns. name ∷ ns) taken

-- what is asked for first depends only on which names were seen
asked_alike : (xs ys names : List (List ℕ)) → SameNames xs ys → first_asked xs names ≡ first_asked ys names
asked_alike xs ys [] same = refl
asked_alike xs ys (name ∷ names) same =
    asked_by (list_any (bytes_eq name) xs) xs ys name names (asked_alike xs ys names same) (asked_alike (name ∷ xs) (name ∷ ys) names (λ other. ap (λ (b : Bool). bytes_eq other name || b) (same other)))
    ∙ ap (λ (b : Bool). if b then first_asked ys names else name ∷ first_asked (name ∷ ys) names) (same name)

turned_eq : (o p : Ordering) → o ≡ ordering_reverse p → is_eq o ≡ is_eq p
turned_eq o Less is = ap is_eq is
turned_eq o Equal is = ap is_eq is
turned_eq o Greater is = ap is_eq is

found_or : (b c : Bool) → cond b true c ≡ (b || c)
found_or true c = refl
found_or false c = refl

-- a set with one name more has the names that a list with that name at its front has
with_name : (old new : List (List ℕ)) (name : List ℕ) → ((other : List ℕ) → has_name new other ≡ cond (is_at (slice_cmp nat_cmp name) other) true (has_name old other)) → SameNames new (name ∷ old)
with_name old new name updates other =
    sym (by_bytes other new)
    ∙ updates other
    ∙ found_or (is_at (slice_cmp nat_cmp name) other) (has_name old other)
    ∙ ap (λ (b : Bool). b || has_name old other) (turned_eq (slice_cmp nat_cmp name other) (slice_cmp nat_cmp other name) (nat_list_cmp_total.antisymm name other) ∙ is_eq-slice_cmp other name)
    ∙ ap (λ (b : Bool). bytes_eq other name || b) (by_bytes other old)

-- a name that was seen is passed over
pub passed_name : (once seen : List (List ℕ)) (text name : List ℕ) (names : List (List ℕ)) → text ≡ name → has_name seen text ≡ true → once ++ first_asked seen names ≡ once ++ first_asked seen (name ∷ names)
passed_name once seen text name names is there =
    ap (λ (b : Bool). once ++ (if b then first_asked seen names else name ∷ first_asked (name ∷ seen) names)) (sym (sym (by_bytes name seen) ∙ subst (λ (n : List ℕ). has_name seen n ≡ true) is there))

-- a name that wasn't seen is asked for, and is seen from then on
pub asked_name : (once next old new : List (List ℕ)) (text key name : List ℕ) (names : List (List ℕ)) → text ≡ name → key ≡ name → has_name old text ≡ false
    → ((other : List ℕ) → has_name new other ≡ cond (is_at (slice_cmp nat_cmp key) other) true (has_name old other)) → next ≡ once ++ name ∷ [] → next ++ first_asked new names ≡ once ++ first_asked old (name ∷ names)
asked_name once next old new text key name names is key_is absent updates put =
    let seen : (other : List ℕ) → has_name new other ≡ cond (is_at (slice_cmp nat_cmp name) other) true (has_name old other) =
    subst (λ (n : List ℕ). (other : List ℕ) → has_name new other ≡ cond (is_at (slice_cmp nat_cmp n) other) true (has_name old other)) key_is updates in
    ap (λ ns. ns ++ first_asked new names) put
    ∙ append_assoc once (name ∷ []) (first_asked new names)
    ∙ ap (λ ns. once ++ name ∷ ns) (asked_alike new (name ∷ old) names (with_name old new name seen))
    ∙ ap (λ (b : Bool). once ++ (if b then first_asked old names else name ∷ first_asked (name ∷ old) names)) (sym (sym (by_bytes name old) ∙ subst (λ (n : List ℕ). has_name old n ≡ false) is absent))
