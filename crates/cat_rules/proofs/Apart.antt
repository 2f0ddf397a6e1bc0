-- A set of the names so far, and whether they are all different.
use Rattle.std.proofs.Common.{◌≡◌, ◌≢◌, ℕ, ◌<◌, Bool, true, false, cond, List, [], ◌∷◌, ◌++◌, map, length, get_or, take, refl, sym, ap, ◌∙◌, subst, arith, ◌||◌, not, ◌↔◌, Result}
use Rattle.std.specs.BTreeSet.{BTreeSet, contains_by, Updates}
use Rattle.std.specs.Cmp.Lexicographic.{slice_cmp}
use Rattle.std.specs.List.{IsDistinct, AllPairs, list_any}
use Rattle.std.specs.Ordering.{nat_cmp, is_eq}
use Rattle.std.specs.Str.{bytes_eq}
use Rattle.std.proofs.lemmas.Bool.{false≢true}
use Rattle.std.proofs.lemmas.Cmp.{nat_list_eq_equiv}
use Rattle.std.proofs.lemmas.List.{map-append, take-map, get_or-take, get_or-map, length-map, length-take-le, get_or_default}
use Rattle.std.proofs.lemmas.List.Folds.{list_any-append, Any-from_list_any}
use Rattle.std.proofs.lemmas.Map.Keys.{IsDistinct-push}
use Rattle.std.proofs.lemmas.Map.Made.{AllPairs-from_IsDistinct}
use Rattle.std.proofs.lemmas.Map.Text.{is_eq-slice_cmp}
use Rattle.std.specs.Bool.{IsTrue}
use Rattle.std.specs.Result.{IfOk}
use Rattle.std.proofs.lemmas.Result.{IfOk-weaker}
use Rattle.std.proofs.lemmas.Slice.Eq.{bytes_eq-Decides}
use Rattle.cat_values.specs.declared.storage.Column.{Column}
use Rattle.cat_rules.specs.Tables.{names_of, AreApart, AreNamed, FitTogether, do_fit_together}
use Rattle.cat_rules.proofs.Deciding.{fit_together-Decides}
use Rattle.std.proofs.lemmas.Bool.Decides.{same_from_decides}
use denote.Ref.{Bor}
use Rattle.std.specs.declared.cmp.Ordering.{Ordering}

-- whether a set of references to texts has a text
abbrev pub has_text : BTreeSet (Bor (List ℕ)) → List ℕ → Bool
has_text s q = contains_by (λ k. slice_cmp nat_cmp q k.now) s

abbrev pub text_order : Bor (List ℕ) → Bor (List ℕ) → Ordering
text_order a b = slice_cmp nat_cmp a.now b.now

-- an empty set has none
pub has_none : (s : BTreeSet (Bor (List ℕ))) (q : List ℕ) → s.keys ≡ [] → has_text s q ≡ false
has_none s q e = rw e refl

list_any_push : (q x : List ℕ) (names : List (List ℕ)) → list_any (bytes_eq q) (names ++ x ∷ []) ≡ (list_any (bytes_eq q) names || bytes_eq q x)
list_any_push q x names = list_any-append (bytes_eq q) names (x ∷ []) ∙ ap (λ (b : Bool). list_any (bytes_eq q) names || b) (or_false (bytes_eq q x))
  where
    or_false : (b : Bool) → (b || false) ≡ b
    or_false true = refl
    or_false false = refl

cond_or : (b s : Bool) → cond b true s ≡ (s || b)
cond_or true true = refl
cond_or true false = refl
cond_or false true = refl
cond_or false false = refl

-- with one name more
pub has_more : (s n : BTreeSet (Bor (List ℕ))) (key : Bor (List ℕ)) (names : List (List ℕ)) → Updates text_order s n key true → ((q : List ℕ) → has_text s q ≡ list_any (bytes_eq q) names) → (q : List ℕ) → has_text n q ≡ list_any (bytes_eq q) (names ++ key.now ∷ [])
has_more s n key names u h q =
    u.0 (record { ref_ptr = (0, 0); now = q })
    ∙ cond_or (is_eq (slice_cmp nat_cmp key.now q)) (has_text s q)
    ∙ ap (λ (b : Bool). has_text s q || b) (is_eq-slice_cmp key.now q ∙ nat_list_eq_equiv.symm key.now q)
    ∙ ap (λ (b : Bool). b || bytes_eq q key.now) (h q)
    ∙ sym (list_any_push q key.now names)

-- the names of references to columns, with one more
pub names_push : (columns : List (Bor Column)) (column : Bor Column) → names_of (map (λ (c : Bor Column). c.now) (columns ++ column ∷ [])) ≡ names_of (map (λ (c : Bor Column). c.now) columns) ++ column.now.name ∷ []
names_push columns column = ap names_of (map-append (λ (c : Bor Column). c.now) columns (column ∷ [])) ∙ map-append (λ (c : Column). c.name) (map (λ (c : Bor Column). c.now) columns) (column.now ∷ [])

pub distinct_none : IsDistinct bytes_eq []
unfolding IsDistinct
distinct_none = tt

pub distinct_more : (names : List (List ℕ)) (x : List ℕ) → IsDistinct bytes_eq names → list_any (bytes_eq x) names ≡ false → IsDistinct bytes_eq (names ++ x ∷ [])
distinct_more names x d n = IsDistinct-push nat_list_eq_equiv names x d n

-- what an insert says: whether the key is new
pub is_old : (added had : Bool) → added ≡ not had → added ≡ false → had ≡ true
is_old added true e f = refl
is_old added false e f = absurd (false≢true (sym f ∙ e))

pub is_new : (added had : Bool) → added ≡ not had → added ≡ true → had ≡ false
is_new added true e f = absurd (false≢true (sym e ∙ f))
is_new added false e f = refl

pub apart_from_distinct : (cols keys : List Column) (seen : List Column) → seen ≡ cols ++ keys → IsDistinct bytes_eq (names_of seen) → AreApart cols keys
apart_from_distinct cols keys seen e d =
    subst (λ (ns : List (List ℕ)). AllPairs (λ a b. a ≢ b) ns) (ap names_of e ∙ map-append (λ (c : Column). c.name) cols keys) (AllPairs-from_IsDistinct bytes_eq-Decides (names_of seen) d)

-- an element that stands before its place too
twice : (all : List (List ℕ)) (n : ℕ) (x : List ℕ) → n < length all → get_or all n x ≡ x → list_any (bytes_eq x) (take n all) ≡ true → AllPairs (λ a b. a ≢ b) all → ⊥
twice all n x l at found apart =
    let a = Any-from_list_any (bytes_eq x) (take n all) found in
    let len : length (take n all) ≡ n = length-take-le n all (omega arith) in
    let low : a.0 < n = omega (arith, a.2, len) in
    let before : get_or all a.0 x ≡ get_or all a.0 a.1 = get_or_default all a.0 x a.1 (omega arith) in
    apart a.0 n x low l (before ∙ sym (get_or-take n all a.0 a.1 low) ∙ a.3 ∙ sym ((bytes_eq-Decides x a.1).0 a.4) ∙ sym at)

-- a name that was seen before is no new one
pub seen_twice : (cols keys seen : List Column) (column : Column) (n : ℕ) → seen ≡ take n (cols ++ keys) → n < length (cols ++ keys) → column ≡ get_or (cols ++ keys) n column → list_any (bytes_eq column.name) (names_of seen) ≡ true → AreApart cols keys → ⊥
seen_twice cols keys seen column n e l at found apart =
    let name : Column → List ℕ = λ (c : Column). c.name in
    let same : names_of (cols ++ keys) ≡ names_of cols ++ names_of keys = map-append name cols keys in
    let all_apart : AllPairs (λ (a b : List ℕ). a ≢ b) (names_of (cols ++ keys)) = subst (λ (ns : List (List ℕ)). AllPairs (λ a b. a ≢ b) ns) (sym same) apart in
    let within : n < length (names_of (cols ++ keys)) = omega (arith, length-map (cols ++ keys) name) in
    let place : get_or (names_of (cols ++ keys)) n column.name ≡ column.name = get_or-map name (cols ++ keys) n column column.name l ∙ sym (ap name at) in
    let front : names_of seen ≡ take n (names_of (cols ++ keys)) = ap names_of e ∙ sym (take-map name n (cols ++ keys)) in
    twice (names_of (cols ++ keys)) n column.name within place (subst (λ (ns : List (List ℕ)). list_any (bytes_eq column.name) ns ≡ true) front found) all_apart

-- where the names are lawful, that they are all different decides
pub fit_from_apart : {E : Type 0} (cols keys : List Column) (r : Result Bool E) → AreNamed cols keys → IfOk r (λ apart. IsTrue apart ↔ AreApart cols keys) → IfOk r (λ answer. IsTrue answer ↔ FitTogether cols keys)
fit_from_apart cols keys r named h =
    IfOk-weaker r (λ apart. IsTrue apart ↔ AreApart cols keys) (λ answer. IsTrue answer ↔ FitTogether cols keys) (λ b w. (λ t. record { named = named; apart = w.0 t }, λ fit. w.1 fit.apart)) h

-- an answer that is so by the rule is so by the test
pub tested_from_rule : {E : Type 0} (cols keys : List Column) (r : Result Bool E) → IfOk r (λ answer. IsTrue answer ↔ FitTogether cols keys) → IfOk r (λ answer. answer ≡ do_fit_together cols keys)
tested_from_rule cols keys r h =
    IfOk-weaker r (λ answer. IsTrue answer ↔ FitTogether cols keys) (λ answer. answer ≡ do_fit_together cols keys) (λ b w. same_from_decides b (do_fit_together cols keys) w (fit_together-Decides cols keys)) h
