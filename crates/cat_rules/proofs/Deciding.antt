-- Each test decides its fact.
use Rattle.std.proofs.Common.{◌≡◌, ◌≢◌, ℕ, ◌≤◌, Bool, true, false, not, ◌||◌, leb, eqb, List, [], ◌∷◌, ◌++◌, length, get_or, refl, sym, ap, ◌∙◌, subst, inl, inr, ◌⊎◌, arith, if◌then◌else◌}
use Rattle.std.specs.Bool.{Decides}
use Rattle.std.specs.Int.{IsInRange, is_in_range}
use Rattle.std.specs.List.{All, AllByRecursion, IsDistinct, list_all, list_any}
use Rattle.std.specs.Str.{bytes_eq, chars}
use Rattle.std.proofs.lemmas.Bool.{false≢true}
use Rattle.std.proofs.lemmas.Bool.Decides.{leb_tells, Decides-and, Decides-or, Decides-eqb, Decides-like, Decides-by_and, Decides-by_or}
use Rattle.std.proofs.lemmas.List.{get_or_default}
use Rattle.std.proofs.lemmas.Map.Made.{AllPairs-from_IsDistinct, IsDistinct-from_AllPairs}
use Rattle.std.proofs.lemmas.Slice.Eq.{bytes_eq-Decides}
use Rattle.cat_values.specs.declared.storage.Column.{Column}
use Rattle.cat_values.specs.Names.{HasNameLength, has_name_length, IsObjectName, is_object_name}
use Rattle.cat_values.proofs.NameTests.{leb-Decides, all-Decides, name_length-Decides, object_name-Decides}
use Rattle.cat_rules.specs.Patterns.{StandsFor, AfterPrefix, AfterOne, MatchesSigns, Matches, alternatives, holds_of_end, stands_for, holds_behind_one, does_fit, does_match}
use Rattle.cat_rules.specs.Tables.{names_of, AreNamed, are_named, AreApart, are_distinct, FitTogether, do_fit_together}

-- columns and keys
named-Decides : (cols keys : List Column) → Decides (are_named cols keys) (AreNamed cols keys)
named-Decides cols keys = Decides-like (are_named cols keys)
    (λ h. record { columns_named = h.0.0; keys_named = h.0.1; few_keys = h.1 })
    (λ n. ((n.columns_named, n.keys_named), n.few_keys))
    (Decides-and _ _ (Decides-and _ _
    (all-Decides (λ (col : Column). has_name_length col.name) (λ col. HasNameLength col.name) (λ col. name_length-Decides col.name) cols)
    (all-Decides (λ (key : Column). is_object_name key.name) (λ key. IsObjectName key.name) (λ key. object_name-Decides key.name) keys))
    (leb-Decides (length keys) 16))

both_false : (a b : Bool) → (a || b) ≡ false → (a ≡ false) × (b ≡ false)
both_false true b e = absurd (false≢true (sym e))
both_false false b e = (refl, e)

other_names : (name : List ℕ) (names : List (List ℕ)) → list_any (bytes_eq name) names ≡ false → AllByRecursion (λ y. bytes_eq name y ≡ false) names
other_names name [] e = tt
other_names name (y ∷ ys) e = let b = both_false (bytes_eq name y) (list_any (bytes_eq name) ys) e in (b.0, other_names name ys b.1)

none_equal : (name : List ℕ) (names : List (List ℕ)) → AllByRecursion (λ y. bytes_eq name y ≡ false) names → list_any (bytes_eq name) names ≡ false
none_equal name [] h = refl
none_equal name (y ∷ ys) h = ap (λ (b : Bool). b || list_any (bytes_eq name) ys) h.0 ∙ none_equal name ys h.1

distinct-Decides : (names : List (List ℕ)) → Decides (are_distinct names) (IsDistinct bytes_eq names)
unfolding IsDistinct
distinct-Decides [] = (λ _. tt, λ _. refl)
distinct-Decides (name ∷ names) = Decides-and _ _ (first-Decides (list_any (bytes_eq name) names) refl) (distinct-Decides names)
  where
    first-Decides : (b : Bool) → list_any (bytes_eq name) names ≡ b → Decides (not b) (AllByRecursion (λ y. bytes_eq name y ≡ false) names)
    first-Decides true e = (λ f. absurd (false≢true f), λ h. absurd (false≢true (sym (none_equal name names h) ∙ e)))
    first-Decides false e = (λ _. other_names name names e, λ _. refl)

apart-Decides : (cols keys : List Column) → Decides (are_distinct (names_of cols ++ names_of keys)) (AreApart cols keys)
apart-Decides cols keys = Decides-like (are_distinct (names_of cols ++ names_of keys)) (AllPairs-from_IsDistinct bytes_eq-Decides (names_of cols ++ names_of keys)) (IsDistinct-from_AllPairs bytes_eq-Decides (names_of cols ++ names_of keys)) (distinct-Decides (names_of cols ++ names_of keys))

pub fit_together-Decides : (cols keys : List Column) → Decides (do_fit_together cols keys) (FitTogether cols keys)
fit_together-Decides cols keys = Decides-like (do_fit_together cols keys)
    (λ h. record { named = h.0; apart = h.1 })
    (λ f. (f.named, f.apart))
    (Decides-and _ _ (named-Decides cols keys) (apart-Decides cols keys))

-- patterns
stands_for-Decides : (sign c : ℕ) → Decides (stands_for sign c) (StandsFor sign c)
stands_for-Decides sign c = Decides-or _ _ (Decides-eqb sign 46) (Decides-eqb _ _)

end-Decides : (test : List ℕ → Bool) (P : List ℕ → Type 0) → ((name : List ℕ) → Decides (test name) (P name)) → (name : List ℕ) → Decides (holds_of_end test name) (AfterPrefix P name)
end-Decides test P each [] = Decides-like (test []) (λ p. ([], [], refl, p)) (λ b. whole b.0 b.1 b.2 b.3) (each [])
  where
    whole : (front rest : List ℕ) → [] ≡ front ++ rest → P rest → P []
    whole [] rest e p = subst P (sym e) p
    whole (d ∷ front) rest e p = absurd (cc)
end-Decides test P each (c ∷ name) = Decides-like (holds_of_end test (c ∷ name)) behind (λ b. split b.0 b.1 b.2 b.3) (Decides-or _ _ (each (c ∷ name)) (end-Decides test P each name))
  where
    behind : P (c ∷ name) ⊎ AfterPrefix P name → AfterPrefix P (c ∷ name)
    behind (inl p) = ([], c ∷ name, refl, p)
    behind (inr b) = (c ∷ b.0, b.1, ap (λ (t : List ℕ). c ∷ t) b.2, b.3)

    split : (front rest : List ℕ) → c ∷ name ≡ front ++ rest → P rest → P (c ∷ name) ⊎ AfterPrefix P name
    split [] rest e p = inl (subst P (sym e) p)
    split (d ∷ front) rest e p = inr (front, rest, cc, p)

one-Decides : (sign : ℕ) (test : List ℕ → Bool) (P : List ℕ → Type 0) → ((name : List ℕ) → Decides (test name) (P name)) → (name : List ℕ) → Decides (holds_behind_one sign test name) (AfterOne sign P name)
one-Decides sign test P each [] = (λ e. absurd (false≢true e), λ b. (let e : [] ≡ b.0 ∷ b.1 = b.2 in absurd (cc)))
one-Decides sign test P each (c ∷ name) = Decides-like (holds_behind_one sign test (c ∷ name))
    (λ h. (c, name, refl, h.0, h.1))
    (λ b. (let first : b.0 ≡ c = cc in let later : b.1 ≡ name = cc in (subst (λ (d : ℕ). StandsFor sign d) first b.3, subst P later b.4)))
    (Decides-and _ _ (stands_for-Decides sign c) (each name))

pub fit-Decides : (signs name : List ℕ) → Decides (does_fit signs name) (MatchesSigns signs name)
fit-Decides [] [] = (λ _. refl, λ _. refl)
fit-Decides [] (c ∷ name) = (λ e. absurd (false≢true e), λ e. absurd (cc))
fit-Decides (sign ∷ signs) name = sign-Decides sign (does_fit signs) (MatchesSigns signs) (fit-Decides signs) name (eqb sign 42) refl
  where
    sign-Decides : (sign : ℕ) (test : List ℕ → Bool) (P : List ℕ → Type 0) → ((name : List ℕ) → Decides (test name) (P name)) → (name : List ℕ) (b : Bool) → eqb sign 42 ≡ b → Decides (if b then holds_of_end test name else holds_behind_one sign test name) (((sign ≡ 42) × AfterPrefix P name) ⊎ ((sign ≢ 42) × AfterOne sign P name))
    sign-Decides sign test P each name true e = Decides-like (holds_of_end test name)
        (λ b. inl ((Decides-eqb sign 42).0 e, b))
        (λ h. elim h [ inl w ↦ w.1 | inr w ↦ absurd (w.0 ((Decides-eqb sign 42).0 e)) ])
        (end-Decides test P each name)
    sign-Decides sign test P each name false e = Decides-like (holds_behind_one sign test name)
        (λ b. inr (λ r. false≢true (sym e ∙ (Decides-eqb sign 42).1 r), b))
        (λ h. elim h [ inl w ↦ absurd (false≢true (sym e ∙ (Decides-eqb sign 42).1 w.0)) | inr w ↦ w.1 ])
        (one-Decides sign test P each name)

pub match-Decides : (pattern name : List ℕ) → Decides (does_match pattern name) (Matches pattern name)
match-Decides pattern name =
    let test : List ℕ → Bool = λ (a : List ℕ). does_fit (chars a) (chars name) in
    let P : List ℕ → Type 0 = λ (a : List ℕ). MatchesSigns (chars a) (chars name) in
    Decides-like (does_match pattern name)
    (λ h. (h.0, get_or (alternatives pattern) h.0 [], h.1, get_or_default (alternatives pattern) h.0 _ _ h.1, h.2 []))
    (λ m. (m.0, m.2, λ d. subst P (sym m.3 ∙ get_or_default (alternatives pattern) m.0 _ _ m.2) m.4))
    (Decides-by_or test P (list_any test) (λ a. fit-Decides (chars a) (chars name)) refl (λ _ _. refl) (alternatives pattern))
