-- Each name is asked for once.
use Rattle.std.proofs.Common.{◌≡◌, ℕ, Bool, true, false, ◌||◌, List, [], ◌∷◌, ◌++◌, Option, Some, None, cond, if◌then◌else◌, refl, sym, ap, subst, ◌∙◌, append_assoc}
use Rattle.std.proofs.lemmas.Map.Text.{is_eq-slice_cmp}
use Rattle.std.specs.BTreeMap.{is_at}
use Rattle.std.specs.Cmp.Lexicographic.{slice_cmp, nat_list_cmp_total}
use Rattle.std.specs.List.{list_any}
use Rattle.std.specs.Ordering.{nat_cmp}
use Rattle.std.specs.Str.{bytes_eq}
use Rattle.cat_types.specs.declared.named.NamedTable.{NamedTable}
use Rattle.cat_objects.specs.Catalogue.{Catalogue, table}
use Rattle.table_rules.specs.Tables.{first_asked, table_then, tables_there}
use Rattle.cat_objects.specs.declared.held.HeldTable.{HeldTable}
use Rattle.rulings.proofs.Sets.{found_or, turned_eq}

-- the same names stand in both lists
abbrev pub SameNames : List (List ℕ) → List (List ℕ) → Type 0
SameNames xs ys = (name : List ℕ) → list_any (bytes_eq name) xs ≡ list_any (bytes_eq name) ys

-- whether a set has a name
abbrev pub has_name : List (List ℕ) → List ℕ → Bool
has_name names name = list_any (is_at (slice_cmp nat_cmp name)) names

by_bytes : (name : List ℕ) (names : List (List ℕ)) → has_name names name ≡ list_any (bytes_eq name) names
by_bytes name [] = refl
by_bytes name (x ∷ xs) = ap (λ (b : Bool). b || has_name xs name) (is_eq-slice_cmp name x) ∙ ap (λ (b : Bool). bytes_eq name x || b) (by_bytes name xs)

-- one name more on both sides
same_more : (xs ys : List (List ℕ)) (x : List ℕ) → SameNames xs ys → SameNames (x ∷ xs) (x ∷ ys)
same_more xs ys x same name = ap (λ (b : Bool). bytes_eq name x || b) (same name)

asked_by : (b : Bool) (xs ys : List (List ℕ)) (name : List ℕ) (names : List (List ℕ)) → first_asked xs names ≡ first_asked ys names → first_asked (name ∷ xs) names ≡ first_asked (name ∷ ys) names
    → (if b then first_asked xs names else name ∷ first_asked (name ∷ xs) names) ≡ (if b then first_asked ys names else name ∷ first_asked (name ∷ ys) names)
asked_by true xs ys name names passed taken = passed
asked_by false xs ys name names passed taken = ap (λ ns. name ∷ ns) taken

-- what is asked for first depends only on which names were seen
asked_alike : (xs ys names : List (List ℕ)) → SameNames xs ys → first_asked xs names ≡ first_asked ys names
asked_alike xs ys [] same = refl
asked_alike xs ys (name ∷ names) same =
    asked_by (list_any (bytes_eq name) xs) xs ys name names (asked_alike xs ys names same) (asked_alike (name ∷ xs) (name ∷ ys) names (same_more xs ys name same))
    ∙ ap (λ (b : Bool). if b then first_asked ys names else name ∷ first_asked (name ∷ ys) names) (same name)

-- a set with one name more has the names that a list with that name at its front has
with_name : (old new : List (List ℕ)) (name : List ℕ) → ((other : List ℕ) → has_name new other ≡ cond (is_at (slice_cmp nat_cmp name) other) true (has_name old other)) → SameNames new (name ∷ old)
with_name old new name updates other =
    sym (by_bytes other new)
    ∙ updates other
    ∙ found_or (is_at (slice_cmp nat_cmp name) other) (has_name old other)
    ∙ ap (λ (b : Bool). b || has_name old other) (turned_eq (slice_cmp nat_cmp name other) (slice_cmp nat_cmp other name) (nat_list_cmp_total.antisymm name other) ∙ is_eq-slice_cmp other name)
    ∙ ap (λ (b : Bool). bytes_eq other name || b) (by_bytes other old)

-- a name that was seen is passed over
passed_over : (cat : Catalogue) (db : List ℕ) (seen : List (List ℕ)) (name : List ℕ) (names : List (List ℕ)) → has_name seen name ≡ true → tables_there cat db (first_asked seen (name ∷ names)) ≡ tables_there cat db (first_asked seen names)
passed_over cat db seen name names there =
    ap (λ (b : Bool). tables_there cat db (if b then first_asked seen names else name ∷ first_asked (name ∷ seen) names)) (sym (by_bytes name seen) ∙ there)

-- what is there of a name comes before what is there of the others
then_front : (held : Option HeldTable) (db name : List ℕ) (tables : List NamedTable) → table_then held db name tables ≡ table_then held db name [] ++ tables
then_front None db name tables = refl
then_front (Some held) db name tables = refl

-- a name that wasn't seen is asked for, and is seen from then on
asked_now : (cat : Catalogue) (db : List ℕ) (told next : List NamedTable) (old new : List (List ℕ)) (name : List ℕ) (names : List (List ℕ)) → has_name old name ≡ false
    → ((other : List ℕ) → has_name new other ≡ cond (is_at (slice_cmp nat_cmp name) other) true (has_name old other))
    → next ≡ told ++ table_then (table cat db name) db name [] → next ++ tables_there cat db (first_asked new names) ≡ told ++ tables_there cat db (first_asked old (name ∷ names))
asked_now cat db told next old new name names absent updates put =
    let rest : List (List ℕ) → List NamedTable = λ seen. tables_there cat db (first_asked seen names) in
    ap (λ ts. ts ++ rest new) put
    ∙ append_assoc told (table_then (table cat db name) db name []) (rest new)
    ∙ ap (λ ts. told ++ ts) (sym (then_front (table cat db name) db name (rest new)))
    ∙ ap (λ ns. told ++ table_then (table cat db name) db name (tables_there cat db ns)) (asked_alike new (name ∷ old) names (with_name old new name updates))
    ∙ ap (λ (b : Bool). told ++ tables_there cat db (if b then first_asked old names else name ∷ first_asked (name ∷ old) names)) (sym (sym (by_bytes name old) ∙ absent))

-- the same of texts that are the name
pub passed_text : (cat : Catalogue) (db : List ℕ) (told : List NamedTable) (seen : List (List ℕ)) (text name : List ℕ) (names : List (List ℕ)) → text ≡ name → has_name seen text ≡ true
    → told ++ tables_there cat db (first_asked seen names) ≡ told ++ tables_there cat db (first_asked seen (name ∷ names))
passed_text cat db told seen text name names is there = ap (λ ts. told ++ ts) (sym (passed_over cat db seen name names (subst (λ (n : List ℕ). has_name seen n ≡ true) is there)))

pub asked_text : (cat : Catalogue) (db : List ℕ) (told next : List NamedTable) (old new : List (List ℕ)) (text key name : List ℕ) (names : List (List ℕ)) → text ≡ name → key ≡ name → has_name old text ≡ false
    → ((other : List ℕ) → has_name new other ≡ cond (is_at (slice_cmp nat_cmp key) other) true (has_name old other))
    → next ≡ told ++ table_then (table cat db text) db text [] → next ++ tables_there cat db (first_asked new names) ≡ told ++ tables_there cat db (first_asked old (name ∷ names))
asked_text cat db told next old new text key name names is key_is absent updates put =
    asked_now cat db told next old new name names
    (subst (λ (n : List ℕ). has_name old n ≡ false) is absent)
    (subst (λ (n : List ℕ). (other : List ℕ) → has_name new other ≡ cond (is_at (slice_cmp nat_cmp n) other) true (has_name old other)) key_is updates)
    (subst (λ (n : List ℕ). next ≡ told ++ table_then (table cat db n) db n []) is put)
