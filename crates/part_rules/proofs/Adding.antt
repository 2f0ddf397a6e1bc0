-- Partitions of a list are judged and added one after the other.
use Rattle.std.proofs.Common.{◌≡◌, ℕ, suc, ◌<◌, Bool, true, false, ◌||◌, List, [], ◌∷◌, ◌++◌, length, drop, get_or, cond, Option, Some, if◌then◌else◌, refl, sym, ap, ◌∙◌}
use Rattle.std.proofs.Math.Seq.{drop-cons}
use Rattle.std.specs.BTreeMap.{is_at}
use Rattle.std.specs.Cmp.Lexicographic.{lists_total, nat_list_cmp_total, slice_cmp}
use Rattle.std.specs.List.{list_any}
use Rattle.std.specs.Ordering.{nat_cmp}
use Rattle.cat_types.specs.declared.arguments.PartArg.{PartArg}
use Rattle.cat_values.specs.declared.records.PartRec.{PartRec}
use Rattle.cat_objects.specs.Parts.{PartList, are_values}
use Rattle.cat_objects.specs.declared.held.HeldTable.{HeldTable}
use Rattle.rulings.specs.Rules.{Rule, first_broken}
use Rattle.part_rules.specs.PartChanges.{behind, each_added_rules, one_added_rules, values_of}
use Rattle.rulings.specs.Meant.{stored_values}
use Rattle.rulings.specs.declared.refusal.Refusal.{Refusal}
use Rattle.rulings.proofs.Sets.{found_or, turned_eq}

-- ---- values that were put

-- the same values stand in both lists
abbrev pub SameValues : List (List (List ℕ)) → List (List (List ℕ)) → Type 0
SameValues xs ys = (values : List (List ℕ)) → list_any (are_values values) xs ≡ list_any (are_values values) ys

any_snoc : {X : Type 0} (test : X → Bool) (xs : List X) (x : X) → list_any test (xs ++ x ∷ []) ≡ (test x || list_any test xs)
any_snoc test [] x = refl
any_snoc test (y ∷ ys) x = ap (λ (b : Bool). test y || b) (any_snoc test ys x) ∙ turned (test y) (test x) (list_any test ys)
  where
    turned : (a b c : Bool) → (a || (b || c)) ≡ (b || (a || c))
    turned true true c = refl
    turned true false c = refl
    turned false b c = refl

values_snoc : (parts : PartList) (values : List (List ℕ)) (rec : PartRec) → values_of (parts ++ (values, rec) ∷ []) ≡ values_of parts ++ values ∷ []
values_snoc [] values rec = refl
values_snoc (p ∷ ps) values rec = ap (λ vs. p.0 ∷ vs) (values_snoc ps values rec)

-- a set with one list of values more has those of the list with it at its end
pub same_snoc : (old new : List (List (List ℕ))) (parts next : PartList) (key values : List (List ℕ)) (rec : PartRec) → SameValues old (values_of parts)
    → ((other : List (List ℕ)) → list_any (are_values other) new ≡ cond (is_at (slice_cmp (slice_cmp nat_cmp) key) other) true (list_any (are_values other) old))
    → key ≡ values → next ≡ parts ++ (values, rec) ∷ [] → SameValues new (values_of next)
same_snoc old new parts next key values rec same updates is pushed other =
    updates other
    ∙ found_or (is_at (slice_cmp (slice_cmp nat_cmp) key) other) (list_any (are_values other) old)
    ∙ ap (λ (b : Bool). b || list_any (are_values other) old) (turned_eq (slice_cmp (slice_cmp nat_cmp) key other) (slice_cmp (slice_cmp nat_cmp) other key) ((lists_total nat_list_cmp_total).antisymm key other))
    ∙ ap (λ (b : Bool). are_values other key || b) (same other)
    ∙ ap (λ (v : List (List ℕ)). are_values other v || list_any (are_values other) (values_of parts)) is
    ∙ sym (any_snoc (are_values other) (values_of parts) values)
    ∙ ap (λ vs. list_any (are_values other) vs) (sym (values_snoc parts values rec))
    ∙ ap (λ ps. list_any (are_values other) (values_of ps)) (sym pushed)

-- ---- rules one behind the other

some_by : (b : Bool) (x refusal : Refusal) (rules others : List Rule) → (if b then Some x else first_broken rules) ≡ Some refusal → (first_broken rules ≡ Some refusal → first_broken (rules ++ others) ≡ Some refusal) → (if b then Some x else first_broken (rules ++ others)) ≡ Some refusal
some_by true x refusal rules others some later = some
some_by false x refusal rules others some later = later some

first_app_some : (rules others : List Rule) (refusal : Refusal) → first_broken rules ≡ Some refusal → first_broken (rules ++ others) ≡ Some refusal
first_app_some [] others refusal some = absurd cc
first_app_some (rule ∷ rules) others refusal some = some_by rule.0 rule.1 refusal rules others some (first_app_some rules others refusal)

-- ---- adding one of a list

module _ (needs passes : Bool) (held : Option HeldTable) (db name : List ℕ) where
  -- one that is refused
  pub add_refused : (old : PartList) (new : PartArg) (refusal : Refusal) (more : List PartArg) → Some refusal ≡ first_broken (one_added_rules needs passes held db name (values_of old) new)
      → first_broken (each_added_rules needs passes held db name (values_of old) (new ∷ more)) ≡ Some refusal
  add_refused old new refusal more is =
      first_app_some (one_added_rules needs passes held db name (values_of old) new) (each_added_rules needs passes held db name (behind held (values_of old) (stored_values new.values)) more) refusal (sym is)

-- ---- what is left of a list

pub first_left : {X : Type 0} (xs whole : List X) (i : ℕ) (x : X) → xs ≡ whole → i < length xs → x ≡ get_or xs i x → drop i whole ≡ x ∷ drop (suc i) whole
first_left xs whole i x is within item = ap (λ ys. drop i ys) (sym is) ∙ drop-cons xs i x within ∙ ap (λ y. y ∷ drop (suc i) xs) (sym item) ∙ ap (λ ys. x ∷ drop (suc i) ys) is
