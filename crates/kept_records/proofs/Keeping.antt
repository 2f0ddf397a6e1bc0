-- Pairs of a map that are kept by a test of their keys.
use Rattle.std.proofs.Common.{◌≡◌, Bool, true, false, List, [], ◌∷◌, ◌++◌, cond, filter, refl, sym, ap, subst, ◌∙◌}
use Rattle.std.proofs.lemmas.List.Kept.{IsStrictlySortedBy-filter}
use Rattle.std.specs.List.Sorted.{IsStrictlySortedBy}
use Rattle.std.specs.Map.{keys_of}
use Rattle.std.specs.BTreeMap.{insert_entry}
use Rattle.std.specs.Cmp.{IsTotalOrder}
use Rattle.std.specs.declared.cmp.Ordering.{Ordering}
use Rattle.cat_values.proofs.MapLemmas.{copy_step}

module _ {K X : Type 0} (test : K → Bool) where
  -- the pairs whose keys pass
  abbrev pub kept_by : List (K × X) → List (K × X)
  kept_by es = filter (λ e. test e.0) es

  keys_by : (b : Bool) (k : K) (x : X) (kept : List (K × X)) (keys : List K) → keys_of kept ≡ keys → keys_of (cond b ((k, x) ∷ kept) kept) ≡ cond b (k ∷ keys) keys
  keys_by true k x kept keys same = ap (λ ks. k ∷ ks) same
  keys_by false k x kept keys same = same

  -- their keys are the keys that pass
  keys_kept : (es : List (K × X)) → keys_of (kept_by es) ≡ filter test (keys_of es)
  keys_kept [] = refl
  keys_kept (e ∷ es) = keys_by (test e.0) e.0 e.1 (kept_by es) (filter test (keys_of es)) (keys_kept es)

  -- they rise as the whole map does
  kept_rise : (R : K → K → Ordering) (es : List (K × X)) → IsStrictlySortedBy R (keys_of es) → IsStrictlySortedBy R (keys_of (kept_by es))
  kept_rise R es sorted = subst (λ ks. IsStrictlySortedBy R ks) (sym (keys_kept es)) (IsStrictlySortedBy-filter R test (keys_of es) sorted)

  -- one turn with a pair that is kept: what is made and what is left to keep are still the whole
  pub kept_one : (R : K → K → Ordering) (laws : IsTotalOrder R) (made next left after all : List (K × X)) (key key' : K) (value : X) →
      IsStrictlySortedBy R (keys_of all) → made ++ kept_by left ≡ kept_by all → left ≡ (key, value) ∷ after → test key ≡ true →
      next ≡ insert_entry R made key' value → key' ≡ key → next ++ kept_by after ≡ kept_by all
  kept_one R laws made next left after all key key' value sorted so_far taken passes put same_key =
      let front : kept_by left ≡ (key, value) ∷ kept_by after = ap kept_by taken ∙ ap (λ (b : Bool). cond b ((key, value) ∷ kept_by after) (kept_by after)) passes in
      copy_step R laws made next (kept_by left) (kept_by after) (kept_by all) key key' value value (kept_rise R all sorted) so_far front put same_key refl

  -- one turn with a pair that isn't kept
  pub passed_over : (made left after all : List (K × X)) (key : K) (value : X) →
      made ++ kept_by left ≡ kept_by all → left ≡ (key, value) ∷ after → test key ≡ false → made ++ kept_by after ≡ kept_by all
  passed_over made left after all key value so_far taken fails =
      let front : kept_by left ≡ kept_by after = ap kept_by taken ∙ ap (λ (b : Bool). cond b ((key, value) ∷ kept_by after) (kept_by after)) fails in
      ap (λ es. made ++ es) (sym front) ∙ so_far
