-- Keys that rise still do with an entry more, one less, or another value.
use Rattle.std.proofs.Common.{◌≡◌, Bool, true, false, List, [], ◌∷◌, is_some, refl, sym, ◌∙◌, ap, subst}
use Rattle.std.specs.Prelude.{cond}
use Rattle.std.proofs.lemmas.Map.{keys-set_value}
use Rattle.std.specs.BTreeMap.{insert_entry, is_at}
use Rattle.std.specs.Cmp.{IsTotalOrder}
use Rattle.std.specs.List.{AllByRecursion}
use Rattle.std.specs.List.Sorted.{IsStrictlySortedBy}
use Rattle.std.specs.Map.{keys_of, lookup, remove_entry, set_value}
use Rattle.std.specs.Ordering.{match_ordering, ordering_reverse}
use Rattle.std.specs.declared.cmp.Ordering.{Ordering}
use Rattle.std.specs.declared.cmp.Ordering.TheVariants.{Less, Equal, Greater}
use Rattle.cat_objects.specs.Changes.{changed_value}

module _ {K : Type 0} (R : K → K → Ordering) (laws : IsTotalOrder R) where
  below_all : (k x : K) (ys : List K) → R k x ≡ Less → AllByRecursion (λ y. R x y ≡ Less) ys → AllByRecursion (λ y. R k y ≡ Less) ys
  below_all k x [] less all = tt
  below_all k x (y ∷ ys) less all = (laws.trans k x y less all.0, below_all k x ys less all.1)

module _ {K X : Type 0} (R : K → K → Ordering) (laws : IsTotalOrder R) where
  -- an entry more, by how its key stands to the first
  below_by : (o : Ordering) (x : K) (e : K × X) (es : List (K × X)) (k : K) (v : X) → R x k ≡ Less → AllByRecursion (λ y. R x y ≡ Less) (keys_of (e ∷ es)) → AllByRecursion (λ y. R x y ≡ Less) (keys_of (insert_entry R es k v))
      → AllByRecursion (λ y. R x y ≡ Less) (keys_of (match_ordering o ((k, v) ∷ e ∷ es) ((e.0, v) ∷ es) (e ∷ insert_entry R es k v)))
  below_by Less x e es k v one all later = (one, all)
  below_by Equal x e es k v one all later = all
  below_by Greater x e es k v one all later = (all.0, later)

  below_insert : (x : K) (es : List (K × X)) (k : K) (v : X) → R x k ≡ Less → AllByRecursion (λ y. R x y ≡ Less) (keys_of es) → AllByRecursion (λ y. R x y ≡ Less) (keys_of (insert_entry R es k v))
  below_insert x [] k v one all = (one, tt)
  below_insert x (e ∷ es) k v one all = below_by (R k e.0) x e es k v one all (below_insert x es k v one all.1)

  rising_by : (o : Ordering) (e : K × X) (es : List (K × X)) (k : K) (v : X) → R k e.0 ≡ o → IsStrictlySortedBy R (keys_of (e ∷ es)) → IsStrictlySortedBy R (keys_of (insert_entry R es k v))
      → IsStrictlySortedBy R (keys_of (match_ordering o ((k, v) ∷ e ∷ es) ((e.0, v) ∷ es) (e ∷ insert_entry R es k v)))
  unfolding IsStrictlySortedBy
  rising_by Less e es k v is all later = ((is, below_all R laws k e.0 (keys_of es) is all.0), all)
  rising_by Equal e es k v is all later = all
  rising_by Greater e es k v is all later =
      let above : R e.0 k ≡ Less = laws.antisymm e.0 k ∙ ap ordering_reverse is in
      (below_insert e.0 es k v above all.0, later)

  -- keys that rise still do with an entry more
  rising_insert : (es : List (K × X)) (k : K) (v : X) → IsStrictlySortedBy R (keys_of es) → IsStrictlySortedBy R (keys_of (insert_entry R es k v))
  unfolding IsStrictlySortedBy
  rising_insert [] k v all = (tt, tt)
  rising_insert (e ∷ es) k v all = rising_by (R k e.0) e es k v refl all (rising_insert es k v all.1)

module _ {K X : Type 0} (R : K → K → Ordering) (test : K → Bool) where
  below_less : (b : Bool) (x : K) (e : K × X) (es rest : List (K × X)) → AllByRecursion (λ y. R x y ≡ Less) (keys_of (e ∷ es)) → AllByRecursion (λ y. R x y ≡ Less) (keys_of rest) → AllByRecursion (λ y. R x y ≡ Less) (keys_of (cond b es (e ∷ rest)))
  below_less true x e es rest all later = all.1
  below_less false x e es rest all later = (all.0, later)

  below_remove : (x : K) (es : List (K × X)) → AllByRecursion (λ y. R x y ≡ Less) (keys_of es) → AllByRecursion (λ y. R x y ≡ Less) (keys_of (remove_entry test es))
  below_remove x [] all = tt
  below_remove x (e ∷ es) all = below_less (test e.0) x e es (remove_entry test es) all (below_remove x es all.1)

  rising_less : (b : Bool) (e : K × X) (es : List (K × X)) → IsStrictlySortedBy R (keys_of (e ∷ es)) → IsStrictlySortedBy R (keys_of (remove_entry test es)) → IsStrictlySortedBy R (keys_of (cond b es (e ∷ remove_entry test es)))
  unfolding IsStrictlySortedBy
  rising_less true e es all later = all.1
  rising_less false e es all later = (below_remove e.0 es all.0, later)

  -- keys that rise still do with an entry less
  pub rising_remove : (es : List (K × X)) → IsStrictlySortedBy R (keys_of es) → IsStrictlySortedBy R (keys_of (remove_entry test es))
  unfolding IsStrictlySortedBy
  rising_remove [] all = tt
  rising_remove (e ∷ es) all = rising_less (test e.0) e es all (rising_remove es all.1)

-- ---- the same keys

pub none_rise : {K : Type 0} (R : K → K → Ordering) → IsStrictlySortedBy R []
unfolding IsStrictlySortedBy
none_rise R = tt

module _ {K X : Type 0} (R : K → K → Ordering) (test : K → Bool) where
  pub rising_set : (es : List (K × X)) (v : X) → IsStrictlySortedBy R (keys_of es) → IsStrictlySortedBy R (keys_of (set_value test es v))
  rising_set es v rise = subst (λ (ks : List K). IsStrictlySortedBy R ks) (sym (keys-set_value test es v)) rise

  changed_keys : (change : X → X) (es : List (K × X)) → keys_of (changed_value test change es) ≡ keys_of es
  changed_keys change [] = refl
  changed_keys change (e ∷ es) = by_test (test e.0) (changed_keys change es)
    where
      by_test : (b : Bool) → keys_of (changed_value test change es) ≡ keys_of es → keys_of (cond b ((e.0, change e.1) ∷ es) (e ∷ changed_value test change es)) ≡ keys_of (e ∷ es)
      by_test true later = refl
      by_test false later = ap (λ (ks : List K). e.0 ∷ ks) later

  pub rising_changed : (change : X → X) (es : List (K × X)) → IsStrictlySortedBy R (keys_of es) → IsStrictlySortedBy R (keys_of (changed_value test change es))
  rising_changed change es rise = subst (λ (ks : List K). IsStrictlySortedBy R ks) (sym (changed_keys change es)) rise

module _ {K X : Type 0} (R : K → K → Ordering) (laws : IsTotalOrder R) where
  -- a value at a key, set where the key is there, and else put in
  pub rising_put : (k : K) (v : X) (es : List (K × X)) → IsStrictlySortedBy R (keys_of es) → IsStrictlySortedBy R (keys_of (cond (is_some (lookup (is_at (R k)) es)) (set_value (is_at (R k)) es v) (insert_entry R es k v)))
  rising_put k v es rise = by_test (is_some (lookup (is_at (R k)) es))
    where
      by_test : (b : Bool) → IsStrictlySortedBy R (keys_of (cond b (set_value (is_at (R k)) es v) (insert_entry R es k v)))
      by_test true = rising_set R (is_at (R k)) es v rise
      by_test false = rising_insert R laws es k v rise
