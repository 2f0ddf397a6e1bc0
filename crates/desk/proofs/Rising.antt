-- Entries whose names rise still do with an entry more, one less, or another value.
use Rattle.std.proofs.Common.{◌≡◌, ℕ, Bool, true, false, List, [], ◌∷◌, Option, Some, is_some, refl, sym, ◌∙◌, ap, subst}
use Rattle.std.specs.Prelude.{cond}
use Rattle.std.proofs.lemmas.Map.{keys-set_value}
use Rattle.std.specs.BTreeMap.{insert_entry}
use Rattle.std.specs.Cmp.{IsTotalOrder}
use Rattle.std.specs.Cmp.Lexicographic.{lists_total, slice_cmp, nat_list_cmp_total}
use Rattle.std.specs.List.{AllByRecursion}
use Rattle.std.specs.List.Sorted.{IsStrictlySortedBy}
use Rattle.std.specs.Map.{keys_of, lookup, remove_entry, set_value}
use Rattle.std.specs.Ordering.{match_ordering, nat_cmp, ordering_reverse}
use Rattle.std.specs.declared.cmp.Ordering.{Ordering}
use Rattle.std.specs.declared.cmp.Ordering.TheVariants.{Less, Equal, Greater}
use Rattle.cat_objects.specs.Catalogue.{at_name, is_name, put_at}
use Rattle.cat_objects.specs.Changes.{changed_value}
use Rattle.cat_objects.specs.Parts.{PartList, are_values, at_values, put_part, without_part}
use Rattle.cat_values.specs.declared.records.PartRec.{PartRec}
use Rattle.desk.specs.Laws.{AreRising, ValuesRise}

-- ---- keys

module _ {K : Type 0} (R : K → K → Ordering) (laws : IsTotalOrder R) where
  below_all : (k x : K) (ys : List K) → R k x ≡ Less → AllByRecursion (λ y. R x y ≡ Less) ys → AllByRecursion (λ y. R k y ≡ Less) ys
  below_all k x [] less all = tt
  below_all k x (y ∷ ys) less all = (laws.trans k x y less all.0, below_all k x ys less all.1)

module _ {K X : Type 0} (R : K → K → Ordering) (laws : IsTotalOrder R) where
  -- an entry more, by how its key stands to the first
  below_by : (o : Ordering) (x : K) (e : K × X) (es : List (K × X)) (k : K) (v : X) → R x k ≡ Less → AllByRecursion (λ y. R x y ≡ Less) (keys_of (e ∷ es)) → AllByRecursion (λ y. R x y ≡ Less) (keys_of (insert_entry R es k v))
      → AllByRecursion (λ y. R x y ≡ Less) (keys_of (match_ordering o ((k, v) ∷ e ∷ es) ((e.0, v) ∷ es) (e ∷ insert_entry R es k v)))
  below_by Less x e es k v one all later = (one, all)
  below_by Equal x e es k v one all later = all
  below_by Greater x e es k v one all later = (all.0, later)

  below_insert : (x : K) (es : List (K × X)) (k : K) (v : X) → R x k ≡ Less → AllByRecursion (λ y. R x y ≡ Less) (keys_of es) → AllByRecursion (λ y. R x y ≡ Less) (keys_of (insert_entry R es k v))
  below_insert x [] k v one all = (one, tt)
  below_insert x (e ∷ es) k v one all = below_by (R k e.0) x e es k v one all (below_insert x es k v one all.1)

  rising_by : (o : Ordering) (e : K × X) (es : List (K × X)) (k : K) (v : X) → R k e.0 ≡ o → IsStrictlySortedBy R (keys_of (e ∷ es)) → IsStrictlySortedBy R (keys_of (insert_entry R es k v))
      → IsStrictlySortedBy R (keys_of (match_ordering o ((k, v) ∷ e ∷ es) ((e.0, v) ∷ es) (e ∷ insert_entry R es k v)))
  unfolding IsStrictlySortedBy
  rising_by Less e es k v is all later = ((is, below_all R laws k e.0 (keys_of es) is all.0), all)
  rising_by Equal e es k v is all later = all
  rising_by Greater e es k v is all later =
      let above : R e.0 k ≡ Less = laws.antisymm e.0 k ∙ ap ordering_reverse is in
      (below_insert e.0 es k v above all.0, later)

  -- keys that rise still do with an entry more
  rising_insert : (es : List (K × X)) (k : K) (v : X) → IsStrictlySortedBy R (keys_of es) → IsStrictlySortedBy R (keys_of (insert_entry R es k v))
  unfolding IsStrictlySortedBy
  rising_insert [] k v all = (tt, tt)
  rising_insert (e ∷ es) k v all = rising_by (R k e.0) e es k v refl all (rising_insert es k v all.1)

module _ {K X : Type 0} (R : K → K → Ordering) (test : K → Bool) where
  below_less : (b : Bool) (x : K) (e : K × X) (es rest : List (K × X)) → AllByRecursion (λ y. R x y ≡ Less) (keys_of (e ∷ es)) → AllByRecursion (λ y. R x y ≡ Less) (keys_of rest) → AllByRecursion (λ y. R x y ≡ Less) (keys_of (cond b es (e ∷ rest)))
  below_less true x e es rest all later = all.1
  below_less false x e es rest all later = (all.0, later)

  below_remove : (x : K) (es : List (K × X)) → AllByRecursion (λ y. R x y ≡ Less) (keys_of es) → AllByRecursion (λ y. R x y ≡ Less) (keys_of (remove_entry test es))
  below_remove x [] all = tt
  below_remove x (e ∷ es) all = below_less (test e.0) x e es (remove_entry test es) all (below_remove x es all.1)

  rising_less : (b : Bool) (e : K × X) (es : List (K × X)) → IsStrictlySortedBy R (keys_of (e ∷ es)) → IsStrictlySortedBy R (keys_of (remove_entry test es)) → IsStrictlySortedBy R (keys_of (cond b es (e ∷ remove_entry test es)))
  unfolding IsStrictlySortedBy
  rising_less true e es all later = all.1
  rising_less false e es all later = (below_remove e.0 es all.0, later)

  -- keys that rise still do with an entry less
  rising_remove : (es : List (K × X)) → IsStrictlySortedBy R (keys_of es) → IsStrictlySortedBy R (keys_of (remove_entry test es))
  unfolding IsStrictlySortedBy
  rising_remove [] all = tt
  rising_remove (e ∷ es) all = rising_less (test e.0) e es all (rising_remove es all.1)

-- ---- names

pub no_names : (X : Type 0) → AreRising {X = X} []
unfolding IsStrictlySortedBy
no_names X = tt

pub with_other_value : {X : Type 0} (test : List ℕ → Bool) (es : List (List ℕ × X)) (v : X) → AreRising es → AreRising (set_value test es v)
with_other_value test es v rise = subst (λ (ks : List (List ℕ)). IsStrictlySortedBy (slice_cmp nat_cmp) ks) (sym (keys-set_value test es v)) rise

changed_keys : {X : Type 0} (test : List ℕ → Bool) (change : X → X) (es : List (List ℕ × X)) → keys_of (changed_value test change es) ≡ keys_of es
changed_keys test change [] = refl
changed_keys {X} test change (e ∷ es) = by_test (test e.0) (changed_keys test change es)
  where
    by_test : (b : Bool) → keys_of (changed_value test change es) ≡ keys_of es → keys_of (cond b ((e.0, change e.1) ∷ es) (e ∷ changed_value test change es)) ≡ keys_of (e ∷ es)
    by_test true later = refl
    by_test false later = ap (λ (ks : List (List ℕ)). e.0 ∷ ks) later

pub with_changed_value : {X : Type 0} (test : List ℕ → Bool) (change : X → X) (es : List (List ℕ × X)) → AreRising es → AreRising (changed_value test change es)
with_changed_value test change es rise = subst (λ (ks : List (List ℕ)). IsStrictlySortedBy (slice_cmp nat_cmp) ks) (sym (changed_keys test change es)) rise

pub without_name : {X : Type 0} (name : List ℕ) (es : List (List ℕ × X)) → AreRising es → AreRising (remove_entry (is_name name) es)
without_name name es rise = rising_remove (slice_cmp nat_cmp) (is_name name) es rise

pub with_name : {X : Type 0} (name : List ℕ) (v : X) (es : List (List ℕ × X)) → AreRising es → AreRising (put_at name v es)
with_name {X} name v es rise = by_test (is_some (at_name name es))
  where
    by_test : (b : Bool) → AreRising (cond b (set_value (is_name name) es v) (insert_entry (slice_cmp nat_cmp) es name v))
    by_test true = with_other_value (is_name name) es v rise
    by_test false = rising_insert (slice_cmp nat_cmp) nat_list_cmp_total es name v rise

-- ---- values of partitions

pub no_values : ValuesRise []
unfolding IsStrictlySortedBy
no_values = tt

pub with_part : (values : List (List ℕ)) (rec : PartRec) (parts : PartList) → ValuesRise parts → ValuesRise (put_part values rec parts)
with_part values rec parts rise = by_test (is_some (at_values values parts))
  where
    by_test : (b : Bool) → ValuesRise (cond b (set_value (are_values values) parts rec) (insert_entry (slice_cmp (slice_cmp nat_cmp)) parts values rec))
    by_test true = subst (λ (ks : List (List (List ℕ))). IsStrictlySortedBy (slice_cmp (slice_cmp nat_cmp)) ks) (sym (keys-set_value (are_values values) parts rec)) rise
    by_test false = rising_insert (slice_cmp (slice_cmp nat_cmp)) (lists_total nat_list_cmp_total) parts values rec rise

pub less_part : (values : List (List ℕ)) (parts : PartList) → ValuesRise parts → ValuesRise (without_part values parts)
less_part values parts rise = rising_remove (slice_cmp (slice_cmp nat_cmp)) (are_values values) parts rise

-- ---- what holds of all values

module _ {K X : Type 0} (P : X → Type 0) where
  abbrev Each : List (K × X) → Type 0
  Each es = AllByRecursion (λ e. P e.1) es

  each_less : (b : Bool) (e : K × X) (es rest : List (K × X)) → Each (e ∷ es) → Each rest → Each (cond b es (e ∷ rest))
  each_less true e es rest all later = all.1
  each_less false e es rest all later = (all.0, later)

  pub each_removed : (test : K → Bool) (es : List (K × X)) → Each es → Each (remove_entry test es)
  each_removed test [] all = tt
  each_removed test (e ∷ es) all = each_less (test e.0) e es (remove_entry test es) all (each_removed test es all.1)

  set_by : (b : Bool) (e : K × X) (es rest : List (K × X)) (v : X) → P v → Each (e ∷ es) → Each rest → Each (cond b ((e.0, v) ∷ es) (e ∷ rest))
  set_by true e es rest v one all later = (one, all.1)
  set_by false e es rest v one all later = (all.0, later)

  pub each_set : (test : K → Bool) (es : List (K × X)) (v : X) → P v → Each es → Each (set_value test es v)
  each_set test [] v one all = tt
  each_set test (e ∷ es) v one all = set_by (test e.0) e es (set_value test es v) v one all (each_set test es v one all.1)

  changed_by : (b : Bool) (e : K × X) (es rest : List (K × X)) (change : X → X) → ((x : X) → P x → P (change x)) → Each (e ∷ es) → Each rest → Each (cond b ((e.0, change e.1) ∷ es) (e ∷ rest))
  changed_by true e es rest change keeps all later = (keeps e.1 all.0, all.1)
  changed_by false e es rest change keeps all later = (all.0, later)

  pub each_changed : (test : K → Bool) (change : X → X) (es : List (K × X)) → ((x : X) → P x → P (change x)) → Each es → Each (changed_value test change es)
  each_changed test change [] keeps all = tt
  each_changed test change (e ∷ es) keeps all = changed_by (test e.0) e es (changed_value test change es) change keeps all (each_changed test change es keeps all.1)

  insert_by : (o : Ordering) (e : K × X) (es rest : List (K × X)) (k : K) (v : X) → P v → Each (e ∷ es) → Each rest → Each (match_ordering o ((k, v) ∷ e ∷ es) ((e.0, v) ∷ es) (e ∷ rest))
  insert_by Less e es rest k v one all later = (one, all)
  insert_by Equal e es rest k v one all later = (one, all.1)
  insert_by Greater e es rest k v one all later = (all.0, later)

  pub each_inserted : (R : K → K → Ordering) (es : List (K × X)) (k : K) (v : X) → P v → Each es → Each (insert_entry R es k v)
  each_inserted R [] k v one all = (one, tt)
  each_inserted R (e ∷ es) k v one all = insert_by (R k e.0) e es (insert_entry R es k v) k v one all (each_inserted R es k v one all.1)

  found_by : (b : Bool) (e : K × X) (rest : Option X) (x : X) → P e.1 → (rest ≡ Some x → P x) → cond b (Some e.1) rest ≡ Some x → P x
  found_by true e rest x one later is = let same : e.1 ≡ x = cc in subst P same one
  found_by false e rest x one later is = later is

  pub one_found : (test : K → Bool) (es : List (K × X)) (x : X) → Each es → lookup test es ≡ Some x → P x
  one_found test [] x all is = absurd cc
  one_found test (e ∷ es) x all is = found_by (test e.0) e (lookup test es) x all.0 (one_found test es x all.1) is

pub each_put : {X : Type 0} (P : X → Type 0) (name : List ℕ) (v : X) (es : List (List ℕ × X)) → P v → AllByRecursion (λ (e : List ℕ × X). P e.1) es → AllByRecursion (λ (e : List ℕ × X). P e.1) (put_at name v es)
each_put {X} P name v es one all = by_test (is_some (at_name name es))
  where
    by_test : (b : Bool) → AllByRecursion (λ (e : List ℕ × X). P e.1) (cond b (set_value (is_name name) es v) (insert_entry (slice_cmp nat_cmp) es name v))
    by_test true = each_set P (is_name name) es v one all
    by_test false = each_inserted P (slice_cmp nat_cmp) es name v one all
