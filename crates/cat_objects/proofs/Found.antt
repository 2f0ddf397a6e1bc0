-- What is found at any key of a map after a pair was put in, set, changed or taken out.
use Rattle.std.proofs.Common.{◌≡◌, Bool, true, false, List, [], ◌∷◌, Option, Some, None, is_some, cond, refl, sym, ap, ◌∙◌}
use Rattle.std.proofs.lemmas.Cmp.{eq_by_cmp_equiv}
use Rattle.std.proofs.lemmas.Map.{lookup-remove_entry}
use Rattle.std.proofs.lemmas.Map.Keys.{IsDistinct-from_sorted}
use Rattle.std.specs.BTreeMap.{insert_entry, is_at}
use Rattle.std.specs.Cmp.{IsTotalOrder}
use Rattle.std.specs.List.Sorted.{IsStrictlySortedBy}
use Rattle.std.specs.Map.{keys_of, lookup, remove_entry, set_value}
use Rattle.std.specs.Option.{option_map}
use Rattle.std.specs.Ordering.{is_eq, match_ordering, ordering_reverse}
use Rattle.std.specs.declared.cmp.Ordering.{Ordering}
use Rattle.std.specs.declared.cmp.Ordering.TheVariants.{Less, Equal, Greater}
use Rattle.cat_objects.specs.Changes.{changed_value}
use Rattle.cat_objects.proofs.Maps.{equal_of, equal_self, same_found, set_found}

module _ {K X : Type 0} (test other : K → Bool) (apart : (k : K) → test k ≡ true → other k ≡ false) where
  set_by : (b : Bool) (e : K × X) (es : List (K × X)) (w : X) → test e.0 ≡ b → lookup other (set_value test es w) ≡ lookup other es → lookup other (cond b ((e.0, w) ∷ es) (e ∷ set_value test es w)) ≡ lookup other (e ∷ es)
  set_by true e es w is more = ap (λ (c : Bool). cond c (Some w) (lookup other es)) (apart e.0 is) ∙ sym (ap (λ (c : Bool). cond c (Some e.1) (lookup other es)) (apart e.0 is))
  set_by false e es w is more = ap (λ (found : Option X). cond (other e.0) (Some e.1) found) more

  set_other : (es : List (K × X)) (w : X) → lookup other (set_value test es w) ≡ lookup other es
  set_other [] w = refl
  set_other (e ∷ es) w = set_by (test e.0) e es w refl (set_other es w)

  changed_by : (b : Bool) (f : X → X) (e : K × X) (es : List (K × X)) → test e.0 ≡ b → lookup other (changed_value test f es) ≡ lookup other es → lookup other (cond b ((e.0, f e.1) ∷ es) (e ∷ changed_value test f es)) ≡ lookup other (e ∷ es)
  changed_by true f e es is more = ap (λ (c : Bool). cond c (Some (f e.1)) (lookup other es)) (apart e.0 is) ∙ sym (ap (λ (c : Bool). cond c (Some e.1) (lookup other es)) (apart e.0 is))
  changed_by false f e es is more = ap (λ (found : Option X). cond (other e.0) (Some e.1) found) more

  changed_other : (f : X → X) (es : List (K × X)) → lookup other (changed_value test f es) ≡ lookup other es
  changed_other f [] = refl
  changed_other f (e ∷ es) = changed_by (test e.0) f e es refl (changed_other f es)

module _ {K X : Type 0} (test other : K → Bool) (apart : (k : K) → test k ≡ true → other k ≡ false) where
  removed_by : (b : Bool) (e : K × X) (es : List (K × X)) → test e.0 ≡ b → lookup other (remove_entry test es) ≡ lookup other es → lookup other (cond b es (e ∷ remove_entry test es)) ≡ lookup other (e ∷ es)
  removed_by true e es is more = sym (ap (λ (c : Bool). cond c (Some e.1) (lookup other es)) (apart e.0 is))
  removed_by false e es is more = ap (λ (found : Option X). cond (other e.0) (Some e.1) found) more

  removed_other : (es : List (K × X)) → lookup other (remove_entry test es) ≡ lookup other es
  removed_other [] = refl
  removed_other (e ∷ es) = removed_by (test e.0) e es refl (removed_other es)

module _ {K X : Type 0} (test : K → Bool) where
  own_by : (b : Bool) (f : X → X) (e : K × X) (es : List (K × X)) → test e.0 ≡ b → lookup test (changed_value test f es) ≡ option_map f (lookup test es)
      → lookup test (cond b ((e.0, f e.1) ∷ es) (e ∷ changed_value test f es)) ≡ option_map f (cond b (Some e.1) (lookup test es))
  own_by true f e es is more = ap (λ (c : Bool). cond c (Some (f e.1)) (lookup test es)) is
  own_by false f e es is more = ap (λ (c : Bool). cond c (Some e.1) (lookup test (changed_value test f es))) is ∙ more

  changed_own : (f : X → X) (es : List (K × X)) → lookup test (changed_value test f es) ≡ option_map f (lookup test es)
  changed_own f [] = refl
  changed_own f (e ∷ es) = own_by (test e.0) f e es refl (changed_own f es)

module _ {K : Type 0} (R : K → K → Ordering) (laws : IsTotalOrder R) where
  -- equal keys stand alike to each other one
  alike : (q k x : K) → R k x ≡ Equal → R q x ≡ R q k
  alike q k x is = laws.antisymm q x ∙ ap ordering_reverse (sym (laws.congr k x q is)) ∙ sym (laws.antisymm q k)

  apart_at : (q k : K) → is_at (R q) k ≡ false → (x : K) → is_at (R k) x ≡ true → is_at (R q) x ≡ false
  apart_at q k other x is = ap is_eq (alike q k x (equal_of (R k x) is)) ∙ other

module _ {K X : Type 0} (R : K → K → Ordering) (laws : IsTotalOrder R) where
  -- a pair put in, at its own key
  inserted_own_by : (o : Ordering) (k : K) (v : X) (e : K × X) (es : List (K × X)) → R k e.0 ≡ o → lookup (is_at (R k)) (insert_entry R es k v) ≡ Some v
      → lookup (is_at (R k)) (match_ordering o ((k, v) ∷ e ∷ es) ((e.0, v) ∷ es) (e ∷ insert_entry R es k v)) ≡ Some v
  inserted_own_by Less k v e es is more = ap (λ (o : Ordering). cond (is_eq o) (Some v) (lookup (is_at (R k)) (e ∷ es))) (equal_self R laws k)
  inserted_own_by Equal k v e es is more = ap (λ (o : Ordering). cond (is_eq o) (Some v) (lookup (is_at (R k)) es)) is
  inserted_own_by Greater k v e es is more = ap (λ (o : Ordering). cond (is_eq o) (Some e.1) (lookup (is_at (R k)) (insert_entry R es k v))) is ∙ more

  inserted_own : (k : K) (v : X) (es : List (K × X)) → lookup (is_at (R k)) (insert_entry R es k v) ≡ Some v
  inserted_own k v [] = ap (λ (o : Ordering). cond (is_eq o) (Some v) None) (equal_self R laws k)
  inserted_own k v (e ∷ es) = inserted_own_by (R k e.0) k v e es refl (inserted_own k v es)

  -- and at another one
  inserted_other_by : (o : Ordering) (q k : K) (v : X) (e : K × X) (es : List (K × X)) → is_at (R q) k ≡ false → R k e.0 ≡ o → lookup (is_at (R q)) (insert_entry R es k v) ≡ lookup (is_at (R q)) es
      → lookup (is_at (R q)) (match_ordering o ((k, v) ∷ e ∷ es) ((e.0, v) ∷ es) (e ∷ insert_entry R es k v)) ≡ lookup (is_at (R q)) (e ∷ es)
  inserted_other_by Less q k v e es other is more = ap (λ (c : Bool). cond c (Some v) (lookup (is_at (R q)) (e ∷ es))) other
  inserted_other_by Equal q k v e es other is more =
      ap (λ (c : Bool). cond c (Some v) (lookup (is_at (R q)) es)) (ap is_eq (alike R laws q k e.0 is) ∙ other)
      ∙ sym (ap (λ (c : Bool). cond c (Some e.1) (lookup (is_at (R q)) es)) (ap is_eq (alike R laws q k e.0 is) ∙ other))
  inserted_other_by Greater q k v e es other is more = ap (λ (found : Option X). cond (is_at (R q) e.0) (Some e.1) found) more

  inserted_other : (q k : K) (v : X) (es : List (K × X)) → is_at (R q) k ≡ false → lookup (is_at (R q)) (insert_entry R es k v) ≡ lookup (is_at (R q)) es
  inserted_other q k v [] other = ap (λ (c : Bool). cond c (Some v) None) other
  inserted_other q k v (e ∷ es) other = inserted_other_by (R k e.0) q k v e es other refl (inserted_other q k v es other)

  -- a value at a key, set where the key is there, and else put in
  abbrev put_where : (k : K) (v : X) (es : List (K × X)) → Option X → List (K × X)
  put_where k v es found = cond (is_some found) (set_value (is_at (R k)) es v) (insert_entry R es k v)

  put_own : (k : K) (v : X) (es : List (K × X)) (o : Option X) → lookup (is_at (R k)) es ≡ o → lookup (is_at (R k)) (put_where k v es o) ≡ Some v
  put_own k v es None is = inserted_own k v es
  put_own k v es (Some w) is = set_found (is_at (R k)) es w v is

  put_other : (q k : K) (v : X) (es : List (K × X)) (o : Option X) → is_at (R q) k ≡ false → lookup (is_at (R q)) (put_where k v es o) ≡ lookup (is_at (R q)) es
  put_other q k v es None other = inserted_other q k v es other
  put_other q k v es (Some w) other = set_other (is_at (R k)) (is_at (R q)) (apart_at R laws q k other) es v

  -- what was put at a key is found there
  pub found_own : (k : K) (v : X) (es : List (K × X)) → lookup (is_at (R k)) (cond (is_some (lookup (is_at (R k)) es)) (set_value (is_at (R k)) es v) (insert_entry R es k v)) ≡ Some v
  found_own k v es = put_own k v es (lookup (is_at (R k)) es) refl

  -- what is found at another key than the one that was taken out
  pub found_apart : (q k : K) (es : List (K × X)) → is_at (R q) k ≡ false → lookup (is_at (R q)) (remove_entry (is_at (R k)) es) ≡ lookup (is_at (R q)) es
  found_apart q k es other = removed_other (is_at (R k)) (is_at (R q)) (apart_at R laws q k other) es

  put_by : (b : Bool) (q k : K) (v : X) (es : List (K × X)) → is_at (R q) k ≡ b → lookup (is_at (R q)) (put_where k v es (lookup (is_at (R k)) es)) ≡ cond b (Some v) (lookup (is_at (R q)) es)
  put_by true q k v es is = same_found R laws q k (put_where k v es (lookup (is_at (R k)) es)) (equal_of (R q k) is) ∙ put_own k v es (lookup (is_at (R k)) es) refl
  put_by false q k v es is = put_other q k v es (lookup (is_at (R k)) es) is

  -- what is found after a value was put at a key
  pub found_put : (q k : K) (v : X) (es : List (K × X)) → lookup (is_at (R q)) (cond (is_some (lookup (is_at (R k)) es)) (set_value (is_at (R k)) es v) (insert_entry R es k v)) ≡ cond (is_at (R q) k) (Some v) (lookup (is_at (R q)) es)
  found_put q k v es = put_by (is_at (R q) k) q k v es refl

  removed_here : (b : Bool) (q k : K) (es : List (K × X)) → is_at (R q) k ≡ b → cond (is_at (R k) q) None (lookup (is_at (R q)) es) ≡ cond b None (lookup (is_at (R q)) es)
  removed_here b q k es is = ap (λ (c : Bool). cond c None (lookup (is_at (R q)) es)) ((eq_by_cmp_equiv laws).symm k q ∙ is)

  -- what is found after a key was taken out of keys that rise
  pub found_removed : (q k : K) (es : List (K × X)) → IsStrictlySortedBy R (keys_of es) → lookup (is_at (R q)) (remove_entry (is_at (R k)) es) ≡ cond (is_at (R q) k) None (lookup (is_at (R q)) es)
  found_removed q k es rise =
      lookup-remove_entry (eq_by_cmp_equiv laws) (is_at (R k)) (λ x y is. ap is_eq (laws.congr k x y (equal_of (R k x) is))) q es (IsDistinct-from_sorted R (keys_of es) rise)
      ∙ removed_here (is_at (R q) k) q k es refl

  changed_at : (b : Bool) (q k : K) (f : X → X) (es : List (K × X)) → is_at (R q) k ≡ b → lookup (is_at (R q)) (changed_value (is_at (R k)) f es) ≡ cond b (option_map f (lookup (is_at (R q)) es)) (lookup (is_at (R q)) es)
  changed_at true q k f es is =
      same_found R laws q k (changed_value (is_at (R k)) f es) (equal_of (R q k) is)
      ∙ changed_own (is_at (R k)) f es
      ∙ ap (option_map f) (sym (same_found R laws q k es (equal_of (R q k) is)))
  changed_at false q k f es is = changed_other (is_at (R k)) (is_at (R q)) (apart_at R laws q k is) f es

  -- what is found after what stands at a key was changed
  pub found_changed : (q k : K) (f : X → X) (es : List (K × X)) → lookup (is_at (R q)) (changed_value (is_at (R k)) f es) ≡ cond (is_at (R q) k) (option_map f (lookup (is_at (R q)) es)) (lookup (is_at (R q)) es)
  found_changed q k f es = changed_at (is_at (R q) k) q k f es refl
