-- What stands at a key of a map after its value was set, or after a pair was put in or taken out.
use Rattle.std.proofs.Common.{◌≡◌, Bool, true, false, ◌&&◌, List, [], ◌∷◌, Option, Some, None, MatchOption, cond, refl, sym, ap, ◌∙◌}
use Rattle.std.specs.BTreeMap.{insert_entry, is_at}
use Rattle.std.specs.Cmp.{IsTotalOrder}
use Rattle.std.specs.List.{filter, find, slice_get}
use Rattle.std.specs.Map.{lookup, remove_entry, set_value}
use Rattle.std.specs.Option.{option_map}
use Rattle.std.specs.Ordering.{is_eq, ordering_reverse, match_ordering}
use Rattle.std.specs.declared.cmp.Ordering.{Ordering}
use Rattle.std.specs.declared.cmp.Ordering.TheVariants.{Less, Equal, Greater}
use Rattle.cat_objects.specs.Changes.{changed_value}

-- ---- a value set at a key

module _ {K X : Type 0} (test : K → Bool) where
  -- one pair of a list, by whether its key passes
  twice_by : (b : Bool) (e : K × X) (es : List (K × X)) (v w : X) → test e.0 ≡ b → set_value test (set_value test es v) w ≡ set_value test es w
      → set_value test (cond b ((e.0, v) ∷ es) (e ∷ set_value test es v)) w ≡ cond b ((e.0, w) ∷ es) (e ∷ set_value test es w)
  twice_by true e es v w is more = ap (λ (b : Bool). cond b ((e.0, w) ∷ es) ((e.0, v) ∷ set_value test es w)) is
  twice_by false e es v w is more =
      ap (λ (b : Bool). cond b ((e.0, w) ∷ set_value test es v) (e ∷ set_value test (set_value test es v) w)) is
      ∙ ap (λ (l : List (K × X)). e ∷ l) more

  -- a value that is set over one that was set
  pub set_twice : (es : List (K × X)) (v w : X) → set_value test (set_value test es v) w ≡ set_value test es w
  set_twice [] v w = refl
  set_twice (e ∷ es) v w = twice_by (test e.0) e es v w refl (set_twice es v w)

  absent_by : (b : Bool) (e : K × X) (es : List (K × X)) (w : X) → cond b (Some e.1) (lookup test es) ≡ None → (lookup test es ≡ None → set_value test es w ≡ es) → cond b ((e.0, w) ∷ es) (e ∷ set_value test es w) ≡ e ∷ es
  absent_by true e es w none more = absurd cc
  absent_by false e es w none more = ap (λ (l : List (K × X)). e ∷ l) (more none)

  -- a value that is set at a key that is absent
  pub set_absent : (es : List (K × X)) (w : X) → lookup test es ≡ None → set_value test es w ≡ es
  set_absent [] w none = refl
  set_absent (e ∷ es) w none = absent_by (test e.0) e es w none (set_absent es w)

  found_by : (b : Bool) (e : K × X) (es : List (K × X)) (v w : X) → test e.0 ≡ b → cond b (Some e.1) (lookup test es) ≡ Some v → (lookup test es ≡ Some v → lookup test (set_value test es w) ≡ Some w)
      → lookup test (cond b ((e.0, w) ∷ es) (e ∷ set_value test es w)) ≡ Some w
  found_by true e es v w is some more = ap (λ (b : Bool). cond b (Some w) (lookup test es)) is
  found_by false e es v w is some more = ap (λ (b : Bool). cond b (Some e.1) (lookup test (set_value test es w))) is ∙ more some

  -- the value that was set is found
  pub set_found : (es : List (K × X)) (v w : X) → lookup test es ≡ Some v → lookup test (set_value test es w) ≡ Some w
  set_found [] v w some = absurd cc
  set_found (e ∷ es) v w some = found_by (test e.0) e es v w refl some (set_found es v w)

  same_by : (b : Bool) (e : K × X) (es : List (K × X)) (w : X) → cond b (Some e.1) (lookup test es) ≡ Some w → (lookup test es ≡ Some w → set_value test es w ≡ es) → cond b ((e.0, w) ∷ es) (e ∷ set_value test es w) ≡ e ∷ es
  same_by true e es w found more =
      let same : w ≡ e.1 = cc in
      ap (λ (x : X). (e.0, x) ∷ es) same
  same_by false e es w found more = ap (λ (l : List (K × X)). e ∷ l) (more found)

  -- the value that stands there, set
  pub set_same : (es : List (K × X)) (w : X) → lookup test es ≡ Some w → set_value test es w ≡ es
  set_same [] w found = refl
  set_same (e ∷ es) w found = same_by (test e.0) e es w found (set_same es w)

  -- a value that was set over one is taken back by setting that one
  pub set_back : (es : List (K × X)) (v w : X) → lookup test es ≡ Some v → set_value test (set_value test es w) v ≡ es
  set_back es v w found = set_twice es w v ∙ set_same es v found

-- ---- a value changed at a key

module _ {K X : Type 0} (test : K → Bool) where
  twice_changed_by : (b : Bool) (f g : X → X) (e : K × X) (es : List (K × X)) → test e.0 ≡ b → changed_value test f (changed_value test g es) ≡ changed_value test (λ x. f (g x)) es
      → changed_value test f (cond b ((e.0, g e.1) ∷ es) (e ∷ changed_value test g es)) ≡ cond b ((e.0, f (g e.1)) ∷ es) (e ∷ changed_value test (λ x. f (g x)) es)
  twice_changed_by true f g e es is more = ap (λ (b : Bool). cond b ((e.0, f (g e.1)) ∷ es) ((e.0, g e.1) ∷ changed_value test f es)) is
  twice_changed_by false f g e es is more =
      ap (λ (b : Bool). cond b ((e.0, f e.1) ∷ changed_value test g es) (e ∷ changed_value test f (changed_value test g es))) is
      ∙ ap (λ (l : List (K × X)). e ∷ l) more

  -- a value that is changed twice
  pub changed_twice : (f g : X → X) (es : List (K × X)) → changed_value test f (changed_value test g es) ≡ changed_value test (λ x. f (g x)) es
  changed_twice f g [] = refl
  changed_twice f g (e ∷ es) = twice_changed_by (test e.0) f g e es refl (changed_twice f g es)

  as_by : (b : Bool) (f g : X → X) (e : K × X) (es : List (K × X)) → ((x : X) → cond b (Some e.1) (lookup test es) ≡ Some x → f x ≡ g x)
      → (((x : X) → lookup test es ≡ Some x → f x ≡ g x) → changed_value test f es ≡ changed_value test g es)
      → cond b ((e.0, f e.1) ∷ es) (e ∷ changed_value test f es) ≡ cond b ((e.0, g e.1) ∷ es) (e ∷ changed_value test g es)
  as_by true f g e es same more = ap (λ (x : X). (e.0, x) ∷ es) (same e.1 refl)
  as_by false f g e es same more = ap (λ (l : List (K × X)). e ∷ l) (more same)

  -- changes that make the same of the value that is there
  pub changed_as : (f g : X → X) (es : List (K × X)) → ((x : X) → lookup test es ≡ Some x → f x ≡ g x) → changed_value test f es ≡ changed_value test g es
  changed_as f g [] same = refl
  changed_as f g (e ∷ es) same = as_by (test e.0) f g e es same (changed_as f g es)

  kept_by : (b : Bool) (e : K × X) (es : List (K × X)) → changed_value test (λ x. x) es ≡ es → cond b (e ∷ es) (e ∷ changed_value test (λ x. x) es) ≡ e ∷ es
  kept_by true e es more = refl
  kept_by false e es more = ap (λ (l : List (K × X)). e ∷ l) more

  kept : (es : List (K × X)) → changed_value test (λ x. x) es ≡ es
  kept [] = refl
  kept (e ∷ es) = kept_by (test e.0) e es (kept es)

  -- a change that leaves the value that is there
  pub changed_not : (f : X → X) (es : List (K × X)) → ((x : X) → lookup test es ≡ Some x → f x ≡ x) → changed_value test f es ≡ es
  changed_not f es same = changed_as f (λ x. x) es same ∙ kept es

  -- a change where nothing is
  pub changed_absent : (f : X → X) (es : List (K × X)) → lookup test es ≡ None → changed_value test f es ≡ es
  changed_absent f es none =
      changed_not f es
      (λ x found.
      let both : None ≡ Some x = sym none ∙ found in
      absurd cc)

  set_changed_by : (b : Bool) (f : X → X) (e : K × X) (es : List (K × X)) (x : X) → cond b (Some e.1) (lookup test es) ≡ Some x → (lookup test es ≡ Some x → set_value test es (f x) ≡ changed_value test f es)
      → cond b ((e.0, f x) ∷ es) (e ∷ set_value test es (f x)) ≡ cond b ((e.0, f e.1) ∷ es) (e ∷ changed_value test f es)
  set_changed_by true f e es x found more =
      let same : x ≡ e.1 = cc in
      ap (λ (y : X). (e.0, f y) ∷ es) same
  set_changed_by false f e es x found more = ap (λ (l : List (K × X)). e ∷ l) (more found)

  -- the value that is there, changed and set
  pub set_changed : (f : X → X) (es : List (K × X)) (x : X) → lookup test es ≡ Some x → set_value test es (f x) ≡ changed_value test f es
  set_changed f [] x found = absurd cc
  set_changed f (e ∷ es) x found = set_changed_by (test e.0) f e es x found (set_changed f es x)

  first_by : (b : Bool) (g : X → X) (e : K × X) (es : List (K × X)) → test e.0 ≡ b → remove_entry test (changed_value test g es) ≡ remove_entry test es
      → remove_entry test (cond b ((e.0, g e.1) ∷ es) (e ∷ changed_value test g es)) ≡ cond b es (e ∷ remove_entry test es)
  first_by true g e es is more = ap (λ (b : Bool). cond b es ((e.0, g e.1) ∷ remove_entry test es)) is
  first_by false g e es is more =
      ap (λ (b : Bool). cond b (changed_value test g es) (e ∷ remove_entry test (changed_value test g es))) is
      ∙ ap (λ (l : List (K × X)). e ∷ l) more

  -- a value that was changed, taken out
  pub removed_first : (g : X → X) (es : List (K × X)) → remove_entry test (changed_value test g es) ≡ remove_entry test es
  removed_first g [] = refl
  removed_first g (e ∷ es) = first_by (test e.0) g e es refl (removed_first g es)

module _ {K X : Type 0} (test other : K → Bool) (f g : X → X) (same : (x : X) → f (g x) ≡ f x) where
  removed_by : (b c : Bool) (e : K × X) (es : List (K × X)) → test e.0 ≡ b → other e.0 ≡ c
      → remove_entry test (changed_value other f (changed_value test g es)) ≡ remove_entry test (changed_value other f es)
      → remove_entry test (changed_value other f (cond b ((e.0, g e.1) ∷ es) (e ∷ changed_value test g es))) ≡ remove_entry test (cond c ((e.0, f e.1) ∷ es) (e ∷ changed_value other f es))
  removed_by true true e es is also more =
      ap (λ (c : Bool). remove_entry test (cond c ((e.0, f (g e.1)) ∷ es) ((e.0, g e.1) ∷ changed_value other f es))) also
      ∙ ap (λ (x : X). remove_entry test ((e.0, x) ∷ es)) (same e.1)
  removed_by true false e es is also more =
      ap (λ (c : Bool). remove_entry test (cond c ((e.0, f (g e.1)) ∷ es) ((e.0, g e.1) ∷ changed_value other f es))) also
      ∙ ap (λ (b : Bool). cond b (changed_value other f es) ((e.0, g e.1) ∷ remove_entry test (changed_value other f es))) is
      ∙ sym (ap (λ (b : Bool). cond b (changed_value other f es) (e ∷ remove_entry test (changed_value other f es))) is)
  removed_by false true e es is also more =
      ap (λ (c : Bool). remove_entry test (cond c ((e.0, f e.1) ∷ changed_value test g es) (e ∷ changed_value other f (changed_value test g es)))) also
      ∙ ap (λ (b : Bool). cond b (changed_value test g es) ((e.0, f e.1) ∷ remove_entry test (changed_value test g es))) is
      ∙ ap (λ (l : List (K × X)). (e.0, f e.1) ∷ l) (removed_first test g es)
      ∙ sym (ap (λ (b : Bool). cond b es ((e.0, f e.1) ∷ remove_entry test es)) is)
  removed_by false false e es is also more =
      ap (λ (c : Bool). remove_entry test (cond c ((e.0, f e.1) ∷ changed_value test g es) (e ∷ changed_value other f (changed_value test g es)))) also
      ∙ ap (λ (b : Bool). cond b (changed_value other f (changed_value test g es)) (e ∷ remove_entry test (changed_value other f (changed_value test g es)))) is
      ∙ ap (λ (l : List (K × X)). e ∷ l) more
      ∙ sym (ap (λ (b : Bool). cond b (changed_value other f es) (e ∷ remove_entry test (changed_value other f es))) is)

  -- a value that was changed, taken out after another one was changed
  pub removed_changed : (es : List (K × X)) → remove_entry test (changed_value other f (changed_value test g es)) ≡ remove_entry test (changed_value other f es)
  removed_changed [] = refl
  removed_changed (e ∷ es) = removed_by (test e.0) (other e.0) e es refl refl (removed_changed es)

-- ---- the first that passes

passing_by : {X : Type 0} (b : Bool) (x : X) (xs : List X) (found : Option X) → slice_get xs 0 ≡ found → slice_get (cond (b && true) (x ∷ xs) xs) 0 ≡ cond b (Some x) found
passing_by true x xs found more = refl
passing_by false x xs found more = more

-- the first of those that pass is found
pub first_found : {X : Type 0} (test : X → Bool) (xs : List X) → slice_get (filter (λ x. test x && true) xs) 0 ≡ find test xs
first_found test [] = refl
first_found test (x ∷ xs) = passing_by (test x) x (filter (λ y. test y && true) xs) (find test xs) (first_found test xs)

-- where each passes, all are left
pub all_pass : {X : Type 0} (xs : List X) → filter (λ x. true) xs ≡ xs
all_pass [] = refl
all_pass {X} (x ∷ xs) = ap (λ (l : List X). x ∷ l) (all_pass xs)

-- what an iterator gives next is the first of what it has left
pub next_first : {A X : Type 0} (shows : A → X) (r : Option A) (left after : List X) → MatchOption r ((left ≡ []) × (after ≡ [])) (λ x. left ≡ shows x ∷ after) → option_map shows r ≡ slice_get left 0
next_first shows None left after is = sym (ap (λ l. slice_get l 0) is.0)
next_first shows (Some x) left after is = sym (ap (λ l. slice_get l 0) is)

-- ---- a pair put in

own_reverse : (o : Ordering) → o ≡ ordering_reverse o → o ≡ Equal
own_reverse Less e = absurd cc
own_reverse Equal e = refl
own_reverse Greater e = absurd cc

pub equal_of : (o : Ordering) → is_eq o ≡ true → o ≡ Equal
equal_of Less e = absurd cc
equal_of Equal e = refl
equal_of Greater e = absurd cc

pub equal_self : {K : Type 0} (R : K → K → Ordering) (laws : IsTotalOrder R) (k : K) → R k k ≡ Equal
equal_self R laws k = own_reverse (R k k) (laws.antisymm k k)

module _ {K X : Type 0} (R : K → K → Ordering) (laws : IsTotalOrder R) where
  taken_front : (k : K) (v : X) (es : List (K × X)) → remove_entry (is_at (R k)) ((k, v) ∷ es) ≡ es
  taken_front k v es = ap (λ o. cond (is_eq o) es ((k, v) ∷ remove_entry (is_at (R k)) es)) (equal_self R laws k)

  -- one pair of a list, by how the key stands to it
  taken_by : (o : Ordering) (k : K) (v : X) (e : K × X) (es : List (K × X)) → R k e.0 ≡ o → lookup (is_at (R k)) (e ∷ es) ≡ None → (lookup (is_at (R k)) es ≡ None → remove_entry (is_at (R k)) (insert_entry R es k v) ≡ es)
      → remove_entry (is_at (R k)) (match_ordering o ((k, v) ∷ e ∷ es) ((e.0, v) ∷ es) (e ∷ insert_entry R es k v)) ≡ e ∷ es
  taken_by Less k v e es is none more = taken_front k v (e ∷ es)
  taken_by Equal k v e es is none more =
      let found : Some e.1 ≡ None = ap (λ o. cond (is_eq o) (Some e.1) (lookup (is_at (R k)) es)) (sym is) ∙ none in
      absurd cc
  taken_by Greater k v e es is none more =
      let behind : lookup (is_at (R k)) es ≡ None = ap (λ o. cond (is_eq o) (Some e.1) (lookup (is_at (R k)) es)) (sym is) ∙ none in
      ap (λ o. cond (is_eq o) (insert_entry R es k v) (e ∷ remove_entry (is_at (R k)) (insert_entry R es k v))) is ∙ ap (λ xs. e ∷ xs) (more behind)

  -- what was put at a key that was absent is taken out again
  pub taken_out : (es : List (K × X)) (k : K) (v : X) → lookup (is_at (R k)) es ≡ None → remove_entry (is_at (R k)) (insert_entry R es k v) ≡ es
  taken_out [] k v none = taken_front k v []
  taken_out (e ∷ es) k v none = taken_by (R k e.0) k v e es refl none (taken_out es k v)

  -- ---- a pair that was put in, changed or looked up

  changed_front : (k : K) (v : X) (f : X → X) (es : List (K × X)) → changed_value (is_at (R k)) f ((k, v) ∷ es) ≡ (k, f v) ∷ es
  changed_front k v f es = ap (λ o. cond (is_eq o) ((k, f v) ∷ es) ((k, v) ∷ changed_value (is_at (R k)) f es)) (equal_self R laws k)

  changed_by : (o : Ordering) (k : K) (v : X) (f : X → X) (e : K × X) (es : List (K × X)) → R k e.0 ≡ o → lookup (is_at (R k)) (e ∷ es) ≡ None
      → (lookup (is_at (R k)) es ≡ None → changed_value (is_at (R k)) f (insert_entry R es k v) ≡ insert_entry R es k (f v))
      → changed_value (is_at (R k)) f (match_ordering o ((k, v) ∷ e ∷ es) ((e.0, v) ∷ es) (e ∷ insert_entry R es k v)) ≡ match_ordering o ((k, f v) ∷ e ∷ es) ((e.0, f v) ∷ es) (e ∷ insert_entry R es k (f v))
  changed_by Less k v f e es is none more = changed_front k v f (e ∷ es)
  changed_by Equal k v f e es is none more =
      let found : Some e.1 ≡ None = ap (λ o. cond (is_eq o) (Some e.1) (lookup (is_at (R k)) es)) (sym is) ∙ none in
      absurd cc
  changed_by Greater k v f e es is none more =
      let behind : lookup (is_at (R k)) es ≡ None = ap (λ o. cond (is_eq o) (Some e.1) (lookup (is_at (R k)) es)) (sym is) ∙ none in
      ap (λ o. cond (is_eq o) ((e.0, f e.1) ∷ insert_entry R es k v) (e ∷ changed_value (is_at (R k)) f (insert_entry R es k v))) is ∙ ap (λ xs. e ∷ xs) (more behind)

  -- what was put at a key that was absent, changed
  pub changed_inserted : (es : List (K × X)) (k : K) (v : X) (f : X → X) → lookup (is_at (R k)) es ≡ None → changed_value (is_at (R k)) f (insert_entry R es k v) ≡ insert_entry R es k (f v)
  changed_inserted [] k v f none = changed_front k v f []
  changed_inserted (e ∷ es) k v f none = changed_by (R k e.0) k v f e es refl none (changed_inserted es k v f)

  -- the same is found at equal keys
  pub same_found : (n k : K) (es : List (K × X)) → R n k ≡ Equal → lookup (is_at (R n)) es ≡ lookup (is_at (R k)) es
  same_found n k [] is = refl
  same_found n k (e ∷ es) is =
      ap (λ o. cond (is_eq o) (Some e.1) (lookup (is_at (R n)) es)) (laws.congr n k e.0 is)
      ∙ ap (λ (found : Option X). cond (is_at (R k) e.0) (Some e.1) found) (same_found n k es is)

  -- and the same is changed
  pub same_changed : (n k : K) (f : X → X) (es : List (K × X)) → R n k ≡ Equal → changed_value (is_at (R n)) f es ≡ changed_value (is_at (R k)) f es
  same_changed n k f [] is = refl
  same_changed n k f (e ∷ es) is =
      ap (λ o. cond (is_eq o) ((e.0, f e.1) ∷ es) (e ∷ changed_value (is_at (R n)) f es)) (laws.congr n k e.0 is)
      ∙ ap (λ (l : List (K × X)). cond (is_at (R k) e.0) ((e.0, f e.1) ∷ es) (e ∷ l)) (same_changed n k f es is)

  module _ {Y : Type 0} (h : Option X → Y) (v : X) (unseen : h (Some v) ≡ h None) where
    front_by : (b : Bool) (n k : K) (es : List (K × X)) → is_at (R n) k ≡ b → lookup (is_at (R k)) es ≡ None → h (cond b (Some v) (lookup (is_at (R n)) es)) ≡ h (lookup (is_at (R n)) es)
    front_by true n k es is none = unseen ∙ ap h (sym (same_found n k es (equal_of (R n k) is) ∙ none))
    front_by false n k es is none = refl

    behind_by : (b : Bool) (e : K × X) (one two : Option X) → h one ≡ h two → h (cond b (Some e.1) one) ≡ h (cond b (Some e.1) two)
    behind_by true e one two same = refl
    behind_by false e one two same = same

    unseen_by : (o : Ordering) (n k : K) (e : K × X) (es : List (K × X)) → R k e.0 ≡ o → lookup (is_at (R k)) (e ∷ es) ≡ None
        → (lookup (is_at (R k)) es ≡ None → h (lookup (is_at (R n)) (insert_entry R es k v)) ≡ h (lookup (is_at (R n)) es))
        → h (lookup (is_at (R n)) (match_ordering o ((k, v) ∷ e ∷ es) ((e.0, v) ∷ es) (e ∷ insert_entry R es k v))) ≡ h (lookup (is_at (R n)) (e ∷ es))
    unseen_by Less n k e es is none more = front_by (is_at (R n) k) n k (e ∷ es) refl none
    unseen_by Equal n k e es is none more =
        let found : Some e.1 ≡ None = ap (λ o. cond (is_eq o) (Some e.1) (lookup (is_at (R k)) es)) (sym is) ∙ none in
        absurd cc
    unseen_by Greater n k e es is none more =
        let behind : lookup (is_at (R k)) es ≡ None = ap (λ o. cond (is_eq o) (Some e.1) (lookup (is_at (R k)) es)) (sym is) ∙ none in
        behind_by (is_at (R n) e.0) e (lookup (is_at (R n)) (insert_entry R es k v)) (lookup (is_at (R n)) es) (more behind)

    -- a value that looks like none is put at a key that was absent: each look-up looks as before
    pub found_inserted : (n k : K) (es : List (K × X)) → lookup (is_at (R k)) es ≡ None → h (lookup (is_at (R n)) (insert_entry R es k v)) ≡ h (lookup (is_at (R n)) es)
    found_inserted n k [] none = front_by (is_at (R n) k) n k [] refl none
    found_inserted n k (e ∷ es) none = unseen_by (R k e.0) n k e es refl none (found_inserted n k es)
