-- Of the pairs of a map from texts to texts the last one with a key counts, also where it is a bad text.
use Rattle.std.proofs.Common.{◌≡◌, ◌==◌, ◌||◌, ◌⊎◌, if◌then◌else◌, cond, Bool, true, false, true≢false, ℕ, List, [], ◌∷◌, length, Option, Some, None, refl, sym, ap, ◌∙◌, subst, arith, inl, inr}
use Rattle.std.specs.Str.{IsUtf8, is_utf8, bytes_eq}
use Rattle.std.specs.declared.cmp.Ordering.{Ordering}
use Rattle.std.specs.declared.cmp.Ordering.TheVariants.{Less, Equal, Greater}
use Rattle.std.specs.BTreeMap.{insert_entry, is_at}
use Rattle.std.specs.Cmp.Lexicographic.{slice_cmp, nat_list_cmp_total}
use Rattle.std.specs.Map.{lookup, remove_entry}
use Rattle.std.specs.Ordering.{is_eq, match_ordering, nat_cmp, ordering_reverse}
use Rattle.std.proofs.lemmas.Bool.{both_ways, ne_eqb}
use Rattle.std.proofs.lemmas.Str.{IsUtf8-from_is_utf8, is_utf8-from_IsUtf8}
use Rattle.std.proofs.lemmas.Slice.Eq.{bytes_eq-Decides}
use Rattle.std.proofs.lemmas.Map.Lookups.{exact_bytes}
use Rattle.std.proofs.lemmas.Map.Text.{is_eq-slice_cmp}
use Rattle.thrift_binary.specs.Tree.{Wire, Flag, Number, Eight, Bytes, Struct, Items, Pairs, Entries, NoEntries, Entry, entries_count}
use Rattle.ms_structs.specs.declared.got.Got.{Got}
use Rattle.ms_structs.specs.declared.got.Got.TheVariants.{Nothing, BadText, Is}
use Rattle.ms_structs.specs.declared.pairs.PairsSoFar.{PairsSoFar}
use Rattle.ms_structs.specs.Slots.{typed}
use Rattle.ms_structs.specs.Values.{all_pairs, fold_entries, params_of, put_value, text_of, with_pair}
use Rattle.ms_structs.specs.Laws.{AreTextBytes, BadMapsAreTold, HasBadKey, HasBadValue, IsTextBytes, LastPairCounts, last_text}

abbrev order : List ℕ → List ℕ → Ordering
order = slice_cmp nat_cmp

-- ---- look-ups by bytes

-- the value at a key behind one more pair
over_same : {A : Type 0} (b : Bool) (x y z : A) → cond b x z ≡ cond b x (cond b y z)
over_same true x y z = refl
over_same false x y z = refl

either_way : {A : Type 0} (b : Bool) (x : A) → x ≡ cond b x x
either_way true x = refl
either_way false x = refl

none_some : {A : Type 0} (x : A) (o : Option A) → o ≡ None → o ≡ Some x → ⊥
none_some x None p q = cc
none_some x (Some y) p q = cc

over_other : {A : Type 0} (a b : Bool) (x y z : A) → (a ≡ true → b ≡ true → ⊥) → cond a x (cond b y z) ≡ cond b y (cond a x z)
over_other true true x y z apart = absurd (apart refl refl)
over_other true false x y z apart = refl
over_other false true x y z apart = refl
over_other false false x y z apart = refl

same_bytes : (a b : List ℕ) → bytes_eq a b ≡ true → a ≡ b
same_bytes a b e = (bytes_eq-Decides a b).0 e

-- one key isn't equal to two that differ
one_key : (q k other : List ℕ) → (k ≡ other → ⊥) → bytes_eq q other ≡ true → bytes_eq q k ≡ true → ⊥
one_key q k other apart at_other at_k = apart (sym (same_bytes q k at_k) ∙ same_bytes q other at_other)

told_apart : (k other : List ℕ) (r : Ordering) → order k other ≡ r → is_eq r ≡ false → k ≡ other → ⊥
told_apart k other r is e same = true≢false (sym ((bytes_eq-Decides k other).1 same) ∙ sym (is_eq-slice_cmp k other) ∙ ap is_eq is ∙ e)

module _ {V : Type 0} where
  placed : (q k : List ℕ) (v : V) (e : List ℕ × V) (es : List (List ℕ × V)) (r : Ordering) → order k e.0 ≡ r
      → lookup (bytes_eq q) (insert_entry order es k v) ≡ cond (bytes_eq q k) (Some v) (lookup (bytes_eq q) es)
      → lookup (bytes_eq q) (match_ordering r ((k, v) ∷ e ∷ es) ((e.0, v) ∷ es) (e ∷ insert_entry order es k v)) ≡ cond (bytes_eq q k) (Some v) (cond (bytes_eq q e.0) (Some e.1) (lookup (bytes_eq q) es))
  placed q k v e es Less is later = refl
  placed q k v e es Equal is later = rw (exact_bytes k e.0 is) (over_same (bytes_eq q e.0) (Some v) (Some e.1) (lookup (bytes_eq q) es))
  placed q k v e es Greater is later = rw later (over_other (bytes_eq q e.0) (bytes_eq q k) (Some e.1) (Some v) (lookup (bytes_eq q) es) (one_key q k e.0 (told_apart k e.0 Greater is refl)))

  put_at : (q k : List ℕ) (v : V) (es : List (List ℕ × V)) → lookup (bytes_eq q) (insert_entry order es k v) ≡ cond (bytes_eq q k) (Some v) (lookup (bytes_eq q) es)
  put_at q k v [] = refl
  put_at q k v (e ∷ es) = placed q k v e es (order k e.0) refl (put_at q k v es)

  -- all keys are above this one
  abbrev Above : List ℕ → List (List ℕ × V) → Type 0
  Above k [] = Unit {0}
  Above k (e ∷ es) = (order k e.0 ≡ Less) × Above k es

  abbrev Rising : List (List ℕ × V) → Type 0
  Rising [] = Unit {0}
  Rising (e ∷ es) = Above e.0 es × Rising es

  above_later : (a b : List ℕ) (es : List (List ℕ × V)) → order a b ≡ Less → Above b es → Above a es
  above_later a b [] lt h = tt
  above_later a b (e ∷ es) lt h = (let laws = nat_list_cmp_total in laws.trans a b e.0 lt h.0, above_later a b es lt h.1)

  above_put_by : (a k : List ℕ) (v : V) (e : List ℕ × V) (es : List (List ℕ × V)) (r : Ordering) → order a k ≡ Less → order a e.0 ≡ Less → Above a es → Above a (insert_entry order es k v) → Above a (match_ordering r ((k, v) ∷ e ∷ es) ((e.0, v) ∷ es) (e ∷ insert_entry order es k v))
  above_put_by a k v e es Less lt first h later = (lt, (first, h))
  above_put_by a k v e es Equal lt first h later = (first, h)
  above_put_by a k v e es Greater lt first h later = (first, later)

  above_put : (a k : List ℕ) (v : V) (es : List (List ℕ × V)) → order a k ≡ Less → Above a es → Above a (insert_entry order es k v)
  above_put a k v [] lt h = (lt, tt)
  above_put a k v (e ∷ es) lt h = above_put_by a k v e es (order k e.0) lt h.0 h.1 (above_put a k v es lt h.1)

  rising_put_by : (k : List ℕ) (v : V) (e : List ℕ × V) (es : List (List ℕ × V)) (r : Ordering) → order k e.0 ≡ r → Above e.0 es → Rising es → Rising (insert_entry order es k v) → Rising (match_ordering r ((k, v) ∷ e ∷ es) ((e.0, v) ∷ es) (e ∷ insert_entry order es k v))
  rising_put_by k v e es Less is h up later = ((is, above_later k e.0 es is h), (h, up))
  rising_put_by k v e es Equal is h up later = (h, up)
  rising_put_by k v e es Greater is h up later =
      let laws = nat_list_cmp_total in
      (above_put e.0 k v es (laws.antisymm e.0 k ∙ ap ordering_reverse is) h, later)

  rising_put : (k : List ℕ) (v : V) (es : List (List ℕ × V)) → Rising es → Rising (insert_entry order es k v)
  rising_put k v [] up = (tt, tt)
  rising_put k v (e ∷ es) up = rising_put_by k v e es (order k e.0) refl up.0 up.1 (rising_put k v es up.1)

  above_rest : (a k : List ℕ) (es : List (List ℕ × V)) → Above a es → Above a (remove_entry (is_at (order k)) es)
  above_rest a k [] h = tt
  above_rest a k (e ∷ es) h = by (is_at (order k) e.0) (above_rest a k es h.1)
    where
      by : (b : Bool) → Above a (remove_entry (is_at (order k)) es) → Above a (cond b es (e ∷ remove_entry (is_at (order k)) es))
      by true later = h.1
      by false later = (h.0, later)

  rising_rest : (k : List ℕ) (es : List (List ℕ × V)) → Rising es → Rising (remove_entry (is_at (order k)) es)
  rising_rest k [] up = tt
  rising_rest k (e ∷ es) up = by (is_at (order k) e.0) (rising_rest k es up.1)
    where
      by : (b : Bool) → Rising (remove_entry (is_at (order k)) es) → Rising (cond b es (e ∷ remove_entry (is_at (order k)) es))
      by true later = up.1
      by false later = (above_rest e.0 k es up.0, later)

  -- a key below all others isn't among them
  none_below : (q : List ℕ) (es : List (List ℕ × V)) → Above q es → lookup (bytes_eq q) es ≡ None
  none_below q [] h = refl
  none_below q (e ∷ es) h = by (bytes_eq q e.0) refl (none_below q es h.1)
    where
      by : (b : Bool) → bytes_eq q e.0 ≡ b → lookup (bytes_eq q) es ≡ None → cond b (Some e.1) (lookup (bytes_eq q) es) ≡ None
      by true is later = absurd (told_apart q e.0 Less h.0 refl (same_bytes q e.0 is))
      by false is later = later

  removed_by : (q k : List ℕ) (e : List ℕ × V) (es : List (List ℕ × V)) (b : Bool) → is_eq (order k e.0) ≡ b → Above e.0 es → lookup (bytes_eq q) (remove_entry (is_at (order k)) es) ≡ cond (bytes_eq q k) None (lookup (bytes_eq q) es)
      → lookup (bytes_eq q) (cond b es (e ∷ remove_entry (is_at (order k)) es)) ≡ cond (bytes_eq q k) None (cond (bytes_eq q e.0) (Some e.1) (lookup (bytes_eq q) es))
  removed_by q k e es true is h later =
      let same : k ≡ e.0 = same_bytes k e.0 (sym (is_eq-slice_cmp k e.0) ∙ is) in
      subst (λ (x : List ℕ). lookup (bytes_eq q) es ≡ cond (bytes_eq q x) None (cond (bytes_eq q e.0) (Some e.1) (lookup (bytes_eq q) es))) (sym same) (by (bytes_eq q e.0) refl)
    where
      by : (c : Bool) → bytes_eq q e.0 ≡ c → lookup (bytes_eq q) es ≡ cond c None (cond c (Some e.1) (lookup (bytes_eq q) es))
      by true at_e = none_below q es (subst (λ (x : List ℕ). Above x es) (sym (same_bytes q e.0 at_e)) h)
      by false at_e = refl
  removed_by q k e es false is h later =
      ap (λ (o : Option V). cond (bytes_eq q e.0) (Some e.1) o) later
      ∙ over_other (bytes_eq q e.0) (bytes_eq q k) (Some e.1) None (lookup (bytes_eq q) es) (one_key q k e.0 (told_apart k e.0 (order k e.0) refl is))

  removed_at : (q k : List ℕ) (es : List (List ℕ × V)) → Rising es → lookup (bytes_eq q) (remove_entry (is_at (order k)) es) ≡ cond (bytes_eq q k) None (lookup (bytes_eq q) es)
  removed_at q k [] up = either_way (bytes_eq q k) None
  removed_at q k (e ∷ es) up = removed_by q k e es (is_eq (order k e.0)) refl up.0 (removed_at q k es up.1)

-- ---- what is held behind some pairs

abbrev Held : Type 0
Held = PairsSoFar (List ℕ) (List ℕ)

-- whether a key with this last value is spoiled
abbrev spoiled_of : Option (List ℕ) → Option (Unit {0})
spoiled_of None = None
spoiled_of (Some text) = if is_utf8 text then None else Some tt

-- the last values of keys, as they are held
record Fits (so : Held) (last : List ℕ → Option (List ℕ)) : Type 0 where
  pub rising : Rising so.spoiled
  pub spoiled : (q : List ℕ) → lookup (bytes_eq q) so.spoiled ≡ spoiled_of (last q)
  pub pairs : (q : List ℕ) → lookup (bytes_eq q) so.spoiled ≡ None → lookup (bytes_eq q) so.pairs ≡ last q

abbrev behind : List ℕ → List ℕ → (List ℕ → Option (List ℕ)) → List ℕ → Option (List ℕ)
behind k v last q = if bytes_eq q k then Some v else last q

good_spoils : (b : Bool) (v : List ℕ) (last : Option (List ℕ)) → is_utf8 v ≡ true → cond b None (spoiled_of last) ≡ spoiled_of (cond b (Some v) last)
good_spoils true v last is = rw is refl
good_spoils false v last is = refl

bad_spoils : (b : Bool) (v : List ℕ) (last : Option (List ℕ)) → is_utf8 v ≡ false → cond b (Some tt) (spoiled_of last) ≡ spoiled_of (cond b (Some v) last)
bad_spoils true v last is = rw is refl
bad_spoils false v last is = refl

good_pairs : (b : Bool) (v : List ℕ) (spoiled : Option (Unit {0})) (held last : Option (List ℕ)) → (spoiled ≡ None → held ≡ last) → cond b None spoiled ≡ None → cond b (Some v) held ≡ cond b (Some v) last
good_pairs true v spoiled held last h e = refl
good_pairs false v spoiled held last h e = h e

bad_pairs : (b : Bool) (v : List ℕ) (spoiled : Option (Unit {0})) (held last : Option (List ℕ)) → (spoiled ≡ None → held ≡ last) → cond b (Some tt) spoiled ≡ None → held ≡ cond b (Some v) last
bad_pairs true v spoiled held last h e = absurd (none_some tt (Some tt) e refl)
bad_pairs false v spoiled held last h e = h e

put_good : (so : Held) (last : List ℕ → Option (List ℕ)) (k v : List ℕ) → is_utf8 v ≡ true → Fits so last → Fits (put_value order so k (Is v)) (behind k v last)
put_good so last k v is h = record {
  rising = rising_rest k so.spoiled h.rising;
  spoiled = λ q. removed_at q k so.spoiled h.rising ∙ ap (λ (o : Option (Unit {0})). cond (bytes_eq q k) None o) (h.spoiled q) ∙ good_spoils (bytes_eq q k) v (last q) is;
  pairs = λ q e. put_at q k v so.pairs ∙ good_pairs (bytes_eq q k) v (lookup (bytes_eq q) so.spoiled) (lookup (bytes_eq q) so.pairs) (last q) (h.pairs q) (sym (removed_at q k so.spoiled h.rising) ∙ e);
}

put_bad : (so : Held) (last : List ℕ → Option (List ℕ)) (k v : List ℕ) → is_utf8 v ≡ false → Fits so last → Fits (put_value order so k BadText) (behind k v last)
put_bad so last k v is h = record {
  rising = rising_put k tt so.spoiled h.rising;
  spoiled = λ q. put_at q k tt so.spoiled ∙ ap (λ (o : Option (Unit {0})). cond (bytes_eq q k) (Some tt) o) (h.spoiled q) ∙ bad_spoils (bytes_eq q k) v (last q) is;
  pairs = λ q e. bad_pairs (bytes_eq q k) v (lookup (bytes_eq q) so.spoiled) (lookup (bytes_eq q) so.pairs) (last q) (h.pairs q) (sym (put_at q k tt so.spoiled) ∙ e);
}

-- ---- pairs one behind the other

abbrev step : Option Held → Wire → Wire → Option Held
step so k w = with_pair order so (typed 11 text_of 11 k) (typed 11 text_of 11 w)

-- a bad key makes a bad map, whatever follows
none_more : (key : Got (List ℕ)) (value : Got (List ℕ)) → with_pair {V = List ℕ} order None key value ≡ None
none_more Nothing value = refl
none_more BadText Nothing = refl
none_more BadText BadText = refl
none_more BadText (Is v) = refl
none_more (Is k) value = refl

none_stays : (ps : Entries) → fold_entries step None ps ≡ None
none_stays NoEntries = refl
none_stays (Entry k w ps) = ap (λ (so : Option Held). fold_entries step so ps) (none_more (typed 11 text_of 11 k) (typed 11 text_of 11 w)) ∙ none_stays ps

abbrev Read : Held → (List ℕ → Option (List ℕ)) → Entries → Type 0
Read so last ps =
    (HasBadKey ps × (fold_entries step (Some so) ps ≡ None))
    ⊎ ((end : Held) × (fold_entries step (Some so) ps ≡ Some end) × (HasBadKey ps → ⊥) × Fits end (λ q. last_text q (last q) ps))

bad_key : (so : Held) (last : List ℕ → Option (List ℕ)) (k v : List ℕ) (ps : Entries) → is_utf8 k ≡ false → (b : Bool) → is_utf8 v ≡ b → Read so last (Entry (Bytes k) (Bytes v) ps)
bad_key so last k v ps is true e =
    let none : step (Some so) (Bytes k) (Bytes v) ≡ None = rw (is, e) refl in
    inl (inl (λ u. both_ways (is_utf8 k) is (is_utf8-from_IsUtf8 k u)), ap (λ (o : Option Held). fold_entries step o ps) none ∙ none_stays ps)
bad_key so last k v ps is false e =
    let none : step (Some so) (Bytes k) (Bytes v) ≡ None = rw (is, e) refl in
    inl (inl (λ u. both_ways (is_utf8 k) is (is_utf8-from_IsUtf8 k u)), ap (λ (o : Option Held). fold_entries step o ps) none ∙ none_stays ps)

no_bad_key : (k v : List ℕ) (ps : Entries) → IsUtf8 k → (HasBadKey ps → ⊥) → HasBadKey (Entry (Bytes k) (Bytes v) ps) → ⊥
no_bad_key k v ps is none (inl h) = h is
no_bad_key k v ps is none (inr h) = none h

-- behind a pair that was put
pair_put : (so next : Held) (last : List ℕ → Option (List ℕ)) (k v : List ℕ) (ps : Entries) → IsUtf8 k → step (Some so) (Bytes k) (Bytes v) ≡ Some next → Read next (behind k v last) ps → Read so last (Entry (Bytes k) (Bytes v) ps)
pair_put so next last k v ps is put (inl r) = inl (inr r.0, ap (λ (o : Option Held). fold_entries step o ps) put ∙ r.1)
pair_put so next last k v ps is put (inr r) = inr (r.0, ap (λ (o : Option Held). fold_entries step o ps) put ∙ r.1, no_bad_key k v ps is r.2, r.3)

pair_read : (so : Held) (last : List ℕ → Option (List ℕ)) (k v : List ℕ) (ps : Entries) → Fits so last → ((next : Held) (now : List ℕ → Option (List ℕ)) → Fits next now → Read next now ps) → (a b : Bool) → is_utf8 k ≡ a → is_utf8 v ≡ b → Read so last (Entry (Bytes k) (Bytes v) ps)
pair_read so last k v ps h others false b is e = bad_key so last k v ps is b e
pair_read so last k v ps h others true true is e =
    let put : step (Some so) (Bytes k) (Bytes v) ≡ Some (put_value order so k (Is v)) = rw (is, e) refl in
    pair_put so (put_value order so k (Is v)) last k v ps (IsUtf8-from_is_utf8 k is) put (others (put_value order so k (Is v)) (behind k v last) (put_good so last k v e h))
pair_read so last k v ps h others true false is e =
    let put : step (Some so) (Bytes k) (Bytes v) ≡ Some (put_value order so k BadText) = rw (is, e) refl in
    pair_put so (put_value order so k BadText) last k v ps (IsUtf8-from_is_utf8 k is) put (others (put_value order so k BadText) (behind k v last) (put_bad so last k v e h))

-- a text is its bytes
text_in : (w : Wire) → IsTextBytes w → (t : List ℕ) × (w ≡ Bytes t)
text_in (Bytes t) is = (t, refl)
text_in (Flag x) is = absurd is
text_in (Number n) is = absurd is
text_in (Eight bytes) is = absurd is
text_in (Struct v) is = absurd is
text_in (Items of es) is = absurd is
text_in (Pairs key value ps) is = absurd is

texts_read : (ps : Entries) → AreTextBytes ps → (so : Held) (last : List ℕ → Option (List ℕ)) → Fits so last → Read so last ps
texts_read NoEntries all so last h = inr (so, refl, (λ none. none), h)
texts_read (Entry key value ps) all so last h =
    let k = text_in key all.0 in
    let v = text_in value all.1 in
    subst (λ (x : Wire). Read so last (Entry x value ps)) (sym k.1) (subst (λ (y : Wire). Read so last (Entry (Bytes k.0) y ps)) (sym v.1)
    (pair_read so last k.0 v.0 ps h (texts_read ps all.2) (is_utf8 k.0) (is_utf8 v.0) refl refl))

-- ---- whole maps

abbrev nothing_held : Held
nothing_held = record { pairs = []; spoiled = [] }

nothing_fits : Fits nothing_held (λ _. None)
nothing_fits = record { rising = tt; spoiled = λ q. refl; pairs = λ q e. refl }

either : {A : Type 0} (b : Bool) (x y : A) → (if b || true then x else y) ≡ x
either true x y = refl
either false x y = refl

made : (ps : Entries) → params_of (Pairs 11 11 ps) ≡ all_pairs (fold_entries step (Some nothing_held) ps)
made ps = either (entries_count ps == 0) (all_pairs (fold_entries step (Some nothing_held) ps)) Nothing

abbrev pairs_in : Got (List (List ℕ × List ℕ)) → List (List ℕ × List ℕ)
pairs_in (Is pairs) = pairs
pairs_in other = []

bad_or_said : (g : Got (List (List ℕ × List ℕ))) (params : List (List ℕ × List ℕ)) → g ≡ BadText → g ≡ Is params → ⊥
bad_or_said Nothing params p q = cc
bad_or_said BadText params p q = cc
bad_or_said (Is pairs) params p q = cc

-- a key that is spoiled has a bad text as its last value
spoiled_bad : (last : Option (List ℕ)) → spoiled_of last ≡ Some tt → (text : List ℕ) × (last ≡ Some text) × (IsUtf8 text → ⊥)
spoiled_bad None e = absurd (none_some tt (spoiled_of None) refl e)
spoiled_bad (Some text) e = (text, refl, (λ u. none_some tt (spoiled_of (Some text)) (rw (is_utf8-from_IsUtf8 text u) refl) e))

abbrev spoiled_if : Bool → Option (Unit {0})
spoiled_if b = if b then None else Some tt

bad_is_spoiled : (text : List ℕ) → (IsUtf8 text → ⊥) → (b : Bool) → is_utf8 text ≡ b → spoiled_if b ≡ Some tt
bad_is_spoiled text none true is = absurd (none (IsUtf8-from_is_utf8 text is))
bad_is_spoiled text none false is = refl

module _ (ps : Entries) where
  abbrev last_of : List ℕ → Option (List ℕ)
  last_of q = last_text q None ps

  -- what a map says, from the pairs and the spoiled keys that are held
  abbrev said : List (List ℕ × List ℕ) → List (List ℕ × Unit {0}) → Got (List (List ℕ × List ℕ))
  said pairs spoiled = if length spoiled == 0 then Is pairs else BadText

  some_spoiled : (pairs : List (List ℕ × List ℕ)) (x : List ℕ × Unit {0}) (xs : List (List ℕ × Unit {0})) → said pairs (x ∷ xs) ≡ BadText
  some_spoiled pairs x xs = ap (λ (b : Bool). if b then Is pairs else BadText) (ne_eqb (length (x ∷ xs)) 0 (λ e. absurd (omega (arith, e))))

  value_told : (pairs : List (List ℕ × List ℕ)) (spoiled : List (List ℕ × Unit {0})) → ((q : List ℕ) → lookup (bytes_eq q) spoiled ≡ spoiled_of (last_of q)) → said pairs spoiled ≡ BadText → HasBadValue ps
  value_told pairs [] h e = absurd cc
  value_told pairs (x ∷ xs) h e =
      let at_x : bytes_eq x.0 x.0 ≡ true = (bytes_eq-Decides x.0 x.0).1 refl in
      let found : lookup (bytes_eq x.0) (x ∷ xs) ≡ Some x.1 = rw at_x refl in
      let b = spoiled_bad (last_of x.0) (sym (h x.0) ∙ found) in
      (x.0, b.0, b.1, b.2)

  value_tells : (pairs : List (List ℕ × List ℕ)) (spoiled : List (List ℕ × Unit {0})) → ((q : List ℕ) → lookup (bytes_eq q) spoiled ≡ spoiled_of (last_of q)) → HasBadValue ps → said pairs spoiled ≡ BadText
  value_tells pairs [] h v =
      absurd (none_some tt (spoiled_of (last_of v.0)) (sym (h v.0)) (ap spoiled_of v.2 ∙ bad_is_spoiled v.1 v.3 (is_utf8 v.1) refl))
  value_tells pairs (x ∷ xs) h v = some_spoiled pairs x xs

  bad_told : Read nothing_held (λ _. None) ps → params_of (Pairs 11 11 ps) ≡ BadText → HasBadKey ps ⊎ HasBadValue ps
  bad_told (inl r) e = inl r.0
  bad_told (inr r) e = let end = r.0 in let f = r.3 in inr (value_told end.pairs end.spoiled f.spoiled (sym (ap all_pairs r.1) ∙ sym (made ps) ∙ e))

  bad_tells : Read nothing_held (λ _. None) ps → HasBadKey ps ⊎ HasBadValue ps → params_of (Pairs 11 11 ps) ≡ BadText
  bad_tells (inl r) bad = made ps ∙ ap all_pairs r.1
  bad_tells (inr r) (inl bad) = absurd (r.2 bad)
  bad_tells (inr r) (inr bad) = let end = r.0 in let f = r.3 in made ps ∙ ap all_pairs r.1 ∙ value_tells end.pairs end.spoiled f.spoiled bad

  held_is : (pairs params : List (List ℕ × List ℕ)) (spoiled : List (List ℕ × Unit {0})) → said pairs spoiled ≡ Is params → (spoiled ≡ []) × (pairs ≡ params)
  held_is pairs params [] e = (refl, ap pairs_in e)
  held_is pairs params (x ∷ xs) e = absurd (bad_or_said (said pairs (x ∷ xs)) params (some_spoiled pairs x xs) e)

  last_told : Read nothing_held (λ _. None) ps → (params : List (List ℕ × List ℕ)) (key : List ℕ) → params_of (Pairs 11 11 ps) ≡ Is params → lookup (bytes_eq key) params ≡ last_of key
  last_told (inl r) params key e = absurd (bad_or_said (params_of (Pairs 11 11 ps)) params (made ps ∙ ap all_pairs r.1) e)
  last_told (inr r) params key e =
      let end = r.0 in
      let h = held_is end.pairs params end.spoiled (sym (ap all_pairs r.1) ∙ sym (made ps) ∙ e) in
      let f = r.3 in
      ap (λ (l : List (List ℕ × List ℕ)). lookup (bytes_eq key) l) (sym h.1) ∙ f.pairs key (ap (λ (l : List (List ℕ × Unit {0})). lookup (bytes_eq key) l) h.0)

pub last_pair_counts : LastPairCounts
last_pair_counts ps params key all is = last_told ps (texts_read ps all nothing_held (λ _. None) nothing_fits) params key is

pub bad_maps_are_told : BadMapsAreTold
bad_maps_are_told ps all =
    let r = texts_read ps all nothing_held (λ _. None) nothing_fits in
    (bad_told ps r, bad_tells ps r)
