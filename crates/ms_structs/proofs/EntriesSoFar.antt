-- The pairs of a map, one behind another.
use Rattle.std.proofs.Common.{◌≡◌, ◌==◌, ◌||◌, ◌&&◌, if◌then◌else◌, Bool, ℕ, ◌-◌, ◌<◌, ◌≤◌, List, [], ◌++◌, length, Option, Some, None, refl, sym, ap, ◌∙◌, subst, arith, inl, inr, zero, suc, append_assoc, append-nil}
use Rattle.thrift_binary.specs.declared.fault.WireFault.{WireFault}
use Rattle.thrift_binary.specs.declared.progress.Progress.{Progress}
use Rattle.thrift_binary.specs.Taking.{Stop, moved, Took, closed}
use Rattle.thrift_binary.specs.Tree.{Wire, Pairs, Entries, NoEntries, Entry, entries_count}
use Rattle.thrift_binary.specs.Wire.{IsCode, IsElementType, IsWire, IsMapHead, StopsMapHead, AreEntries, StopsWire, StopsEntries, StopsMapBy}
use Rattle.std.specs.declared.cmp.Ordering.{Ordering}
use Rattle.ms_structs.specs.declared.got.Got.{Got}
use Rattle.ms_structs.specs.declared.got.Got.TheVariants.{Nothing}
use Rattle.ms_structs.specs.declared.pairs.PairsSoFar.{PairsSoFar}
use Rattle.ms_structs.specs.Getting.{Begun}
use Rattle.ms_structs.specs.Slots.{typed}
use Rattle.ms_structs.specs.Values.{all_pairs, no_pairs, pairs_of, with_pair, fold_entries, IsPairOf, StopsPairOf}
use Rattle.thrift_binary.proofs.Reading.{Faulted, Took-then, Took-room, took_nothing}
use Rattle.ms_structs.proofs.Getting.{Fails, fails_as, fails_behind, Opened, opened-room, nested_fault, nested_stop, nested_took}
use Rattle.ms_structs.proofs.Beginning.{all_or_fewer, empty_stops, type_code}

-- some pairs, and one more
abbrev pub push_entry : Entries → Wire → Wire → Entries
push_entry NoEntries k w = Entry k w NoEntries
push_entry (Entry i u ps) k w = Entry i u (push_entry ps k w)

pub fold_push_entry : {A : Type 0} (add : A → Wire → Wire → A) (a : A) (ps : Entries) (k w : Wire) → fold_entries add a (push_entry ps k w) ≡ add (fold_entries add a ps) k w
fold_push_entry add a NoEntries k w = refl
fold_push_entry add a (Entry i u ps) k w = fold_push_entry add (add a i u) ps k w

count_push_entry : (ps : Entries) (k w : Wire) → entries_count (push_entry ps k w) ≡ suc (entries_count ps)
count_push_entry NoEntries k w = refl
count_push_entry (Entry i u ps) k w = ap suc (count_push_entry ps k w)

pushed_entry : (ps : Entries) (depth key value : ℕ) (k w : Wire) (front first second : List ℕ) → AreEntries ps depth key value front → IsWire k depth key first → IsWire w depth value second → AreEntries (push_entry ps k w) depth key value (front ++ (first ++ second))
pushed_entry NoEntries depth key value k w front first second none is means = (first, second, [], rw (none, append-nil) refl, is, means, refl)
pushed_entry (Entry i u ps) depth key value k w front first second h is means =
    (h.0, h.1, h.2 ++ (first ++ second), ap (λ x. x ++ (first ++ second)) h.3 ∙ append_assoc h.0 (h.1 ++ h.2) (first ++ second) ∙ ap (λ x. h.0 ++ x) (append_assoc h.1 h.2 (first ++ second)), h.4, h.5, pushed_entry ps depth key value k w h.2 first second h.6 is means)

-- so many pairs
abbrev pub SoManyPairs : ℕ → ℕ → ℕ → ℕ → Entries → List ℕ → Type 0
SoManyPairs depth key value count ps bytes = AreEntries ps depth key value bytes × (entries_count ps ≡ count)

-- a key and its value
abbrev pub OnePair : ℕ → ℕ → ℕ → Wire × Wire → List ℕ → Type 0
OnePair depth key value pair = IsPairOf depth key value pair.0 pair.1

-- so many pairs of which something holds
abbrev pub SomeEntries : ℕ → ℕ → ℕ → ℕ → (Entries → Type 0) → List ℕ → Type 0
SomeEntries depth key value count So bytes = (ps : Entries) × SoManyPairs depth key value count ps bytes × So ps

pub entries_none : (a : Option (List ℕ)) (p : Progress) (key value : ℕ) (So : Entries → Type 0) → p.fault ≡ None → p.place ≤ p.limit → So NoEntries → Took a a p p (SomeEntries p.room key value 0 So)
entries_none a p key value So unspent within h = took_nothing a p (SomeEntries p.room key value 0 So) unspent within (NoEntries, (refl, refl), h)

-- so many, and one more
one_more : (depth key value n m : ℕ) (ps : Entries) (k w : Wire) (front rest : List ℕ) → m ≡ suc n → SoManyPairs depth key value n ps front → IsPairOf depth key value k w rest → SoManyPairs depth key value m (push_entry ps k w) (front ++ rest)
one_more depth key value n m ps k w front rest next are is =
    (subst (λ bytes. AreEntries (push_entry ps k w) depth key value (front ++ bytes)) (sym is.2) (pushed_entry ps depth key value k w front is.0 is.1 are.0 is.3 is.4), count_push_entry ps k w ∙ ap suc are.1 ∙ sym next)

pub entries_more : (a b c : Option (List ℕ)) (p q r : Progress) (key value n m : ℕ) (So So' : Entries → Type 0) (Says : Wire × Wire → Type 0) → m ≡ suc n → ((ps : Entries) (k w : Wire) → So ps → Says (k, w) → So' (push_entry ps k w)) → Took a b p q (SomeEntries p.room key value n So) → Took b c q r (λ bytes. (pair : Wire × Wire) × OnePair q.room key value pair bytes × Says pair) → Took a c p r (SomeEntries p.room key value m So')
entries_more a b c p q r key value n m So So' Says next more before pair =
    let inside : Took b c q r (λ bytes. (pair : Wire × Wire) × OnePair p.room key value pair bytes × Says pair) = subst (λ d. Took b c q r (λ bytes. (pair : Wire × Wire) × OnePair d key value pair bytes × Says pair)) (Took-room a b p q _ before) pair in
    Took-then a b c p q r (SomeEntries p.room key value n So) _ (SomeEntries p.room key value m So') (λ front rest x y. (push_entry x.0 y.0.0 y.0.1, one_more p.room key value n m x.0 y.0.0 y.0.1 front rest next x.1 y.1, more x.0 y.0.0 y.0.1 x.2 y.2)) before inside

-- so many pairs, of those that were counted, begin them: they are all, or more are to come
pub entries_begun : (depth key value n count : ℕ) (ps : Entries) (bytes : List ℕ) → IsElementType count key → n ≤ count → SoManyPairs depth key value n ps bytes → Begun (SoManyPairs depth key value count) (StopsEntries depth key value count) bytes
entries_begun depth key value n count ps bytes code fits are =
    elim (all_or_fewer n count fits) [
      | inl all ↦ inr (ps, (are.0, are.1 ∙ all))
      | inr less ↦ let next = empty_stops depth key (type_code n count key less code) in inl (moved (length bytes) next.0, (ps, bytes, [], next.0, sym (append-nil bytes), are.0, subst (λ k. k < count) (sym are.1) less, refl, inl next.1))
    ]

-- memory was refused behind some pairs
pub some_begun : (depth key value n count : ℕ) (So : Entries → Type 0) → IsElementType count key → n ≤ count → (bytes : List ℕ) → SomeEntries depth key value n So bytes → Begun (SoManyPairs depth key value count) (StopsEntries depth key value count) bytes
some_begun depth key value n count So code fits bytes h = entries_begun depth key value n count h.0 bytes code fits h.1

-- a fault of a pair is one of all of them
pub entries_stop : (a b c : Option (List ℕ)) (p q r : Progress) (key value n count : ℕ) (So : Entries → Type 0) (e : WireFault) → IsElementType count key → n < count → Took a b p q (SomeEntries p.room key value n So) → Fails b c q r e (OnePair q.room key value) (StopsPairOf q.room key value) → Fails a c p r e (SoManyPairs p.room key value count) (StopsEntries p.room key value count)
entries_stop a b c p q r key value n count So e code less before stop =
    let inside : Fails b c q r e (OnePair p.room key value) (StopsPairOf p.room key value) = subst (λ d. Fails b c q r e (OnePair d key value) (StopsPairOf d key value)) (Took-room a b p q _ before) stop in
    fails_behind a b c p q r e (SomeEntries p.room key value n So) (OnePair p.room key value) (StopsPairOf p.room key value) (SoManyPairs p.room key value count) (StopsEntries p.room key value count) (λ front rest s x y. (x.0, front, rest, s, refl, x.1.0, subst (λ k. k < count) (sym x.1.1) less, refl, y))
    (λ front rest pair x y. entries_begun p.room key value (suc n) count (push_entry x.0 pair.0 pair.1) (front ++ rest) code less (one_more p.room key value n (suc n) x.0 pair.0 pair.1 front rest refl x.1 y))
    before inside

-- ---- one of them

-- a key without its value
key_begun : (depth key value : ℕ) (k : Wire) (bytes : List ℕ) → IsCode value → IsWire k depth key bytes → Begun (OnePair depth key value) (StopsPairOf depth key value) bytes
key_begun depth key value k bytes code is = let next = empty_stops depth value code in inl (moved (length bytes) next.0, inr (k, bytes, [], next.0, sym (append-nil bytes), is, refl, next.1))

-- a fault of the key is a fault of the pair; where the key was taken whole its value is still to come
pub pair_stop_key : (a b : Option (List ℕ)) (p q : Progress) (e : WireFault) (key value : ℕ) → IsCode value → Fails a b p q e (λ k. IsWire k p.room key) (StopsWire p.room key) → Fails a b p q e (OnePair p.room key value) (StopsPairOf p.room key value)
pair_stop_key a b p q e key value code stop = fails_as a b p q e (λ k. IsWire k p.room key) (StopsWire p.room key) (OnePair p.room key value) (StopsPairOf p.room key value) (λ s bytes h. inl h) (λ k bytes h. key_begun p.room key value k bytes code h) stop

-- a fault of the value is a fault of the pair
pub pair_stop : (a b c : Option (List ℕ)) (p q r : Progress) (e : WireFault) (key value : ℕ) (Says : Wire → Type 0) → Took a b p q (λ bytes. (k : Wire) × IsWire k p.room key bytes × Says k) → Fails b c q r e (λ w. IsWire w q.room value) (StopsWire q.room value) → Fails a c p r e (OnePair p.room key value) (StopsPairOf p.room key value)
pair_stop a b c p q r e key value Says before stop =
    let inside : Fails b c q r e (λ w. IsWire w p.room value) (StopsWire p.room value) = subst (λ n. Fails b c q r e (λ w. IsWire w n value) (StopsWire n value)) (Took-room a b p q _ before) stop in
    fails_behind a b c p q r e _ (λ w. IsWire w p.room value) (StopsWire p.room value) (OnePair p.room key value) (StopsPairOf p.room key value) (λ front rest s x y. inr (x.0, front, rest, s, refl, x.1, refl, y)) (λ front rest w x y. inr ((x.0, w), (front, rest, refl, x.1, y))) before inside

pub pair_took : (a b c : Option (List ℕ)) (p q r : Progress) (key value : ℕ) (Says Speaks : Wire → Type 0) → Took a b p q (λ bytes. (k : Wire) × IsWire k p.room key bytes × Says k) → Took b c q r (λ bytes. (w : Wire) × IsWire w q.room value bytes × Speaks w) → Took a c p r (λ bytes. (pair : Wire × Wire) × OnePair p.room key value pair bytes × (Says pair.0 × Speaks pair.1))
pair_took a b c p q r key value Says Speaks first second =
    let inside : Took b c q r (λ bytes. (w : Wire) × IsWire w p.room value bytes × Speaks w) = subst (λ n. Took b c q r (λ bytes. (w : Wire) × IsWire w n value bytes × Speaks w)) (Took-room a b p q _ first) second in
    Took-then a b c p q r _ _ _ (λ front rest x y. ((x.0, y.0), (front, rest, refl, x.1, y.1), (x.2, y.2))) first inside

-- ---- a map of them

wire_map : (depth : ℕ) → 1 ≤ depth → (key value : ℕ) (ps : Entries) (head rest : List ℕ) → IsMapHead key value (entries_count ps) head → AreEntries ps (depth - 1) key value rest → IsWire (Pairs key value ps) depth 13 (head ++ rest)
wire_map zero some key value ps head rest is are = absurd (omega (arith, some))
wire_map (suc d) some key value ps head rest is are = (refl, d, refl, head, rest, refl, is, subst (λ n. AreEntries ps n key value rest) (omega arith) are)

abbrev StopsMap : ℕ → Stop → List ℕ → Type 0
StopsMap depth = StopsMapBy (StopsWire depth) depth

stops_map : (depth : ℕ) → 1 ≤ depth → (s : Stop) (bytes : List ℕ) → StopsMap (depth - 1) s bytes → StopsWire depth 13 s bytes
stops_map zero some s bytes h = absurd (omega (arith, some))
stops_map (suc d) some s bytes h = inr (inr (inr (refl, subst (λ n. StopsMap n s bytes) (omega arith) h)))

-- a fault of the head is a fault of the map
pub map_stop_head : (a b c : Option (List ℕ)) (p q r : Progress) (e : WireFault) → Opened a b p q → Faulted b c q r e StopsMapHead → Fails a c p r e (λ w. IsWire w p.room 13) (StopsWire p.room 13)
map_stop_head a b c p q r e o stop = inl (nested_fault a b c p q r e StopsMapHead (StopsWire p.room 13) (λ s bytes h. stops_map p.room o.2 s bytes (inl h)) o stop)

-- a head, and the pairs that it counts
map_whole : (depth key value count : ℕ) → 1 ≤ depth → (ps : Entries) (head rest : List ℕ) → IsMapHead key value count head → SoManyPairs (depth - 1) key value count ps rest → IsWire (Pairs key value ps) depth 13 (head ++ rest)
map_whole depth key value count some ps head rest is are = wire_map depth some key value ps head rest (subst (λ n. IsMapHead key value n head) (sym are.1) is) are.0

-- a fault among the pairs is a fault of the map
pub map_stop : (a b c d : Option (List ℕ)) (p q r s : Progress) (e : WireFault) (key value count : ℕ) → Opened a b p q → Took b c q r (IsMapHead key value count) → Fails c d r s e (SoManyPairs r.room key value count) (StopsEntries r.room key value count) → Fails a d p s e (λ w. IsWire w p.room 13) (StopsWire p.room 13)
map_stop a b c d p q r s e key value count o head stop =
    let room : r.room ≡ p.room - 1 = Took-room b c q r _ head ∙ opened-room a b p q o in
    let inside : Fails c d r s e (SoManyPairs (p.room - 1) key value count) (StopsEntries (p.room - 1) key value count) = subst (λ n. Fails c d r s e (SoManyPairs n key value count) (StopsEntries n key value count)) room stop in
    let behind : Fails b d q s e (λ w. IsWire w p.room 13) (StopsMap (p.room - 1)) = fails_behind b c d q r s e (IsMapHead key value count) (SoManyPairs (p.room - 1) key value count) (StopsEntries (p.room - 1) key value count) (λ w. IsWire w p.room 13) (StopsMap (p.room - 1)) (λ front rest t x y. inr ((key, value, count), front, rest, t, refl, x, refl, y)) (λ front rest ps x y. inr (Pairs key value ps, map_whole p.room key value count o.2 ps front rest x y)) head inside in
    nested_stop a b d p q s e (λ w. IsWire w p.room 13) (StopsMap (p.room - 1)) (λ w. IsWire w p.room 13) (StopsWire p.room 13) (stops_map p.room o.2) (λ w bytes h. inr (w, h)) o behind

pub map_took : (a b c d d' : Option (List ℕ)) (p q r s s' : Progress) (key value count : ℕ) (So : Entries → Type 0) (Says : Wire → Type 0) → ((ps : Entries) → entries_count ps ≡ count → So ps → Says (Pairs key value ps)) → Opened a b p q → Took b c q r (IsMapHead key value count) → Took c d r s (SomeEntries r.room key value count So) → d' ≡ d → s' ≡ closed s → Took a d' p s' (λ bytes. (w : Wire) × IsWire w p.room 13 bytes × Says w)
map_took a b c d d' p q r s s' key value count So Says says o head took same is =
    let room : r.room ≡ p.room - 1 = Took-room b c q r _ head ∙ opened-room a b p q o in
    let inside = subst (λ n. Took c d r s (SomeEntries n key value count So)) room took in
    let whole = Took-then b c d q r s (IsMapHead key value count) (SomeEntries (p.room - 1) key value count So) (λ bytes. (w : Wire) × IsWire w p.room 13 bytes × Says w) (λ front rest x y. (Pairs key value y.0, map_whole p.room key value count o.2 y.0 front rest x y.1, says y.0 y.1.1 y.2)) head inside in
    nested_took a b d d' p q s s' _ _ (λ bytes h. h) o whole same is

-- ---- what is made of them

pub no_pairs_is : {K V : Type 0} (so : PairsSoFar K V) → so.pairs ≡ [] → so.spoiled ≡ [] → Some so ≡ no_pairs
no_pairs_is so pairs spoiled = rw (pairs, spoiled) refl

pub pair_step : {K V : Type 0} (cmp : K → K → Ordering) (key_of : Wire → Got K) (value_of : Wire → Got V) (ps : Entries) (k w : Wire) (before now : Option (PairsSoFar K V)) (key : Got K) (value : Got V) → now ≡ with_pair cmp before key value → before ≡ fold_entries (λ so x y. with_pair cmp so (key_of x) (value_of y)) no_pairs ps → key ≡ key_of k → value ≡ value_of w → now ≡ fold_entries (λ so x y. with_pair cmp so (key_of x) (value_of y)) no_pairs (push_entry ps k w)
pair_step cmp key_of value_of ps k w before now key value put so is means =
    put ∙ ap (λ x. with_pair cmp x key value) so ∙ ap (λ x. with_pair cmp (fold_entries (λ so x y. with_pair cmp so (key_of x) (value_of y)) no_pairs ps) x value) is
    ∙ ap (λ x. with_pair cmp (fold_entries (λ so x y. with_pair cmp so (key_of x) (value_of y)) no_pairs ps) (key_of k) x) means ∙ sym (fold_push_entry (λ so x y. with_pair cmp so (key_of x) (value_of y)) no_pairs ps k w)

-- what is made of so many pairs is what the map says
pub pairs_judged : {K V : Type 0} (cmp : K → K → Ordering) (key : ℕ) (key_means : Wire → Got K) (value : ℕ) (value_means : Wire → Got V) (key_type value_type count : ℕ) (ps : Entries) (pairs : Option (PairsSoFar K V)) (wanted_key wanted_value : ℕ) (fits : Bool) (result : Got (List (K × V))) → entries_count ps ≡ count → pairs ≡ fold_entries (λ so k w. with_pair cmp so (typed key key_means key_type k) (typed value value_means value_type w)) no_pairs ps → fits ≡ ((count == 0) || ((key_type == wanted_key) && (value_type == wanted_value))) → wanted_key ≡ key → wanted_value ≡ value → result ≡ (if fits then all_pairs pairs else Nothing) → result ≡ pairs_of cmp key key_means value value_means (Pairs key_type value_type ps)
pairs_judged cmp key key_means value value_means key_type value_type count ps pairs wanted_key wanted_value fits result counted so fit is means e = rw (e, fit, is, means, so, ← counted) refl
