-- Keys that rise.
use Rattle.std.proofs.Common.{◌≡◌, ℕ, suc, ◌-◌, ◌+◌, ◌≤◌, ◌<◌, true, cond, List, [], ◌∷◌, ◌++◌, length, Option, Some, None, Ok, Err, refl, sym, ap, subst, ◌∙◌, append_assoc, arith, slice_get}
use Rattle.std.proofs.lemmas.List.{append-nil}
use Rattle.std.specs.BTreeMap.{insert_entry}
use Rattle.std.specs.Cmp.{IsTotalOrder}
use Rattle.std.specs.List.{AllByRecursion}
use Rattle.std.specs.List.Sorted.{IsStrictlySortedBy}
use Rattle.std.specs.Map.{keys_of}
use Rattle.std.specs.Ordering.{is_lt, ordering_reverse}
use Rattle.std.specs.declared.cmp.Ordering.{Ordering}
use Rattle.std.specs.declared.cmp.Ordering.TheVariants.{Less, Equal, Greater}
use Rattle.change_codec.specs.declared.fault.Stop.{Stop}
use Rattle.change_codec.specs.declared.fault.Stop.TheVariants as stop
use Rattle.change_codec.specs.Forms.{Reading, ◌>>=◌, last_key, pairs_read, rises, rising_read}
use Rattle.change_codec.specs.Whole.{StopsAs}
use Rattle.change_codec.proofs.Bind.{let_ok, bind_ok}
use Rattle.change_codec.proofs.Loops.{with_front}

pub less : (o : Ordering) → is_lt o ≡ true → o ≡ Less
less Less e = refl
less Equal e = absurd cc
less Greater e = absurd cc

-- the last key, by its place
pub last_at : {K V : Type 0} (pairs : List (K × V)) → slice_get (keys_of pairs) (length pairs - 1) ≡ last_key pairs
last_at [] = refl
last_at (p ∷ []) = refl
last_at (p ∷ q ∷ pairs) =
    let k : length (p ∷ q ∷ pairs) - 1 ≡ suc (length (q ∷ pairs) - 1) = omega arith in
    rw k (last_at (q ∷ pairs))

pub last_push : {K V : Type 0} (pairs : List (K × V)) (key : K) (value : V) → last_key (pairs ++ (key, value) ∷ []) ≡ Some key
last_push [] key value = refl
last_push (p ∷ []) key value = refl
last_push (p ∷ q ∷ pairs) key value = last_push (q ∷ pairs) key value

module _ {K V : Type 0} (cmp : K → K → Ordering) (laws : IsTotalOrder cmp) where
  -- all keys are below this one
  abbrev pub Below : List (K × V) → K → Type 0
  Below pairs key = AllByRecursion (λ y. cmp y key ≡ Less) (keys_of pairs)

  pub all_below : (pairs : List (K × V)) (key : K) → IsStrictlySortedBy cmp (keys_of pairs) → rises cmp (last_key pairs) key ≡ true → Below pairs key
  unfolding IsStrictlySortedBy
  all_below [] key sorted up = tt
  all_below (p ∷ []) key sorted up = (less (cmp p.0 key) up, tt)
  all_below (p ∷ q ∷ pairs) key sorted up =
      let rest = all_below (q ∷ pairs) key sorted.1 up in
      (laws.trans p.0 q.0 key sorted.0.0 rest.0, rest)

  pub put_last : (pairs : List (K × V)) (key : K) (value : V) → Below pairs key → insert_entry cmp pairs key value ≡ pairs ++ (key, value) ∷ []
  put_last [] key value below = refl
  put_last (p ∷ pairs) key value below =
      let above : cmp key p.0 ≡ ordering_reverse Less = laws.antisymm key p.0 ∙ ap ordering_reverse below.0 in
      rw above (ap (λ (xs : List (K × V)). p ∷ xs) (put_last pairs key value below.1))

  all_push : (P : K → Type 0) (pairs : List (K × V)) (key : K) (value : V) → AllByRecursion P (keys_of pairs) → P key → AllByRecursion P (keys_of (pairs ++ (key, value) ∷ []))
  all_push P [] key value all one = (one, tt)
  all_push P (p ∷ pairs) key value all one = (all.0, all_push P pairs key value all.1 one)

  pub sorted_push : (pairs : List (K × V)) (key : K) (value : V) → IsStrictlySortedBy cmp (keys_of pairs) → Below pairs key → IsStrictlySortedBy cmp (keys_of (pairs ++ (key, value) ∷ []))
  unfolding IsStrictlySortedBy
  sorted_push [] key value sorted below = (tt, tt)
  sorted_push (p ∷ pairs) key value sorted below = (all_push (λ y. cmp p.0 y ≡ Less) pairs key value sorted.0 below.0, sorted_push pairs key value sorted.1 below.1)

  module _ (key_read : List ℕ → Reading K) (value_read : List ℕ → Reading V) where
    -- what a loop keeps: the pairs so far, with rising keys, and what is still read
    pub record SoFar (count i : ℕ) (pairs : List (K × V)) (rest bytes : List ℕ) : Type 0 where
      pub sorted : IsStrictlySortedBy cmp (keys_of pairs)
      pub is : with_front pairs (pairs_read cmp key_read value_read (count - i) (last_key pairs) rest) ≡ pairs_read cmp key_read value_read count None bytes

    regroup : (front : List (K × V)) (x : K × V) (read : Reading (List (K × V))) → with_front front (read >>= λ o. Ok (x ∷ o.0, o.1)) ≡ with_front (front ++ x ∷ []) read
    regroup front x (Ok o) = ap (λ (xs : List (K × V)). Ok (xs, o.1)) (sym (append_assoc front (x ∷ []) o.0))
    regroup front x (Err n) = refl

    pub begins : (count : ℕ) (bytes : List ℕ) → SoFar count 0 [] bytes bytes
    unfolding IsStrictlySortedBy
    begins count bytes =
        let k : count - 0 ≡ count = omega arith in
        record { sorted = tt; is = rw k (same (pairs_read cmp key_read value_read count None bytes)) }
      where
        same : (r : Reading (List (K × V))) → with_front [] r ≡ r
        same (Ok o) = refl
        same (Err n) = refl

    rising_up : (before : Option K) (rest : List ℕ) (key : K) (middle : List ℕ) → rising_read cmp key_read before rest ≡ Ok (key, middle) → rises cmp before key ≡ true
    unfolding rising_read
    rising_up before rest key middle e =
        let b = bind_ok (key_read rest) (λ x. cond (rises cmp before x.0) (Ok x) (Err (length rest))) (key, middle) e in
        let l = let_ok (rises cmp before b.0.0) (length rest) b.0 (key, middle) b.2 in
        subst (λ (x : K × List ℕ). rises cmp before x.0 ≡ true) l.1 l.0

    pub one_more : (count i : ℕ) (pairs next : List (K × V)) (rest middle after bytes : List ℕ) (key : K) (value : V) → i < count
        → rising_read cmp key_read (last_key pairs) rest ≡ Ok (key, middle) → value_read middle ≡ Ok (value, after) → next ≡ insert_entry cmp pairs key value
        → SoFar count i pairs rest bytes → SoFar count (i + 1) next after bytes
    unfolding pairs_read
    one_more count i pairs next rest middle after bytes key value lt is_key is_value put so_far =
        let up = rising_up (last_key pairs) rest key middle is_key in
        let below = all_below pairs key so_far.sorted up in
        let grown : next ≡ pairs ++ (key, value) ∷ [] = put ∙ put_last pairs key value below in
        let k : count - i ≡ suc (count - (i + 1)) = omega arith in
        let left = pairs_read cmp key_read value_read (count - (i + 1)) (Some key) after in
        let one : with_front pairs (pairs_read cmp key_read value_read (count - i) (last_key pairs) rest) ≡ with_front (pairs ++ (key, value) ∷ []) left = rw (k, is_key, is_value) (regroup pairs (key, value) left) in
        let whole : with_front (pairs ++ (key, value) ∷ []) (pairs_read cmp key_read value_read (count - (i + 1)) (last_key (pairs ++ (key, value) ∷ [])) after) ≡ pairs_read cmp key_read value_read count None bytes =
        ap (λ (b : Option K). with_front (pairs ++ (key, value) ∷ []) (pairs_read cmp key_read value_read (count - (i + 1)) b after)) (last_push pairs key value) ∙ sym one ∙ so_far.is in
        record {
          sorted = subst (λ (es : List (K × V)). IsStrictlySortedBy cmp (keys_of es)) (sym grown) (sorted_push pairs key value so_far.sorted below);
          is = subst (λ (es : List (K × V)). with_front es (pairs_read cmp key_read value_read (count - (i + 1)) (last_key es) after) ≡ pairs_read cmp key_read value_read count None bytes) (sym grown) whole;
        }

    pub stops_at_key : (s : Stop) (count i : ℕ) (pairs : List (K × V)) (rest bytes : List ℕ) → i < count → StopsAs s (rising_read cmp key_read (last_key pairs) rest)
        → SoFar count i pairs rest bytes → StopsAs s (pairs_read cmp key_read value_read count None bytes)
    unfolding pairs_read
    stops_at_key stop.NoMemory count i pairs rest bytes lt h so_far = tt
    stops_at_key (stop.Left n) count i pairs rest bytes lt h so_far =
        let k : count - i ≡ suc (count - (i + 1)) = omega arith in
        let one : with_front pairs (pairs_read cmp key_read value_read (count - i) (last_key pairs) rest) ≡ Err n = rw (k, h) refl in
        sym so_far.is ∙ one

    pub stops_at_value : (s : Stop) (count i : ℕ) (pairs : List (K × V)) (rest middle bytes : List ℕ) (key : K) → i < count → rising_read cmp key_read (last_key pairs) rest ≡ Ok (key, middle) → StopsAs s (value_read middle)
        → SoFar count i pairs rest bytes → StopsAs s (pairs_read cmp key_read value_read count None bytes)
    unfolding pairs_read
    stops_at_value stop.NoMemory count i pairs rest middle bytes key lt is_key h so_far = tt
    stops_at_value (stop.Left n) count i pairs rest middle bytes key lt is_key h so_far =
        let k : count - i ≡ suc (count - (i + 1)) = omega arith in
        let one : with_front pairs (pairs_read cmp key_read value_read (count - i) (last_key pairs) rest) ≡ Err n = rw (k, is_key, h) refl in
        sym so_far.is ∙ one

    pub is_done : (count i : ℕ) (pairs : List (K × V)) (rest bytes : List ℕ) → count ≤ i → SoFar count i pairs rest bytes → pairs_read cmp key_read value_read count None bytes ≡ Ok (pairs, rest)
    unfolding pairs_read
    is_done count i pairs rest bytes le so_far =
        let k : count - i ≡ 0 = omega arith in
        let one : with_front pairs (pairs_read cmp key_read value_read (count - i) (last_key pairs) rest) ≡ Ok (pairs, rest) = rw k (ap (λ (xs : List (K × V)). Ok (xs, rest)) (append-nil pairs)) in
        sym so_far.is ∙ one
