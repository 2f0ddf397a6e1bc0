-- Reading elements one after the other, as a loop does, from offset to offset.
use Rattle.std.proofs.Common.{◌≡◌, ℕ, zero, suc, ◌-◌, ◌+◌, ◌≤◌, ◌<◌, Bool, true, false, List, [], ◌∷◌, ◌++◌, length, drop, Option, Some, None, Ok, Err, refl, sym, ap, ◌∙◌, append_assoc, append-nil, length-append, arith}
use Rattle.std.specs.List.{last_or, slice_get}
use Rattle.std.proofs.lemmas.List.{length-drop}
use Rattle.change_codec.specs.Forms.{Reading, ◌>>=◌}
use Rattle.change_codec.specs.Whole.{at_by}
use Rattle.change_codec.proofs.Places.{IsSteady, never}
use Rattle.change_codec.proofs.Bind.{ok_is}
use Rattle.change_codec.proofs.Loops.{with_front}
use Rattle.dump_files.specs.declared.fault.FileFault.{FileFault}
use Rattle.dump_files.specs.declared.fault.FileFault.TheVariants as fault
use Rattle.dump_files.specs.Files.{Rule, element_read, elements_read}
use Rattle.dump_files.specs.Steps.{GoesOnAt, Grows, GrowsByOne, StopsAt}

-- ---- the last element

pub last_is : {T : Type 0} (xs : List T) → slice_get xs (length xs - 1) ≡ last_or None xs
last_is [] = refl
last_is (x ∷ xs) = ap (slice_get (x ∷ xs)) (let one : length (x ∷ xs) - 1 ≡ length xs = omega arith in one) ∙ by x xs
  where
    by : {T : Type 0} (x : T) (xs : List T) → slice_get (x ∷ xs) (length xs) ≡ last_or (Some x) xs
    by x [] = refl
    by x (y ∷ ys) = by y ys

pub last_behind : {T : Type 0} (o : Option T) (xs : List T) (x : T) → last_or o (xs ++ x ∷ []) ≡ Some x
last_behind o [] x = refl
last_behind o (y ∷ ys) x = last_behind (Some y) ys x

-- the last of elements behind others
pub last_of_both : {T : Type 0} (o : Option T) (xs ys : List T) → last_or o (xs ++ ys) ≡ last_or (last_or o xs) ys
last_of_both o [] ys = refl
last_of_both o (x ∷ xs) ys = last_of_both (Some x) xs ys

-- ---- what was read at an offset

drop_front : (front rest : List ℕ) → drop (length front) (front ++ rest) ≡ rest
drop_front [] rest = refl
drop_front (x ∷ front) rest = drop_front front rest

further : (n at : ℕ) → suc (at + n) ≡ suc at + n
further n at = omega arith

abbrev none : List ℕ
none = []

drop_none : (n : ℕ) → drop n none ≡ none
drop_none zero = refl
drop_none (suc n) = refl

drop_twice : (n at : ℕ) (bytes : List ℕ) → drop n (drop at bytes) ≡ drop (at + n) bytes
drop_twice n zero bytes = ap (λ (m : ℕ). drop m bytes) (let same : n ≡ 0 + n = omega arith in same)
drop_twice n (suc at) [] = drop_none n ∙ ap (λ (m : ℕ). drop m none) (further n at)
drop_twice n (suc at) (x ∷ bytes) = drop_twice n at bytes ∙ ap (λ (m : ℕ). drop m (x ∷ bytes)) (further n at)

module _ {T : Type 0} (read : List ℕ → Reading T) (p : IsSteady read) (bytes : List ℕ) (at : ℕ) (le : at ≤ length bytes) where
  -- what is left behind a value is what stands from its end's offset on
  rest_is : (value : T) (rest : List ℕ) (behind : ℕ) → read (drop at bytes) ≡ Ok (value, rest) → behind ≡ length bytes - length rest → GoesOnAt bytes (read (drop at bytes)) value behind
  rest_is value rest behind e is =
      let t = p.took (drop at bytes) value rest e in
      let len : length (drop at bytes) ≡ length t.front + length rest = ap length t.parts ∙ length-append t.front rest in
      let left : length (drop at bytes) ≡ length bytes - at = length-drop at bytes in
      let place : at + length t.front ≡ behind = omega arith in
      let same : drop behind bytes ≡ rest = ap (λ (n : ℕ). drop n bytes) (sym place) ∙ sym (drop_twice (length t.front) at bytes) ∙ ap (drop (length t.front)) t.parts ∙ drop_front t.front rest in
      (e ∙ ap (λ (l : List ℕ). Ok (value, l)) (sym same), omega arith)

  by_reading : (reading : Reading T) → read (drop at bytes) ≡ reading → (found : T × ℕ) → at_by (length bytes) reading ≡ Ok found → GoesOnAt bytes (read (drop at bytes)) found.0 found.1
  by_reading (Ok (value, rest)) e found h =
      let same : (value, length bytes - length rest) ≡ found = ok_is (value, length bytes - length rest) found h in
      rest_is found.0 rest found.1 (e ∙ ap (λ (x : T × ℕ). Ok (x.0, rest)) same) (sym (ap (λ (x : T × ℕ). x.1) same))
  by_reading (Err left) e found h = absurd (never (Err (length bytes - left)) found (length bytes - left) h refl)

  -- what a call answers that reads from an offset on
  pub comes : (found : T × ℕ) → at_by (length bytes) (read (drop at bytes)) ≡ Ok found → GoesOnAt bytes (read (drop at bytes)) found.0 found.1
  comes found a = by_reading (read (drop at bytes)) refl found a

-- ---- an element that is judged

module _ {T : Type 0} (stands : T → Bool) (read : List ℕ → Reading T) (bytes front : List ℕ) where
  pub element_stops : (f : FileFault) → StopsAt bytes (read front) f → StopsAt bytes (element_read stands read front) f
  unfolding element_read
  element_stops (fault.Grammar offset) s = (s.0, rw s.1 refl, s.2)
  element_stops fault.NoMemory s = tt

  pub element_goes_on : (value : T) (behind : ℕ) → stands value ≡ true → GoesOnAt bytes (read front) value behind → GoesOnAt bytes (element_read stands read front) value behind
  unfolding element_read
  element_goes_on value behind may is = (rw (is.0, may) refl, is.1)

pub element_refused : {T : Type 0} (stands : T → Bool) (read : List ℕ → Reading T) (bytes : List ℕ) (at : ℕ) → at ≤ length bytes → (value : T) (behind : ℕ) → stands value ≡ false
    → GoesOnAt bytes (read (drop at bytes)) value behind → StopsAt bytes (element_read stands read (drop at bytes)) (fault.Grammar at)
unfolding element_read
element_refused stands read bytes at le value behind not is = (length (drop at bytes), rw (is.0, not) refl, omega (arith, length-drop at bytes, le))

-- ---- so many elements

regroup : {T : Type 0} (front : List T) (x : T) (read : Reading (List T)) → with_front front (read >>= λ o. Ok (x ∷ o.0, o.1)) ≡ with_front (front ++ x ∷ []) read
regroup front x (Ok o) = ap (λ (xs : List _). Ok (xs, o.1)) (sym (append_assoc front (x ∷ []) o.0))
regroup front x (Err n) = refl

whole_count : (count : ℕ) → count - 0 ≡ count
whole_count count = omega arith

none_before : {T : Type 0} (read : Reading (List T)) → with_front [] read ≡ read
none_before (Ok o) = refl
none_before (Err n) = refl

module _ {T : Type 0} (rule : Rule T) (read : List ℕ → Reading T) (count : ℕ) (bytes : List ℕ) (old : List T) (total : Reading (List T)) where
  -- what was read, and what is still to be read, from an offset on
  pub record SoFar (now : List T) (at place : ℕ) : Type 0 where
    pub front : List T
    pub grown : now ≡ old ++ front
    pub left : with_front front (elements_read rule read (count - place) (last_or None now) place (drop at bytes)) ≡ total
    pub within : at ≤ length bytes

  pub begins : (first : ℕ) → first ≤ length bytes → elements_read rule read count (last_or None old) 0 (drop first bytes) ≡ total → SoFar old first 0
  begins first le is = record { front = []; grown = sym (append-nil old); left = none_before (elements_read rule read (count - 0) (last_or None old) 0 (drop first bytes)) ∙ ap (λ (n : ℕ). elements_read rule read n (last_or None old) 0 (drop first bytes)) (whole_count count) ∙ is; within = le }

  pub one_more : (now new : List T) (at place behind : ℕ) → place < count → GrowsByOne bytes (element_read (rule (last_or None now) place) read (drop at bytes)) now new (Ok behind)
      → SoFar now at place → SoFar new behind (place + 1)
  unfolding elements_read
  one_more now new at place behind lt step so_far =
      let k : count - place ≡ suc (count - (place + 1)) = omega arith in
      let next : suc place ≡ place + 1 = omega arith in
      let last : last_or None new ≡ Some step.0 = ap (last_or None) step.1 ∙ last_behind None now step.0 in
      let others : Reading (List T) = elements_read rule read (count - (place + 1)) (Some step.0) (suc place) (drop behind bytes) in
      let one : with_front so_far.front (elements_read rule read (count - place) (last_or None now) place (drop at bytes)) ≡ with_front (so_far.front ++ step.0 ∷ []) others =
      rw (k, step.2.0) (regroup so_far.front step.0 others) in
      record {
        front = so_far.front ++ step.0 ∷ [];
        grown = step.1 ∙ ap (λ (l : List T). l ++ step.0 ∷ []) so_far.grown ∙ append_assoc old so_far.front (step.0 ∷ []);
        left = ap (λ (o : Option T). with_front (so_far.front ++ step.0 ∷ []) (elements_read rule read (count - (place + 1)) o (place + 1) (drop behind bytes))) last
            ∙ ap (λ (n : ℕ). with_front (so_far.front ++ step.0 ∷ []) (elements_read rule read (count - (place + 1)) (Some step.0) n (drop behind bytes))) (sym next) ∙ sym one ∙ so_far.left;
        within = step.2.1;
      }

  pub stops : (now : List T) (at place : ℕ) (f : FileFault) → place < count → StopsAt bytes (element_read (rule (last_or None now) place) read (drop at bytes)) f → SoFar now at place → StopsAt bytes total f
  unfolding elements_read
  stops now at place fault.NoMemory lt s so_far = tt
  stops now at place (fault.Grammar offset) lt s so_far =
      let k : count - place ≡ suc (count - (place + 1)) = omega arith in
      let one : with_front so_far.front (elements_read rule read (count - place) (last_or None now) place (drop at bytes)) ≡ Err s.0 = rw (k, s.1) refl in
      (s.0, sym so_far.left ∙ one, s.2)

  pub is_done : (now : List T) (at place : ℕ) → count ≤ place → SoFar now at place → Grows bytes total old now (Ok at)
  unfolding elements_read
  is_done now at place le so_far =
      let k : count - place ≡ 0 = omega arith in
      let one : with_front so_far.front (elements_read rule read (count - place) (last_or None now) place (drop at bytes)) ≡ Ok (so_far.front, drop at bytes) =
      rw k (ap (λ (xs : List T). Ok (xs, drop at bytes)) (append-nil so_far.front)) in
      (so_far.front, so_far.grown, (sym so_far.left ∙ one, so_far.within))

  -- what the list held stays in front
  pub held : (now new : List T) (at place : ℕ) → new ≡ now → SoFar now at place → (more : List T) × (new ≡ old ++ more)
  held now new at place same so_far = (so_far.front, same ∙ so_far.grown)
