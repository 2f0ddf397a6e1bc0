-- Reading values and pairs one behind the other, as a loop does.
use Rattle.std.proofs.Common.{◌≡◌, ℕ, suc, ◌-◌, ◌+◌, ◌≤◌, ◌<◌, List, [], ◌∷◌, ◌++◌, Ok, Err, refl, sym, ap, ◌∙◌, append_assoc, arith}
use Rattle.std.proofs.lemmas.List.{append-nil}
use Rattle.change_codec.specs.declared.fault.Stop.{Stop}
use Rattle.change_codec.specs.declared.fault.Stop.TheVariants as stop
use Rattle.change_codec.specs.Forms.{Reading, ◌>>=◌, values_read}
use Rattle.change_codec.specs.Whole.{StopsAs}

-- what was read before, and what is still read
abbrev pub with_front : {T : Type 0} → List T → Reading (List T) → Reading (List T)
with_front front read = read >>= λ x. Ok (front ++ x.0, x.1)

regroup : {T : Type 0} (front : List T) (x : T) (read : Reading (List T)) → with_front front (read >>= λ o. Ok (x ∷ o.0, o.1)) ≡ with_front (front ++ x ∷ []) read
regroup front x (Ok o) = ap (λ (xs : List _). Ok (xs, o.1)) (sym (append_assoc front (x ∷ []) o.0))
regroup front x (Err n) = refl

module _ {T : Type 0} (read : List ℕ → Reading T) where
  pub goes_on : (front : List T) (count i : ℕ) (bytes : List ℕ) (x : T) (after : List ℕ) (total : Reading (List T)) → i < count → read bytes ≡ Ok (x, after)
      → with_front front (values_read read (count - i) bytes) ≡ total → with_front (front ++ x ∷ []) (values_read read (count - (i + 1)) after) ≡ total
  unfolding values_read
  goes_on front count i bytes x after total lt h so_far =
      let k : count - i ≡ suc (count - (i + 1)) = omega arith in
      let one : with_front front (values_read read (count - i) bytes) ≡ with_front (front ++ x ∷ []) (values_read read (count - (i + 1)) after) = rw (k, h) (regroup front x (values_read read (count - (i + 1)) after)) in
      sym one ∙ so_far

  pub ends : (s : Stop) (front : List T) (count i : ℕ) (bytes : List ℕ) (total : Reading (List T)) → i < count → StopsAs s (read bytes)
      → with_front front (values_read read (count - i) bytes) ≡ total → StopsAs s total
  unfolding values_read
  ends stop.NoMemory front count i bytes total lt h so_far = tt
  ends (stop.Left n) front count i bytes total lt h so_far =
      let k : count - i ≡ suc (count - (i + 1)) = omega arith in
      let one : with_front front (values_read read (count - i) bytes) ≡ Err n = rw (k, h) refl in
      sym so_far ∙ one

  pub is_done : (front : List T) (count i : ℕ) (bytes : List ℕ) (total : Reading (List T)) → count ≤ i → with_front front (values_read read (count - i) bytes) ≡ total → total ≡ Ok (front, bytes)
  unfolding values_read
  is_done front count i bytes total le so_far =
      let k : count - i ≡ 0 = omega arith in
      let one : with_front front (values_read read (count - i) bytes) ≡ Ok (front, bytes) = rw k (ap (λ (xs : List T). Ok (xs, bytes)) (append-nil front)) in
      sym so_far ∙ one
