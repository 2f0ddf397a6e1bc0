-- What is read from an offset on ends behind it, within the bytes.
use Rattle.std.proofs.Common.{◌≡◌, ℕ, ◌+◌, ◌-◌, ◌<◌, ◌≤◌, List, [], ◌∷◌, length, drop, Result, Ok, Err, refl, sym, ap, ◌∙◌, arith}
use Rattle.std.proofs.lemmas.List.{append-nil, get_or-drop, length-append, length-drop}
use Rattle.change_codec.specs.declared.fault.CodecFault.{CodecFault}
use Rattle.change_codec.specs.declared.fault.CodecFault.TheVariants as fault
use Rattle.change_codec.specs.Forms.{Form, Reading}
use Rattle.change_codec.specs.Whole.{Answers, AreBytes, GoesForward, at_by, read_at}
use Rattle.change_codec.proofs.Bind.{ok_is}
use Rattle.change_codec.proofs.Numbers.{IsLawful}
use Rattle.change_codec.proofs.Places.{IsSteady, err_is, never, place_within}

bytes_behind : (at : ℕ) (bytes : List ℕ) → AreBytes bytes → AreBytes (drop at bytes)
bytes_behind at bytes h i = rw (get_or-drop at bytes i 0) (h (at + i))

module _ {T : Type 0} (form : Form T) (p : IsLawful form) (q : IsSteady form.read) (none : form.read [] ≡ Err 0) (bytes : List ℕ) (are : AreBytes bytes) (at : ℕ) (le : at ≤ length bytes) where
  -- a spelling has a byte
  some_byte : (value : T) → form.HasCode value → 0 < length (form.code value)
  some_byte value f = by (form.code value) (ap form.read (sym (append-nil (form.code value))) ∙ p.again value [] f)
    where
      by : (code : List ℕ) → form.read code ≡ Ok (value, []) → 0 < length code
      by [] e = absurd (never (form.read []) (value, []) 0 e none)
      by (x ∷ code) e = omega arith

  found : (value : T) (rest : List ℕ) (offset : ℕ) → form.read (drop at bytes) ≡ Ok (value, rest) → offset ≡ length bytes - length rest → (at < offset) × (offset ≤ length bytes)
  found value rest offset e is =
      let s = p.spelled (drop at bytes) value rest (bytes_behind at bytes are) e in
      let some = some_byte value s.1 in
      let len : length (drop at bytes) ≡ length (form.code value) + length rest = ap length s.0 ∙ length-append (form.code value) rest in
      let left : length (drop at bytes) ≡ length bytes - at = length-drop at bytes in
      (omega arith, omega arith)

  stopped : (left offset : ℕ) → form.read (drop at bytes) ≡ Err left → offset ≡ length bytes - left → (at ≤ offset) × (offset ≤ length bytes)
  stopped left offset e is =
      let within = place_within form.read q (drop at bytes) left e in
      let len : length (drop at bytes) ≡ length bytes - at = length-drop at bytes in
      (omega arith, omega arith)

  by_reading : (reading : Reading T) → form.read (drop at bytes) ≡ reading → (result : Result (T × ℕ) CodecFault) → Answers result (at_by (length bytes) reading) → GoesForward at (length bytes) result
  by_reading (Ok (value, rest)) e (Ok (v, offset)) a = found value rest offset e (ap (λ (r : T × ℕ). r.1) (ok_is (v, offset) (value, length bytes - length rest) (sym a)))
  by_reading (Ok (value, rest)) e (Err fault.NoMemory) a = tt
  by_reading (Ok (value, rest)) e (Err (fault.BadRecord offset)) a = absurd (never (Ok (value, length bytes - length rest)) (value, length bytes - length rest) offset refl a)
  by_reading (Err left) e (Ok (v, offset)) a = absurd (never (Err (length bytes - left)) (v, offset) (length bytes - left) a refl)
  by_reading (Err left) e (Err fault.NoMemory) a = tt
  by_reading (Err left) e (Err (fault.BadRecord offset)) a = stopped left offset e (err_is {A = T × ℕ} offset (length bytes - left) (sym a))

  pub goes_forward : (result : Result (T × ℕ) CodecFault) → Answers result (read_at form.read at bytes) → GoesForward at (length bytes) result
  goes_forward result a = by_reading (form.read (drop at bytes)) refl result a
