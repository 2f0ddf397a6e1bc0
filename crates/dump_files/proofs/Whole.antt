-- What a whole file is read as.
use Rattle.std.proofs.Common.{◌≡◌, ◌==◌, ℕ, ◌-◌, ◌≤◌, ◌<◌, true, false, List, [], ◌∷◌, length, drop, Option, Result, Ok, Err, refl, sym, ap, subst, ◌∙◌, append-nil, arith}
use Rattle.std.proofs.lemmas.Bool.{ne_eqb}
use Rattle.std.proofs.lemmas.List.{length-drop}
use Rattle.std.specs.Prelude.{OnOk}
use Rattle.cat_values.specs.declared.list_of.TheConstants.{LIST_END}
use Rattle.change_codec.specs.Forms.{Form, Reading, count_read}
use Rattle.change_codec.specs.Whole.{AreBytes, whole, whole_by}
use Rattle.change_codec.proofs.Bind.{ok_is}
use Rattle.change_codec.proofs.Numbers.{IsLawful}
use Rattle.dump_files.specs.declared.fault.FileFault.{FileFault}
use Rattle.dump_files.specs.declared.fault.FileFault.TheVariants as fault
use Rattle.dump_files.specs.Files.{BeginsWith, Gains, Judges, ReadsFile, Rule, elements_read, file_read}
use Rattle.dump_files.specs.Steps.{GoesOnAt, StopsAt}

abbrev refused : {T : Type 0} → ℕ → Result (List T) ℕ
refused offset = Err offset

-- reading that stops is told as a fault
stop_is : {T : Type 0} (bytes : List ℕ) (reading : Reading (List T)) (old new : List T) (f : FileFault) → StopsAt bytes reading f → Judges (whole_by (length bytes) reading) old new (Err f)
stop_is {T} bytes reading old new (fault.Grammar offset) s = ap (whole_by (length bytes)) s.1 ∙ ap (refused {T = T}) (sym s.2)
stop_is bytes reading old new fault.NoMemory s = tt

-- what was read, and bytes are left over, or none
left_over : {T : Type 0} (bytes : List ℕ) (value : List T) (behind : ℕ) → behind < length bytes → whole_by (length bytes) (Ok (value, drop behind bytes)) ≡ Err behind
left_over {T} bytes value behind lt = by (drop behind bytes) (length-drop behind bytes)
  where
    by : (rest : List ℕ) → length rest ≡ length bytes - behind → whole_by (length bytes) (Ok (value, rest)) ≡ Err behind
    by [] len = absurd (omega (arith, len, lt))
    by (b ∷ rest) len = ap (λ (n : ℕ). Err n) (omega (arith, len, lt))

none_over : {T : Type 0} (bytes : List ℕ) (value : List T) (behind : ℕ) → length bytes ≤ behind → whole_by (length bytes) (Ok (value, drop behind bytes)) ≡ Ok value
none_over {T} bytes value behind le = by (drop behind bytes) (length-drop behind bytes)
  where
    by : (rest : List ℕ) → length rest ≡ length bytes - behind → whole_by (length bytes) (Ok (value, rest)) ≡ Ok value
    by [] len = refl
    by (b ∷ rest) len = absurd (omega (arith, len, le))

module _ {T : Type 0} (rule : Rule T) (last : Option T) (read : List ℕ → Reading T) (bytes : List ℕ) (old new : List T) where
  abbrev judged : Result (List T) ℕ
  judged = whole_by (length bytes) (file_read rule last read bytes)

  pub count_stops : (f : FileFault) → StopsAt bytes (count_read (LIST_END - 1) bytes) f → Judges judged old new (Err f)
  unfolding file_read
  count_stops fault.NoMemory s = tt
  count_stops (fault.Grammar offset) s = stop_is bytes (file_read rule last read bytes) old new (fault.Grammar offset) (s.0, rw s.1 refl, s.2)

  module _ (count first : ℕ) (counted : GoesOnAt bytes (count_read (LIST_END - 1) bytes) count first) where
    pub none_counted : count ≡ 0 → judged ≡ Err first
    unfolding file_read
    none_counted none =
        let zero_count : (count == 0) ≡ true = rw none refl in
        let is : file_read rule last read bytes ≡ Err (length (drop first bytes)) = rw (counted.0, zero_count) refl in
        ap (whole_by (length bytes)) is ∙ ap (λ (n : ℕ). Err n) (omega (arith, length-drop first bytes, counted.1))

    from_count : 0 < count → file_read rule last read bytes ≡ elements_read rule read count last 0 (drop first bytes)
    unfolding file_read
    from_count lt = let some : (count == 0) ≡ false = ne_eqb count 0 (λ e. absurd (omega (arith, e, lt))) in rw (counted.0, some) refl

    pub elements_stop : 0 < count → (f : FileFault) → StopsAt bytes (elements_read rule read count last 0 (drop first bytes)) f → Judges judged old new (Err f)
    elements_stop some fault.NoMemory s = tt
    elements_stop some (fault.Grammar offset) s = stop_is bytes (file_read rule last read bytes) old new (fault.Grammar offset) (s.0, from_count some ∙ s.1, s.2)

    pub bytes_left : 0 < count → (file : List T) (behind : ℕ) → GoesOnAt bytes (elements_read rule read count last 0 (drop first bytes)) file behind → behind < length bytes → judged ≡ Err behind
    bytes_left some file behind is lt = ap (whole_by (length bytes)) (from_count some ∙ is.0) ∙ left_over bytes file behind lt

    pub all_read : 0 < count → (file : List T) (behind : ℕ) → GoesOnAt bytes (elements_read rule read count last 0 (drop first bytes)) file behind → length bytes ≤ behind → judged ≡ Ok file
    all_read some file behind is le = ap (whole_by (length bytes)) (from_count some ∙ is.0) ∙ none_over bytes file behind le

-- the whole was spelled
was_whole : {T : Type 0} (count : ℕ) (reading : Reading T) (value : T) → whole_by count reading ≡ Ok value → reading ≡ Ok (value, [])
was_whole count (Ok (v, [])) value e = ap (λ (x : _). Ok (x, [])) (ok_is v value e)
was_whole count (Ok (v, b ∷ rest)) value e = absurd cc
was_whole count (Err left) value e = absurd cc

module _ {T : Type 0} (form : Form (List T)) (p : IsLawful form) (bytes : List ℕ) (are : AreBytes bytes) (old new : List T) where
  is_found : (result : Result (Unit {0}) FileFault) → Judges (whole form bytes) old new result → OnOk result (Gains form bytes old new)
  is_found (Ok done) j =
      let s = p.spelled bytes j.0 [] are (was_whole (length bytes) (form.read bytes) j.0 j.1) in
      (j.0, j.2, s.1, s.0 ∙ append-nil (form.code j.0))
  is_found (Err f) j = tt

  is_only : (result : Result (Unit {0}) FileFault) → Judges (whole form bytes) old new result → (file : List T) → form.HasCode file → bytes ≡ form.code file → Judges (Ok file) old new result
  is_only result j file f is =
      let read : form.read bytes ≡ Ok (file, []) = ap form.read (is ∙ sym (append-nil (form.code file))) ∙ p.again file [] f in
      subst (λ (r : Result (List T) ℕ). Judges r old new result) (ap (whole_by (length bytes)) read) j

  pub reads_file : (result : Result (Unit {0}) FileFault) → BeginsWith old new → Judges (whole form bytes) old new result → ReadsFile form bytes old new result
  reads_file result kept j = record { kept = kept; found = is_found result j; only = is_only result j; exact = j }
