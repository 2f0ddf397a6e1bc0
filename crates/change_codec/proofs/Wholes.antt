-- What lawful forms give: one spelling a value, and the one value that all of the bytes spell.
use Rattle.std.proofs.Common.{◌≡◌, ℕ, List, [], ◌∷◌, length, Result, Ok, Err, sym, ap, subst, ◌∙◌}
use Rattle.std.specs.Prelude.{IfOk}
use Rattle.std.proofs.lemmas.List.{append-nil}
use Rattle.change_codec.specs.declared.fault.CodecFault.{CodecFault}
use Rattle.change_codec.specs.Forms.{Form, Reading}
use Rattle.change_codec.specs.Whole.{Answers, AnswersWhole, AreBytes, HasOneSpelling, whole, whole_by}
use Rattle.change_codec.proofs.Bind.{ok_is}
use Rattle.change_codec.proofs.Numbers.{IsLawful}

pub one_spelling : {T : Type 0} (form : Form T) → IsLawful form → HasOneSpelling form
one_spelling {T} form p a b x y fa fb e =
    let same : (a, x) ≡ (b, y) = ok_is (a, x) (b, y) (sym (p.again a x fa) ∙ ap form.read e ∙ p.again b y fb) in
    (ap (λ (r : T × List ℕ). r.0) same, ap (λ (r : T × List ℕ). r.1) same)

-- the whole was spelled
all_read : {T : Type 0} (count : ℕ) (reading : Reading T) (value : T) → whole_by count reading ≡ Ok value → reading ≡ Ok (value, [])
all_read count (Ok (v, [])) value e = ap (λ (x : _). Ok (x, [])) (ok_is v value e)
all_read count (Ok (v, b ∷ rest)) value e = absurd cc
all_read count (Err left) value e = absurd cc

module _ {T : Type 0} (form : Form T) (p : IsLawful form) (bytes : List ℕ) where
  is_found : (result : Result T CodecFault) → AreBytes bytes → Answers result (whole form bytes) → IfOk result (λ value. form.HasCode value × (bytes ≡ form.code value))
  is_found (Ok value) are e =
      let s = p.spelled bytes value [] are (all_read (length bytes) (form.read bytes) value e) in
      (s.1, s.0 ∙ append-nil (form.code value))
  is_found (Err f) are e = tt

  is_only : (result : Result T CodecFault) → Answers result (whole form bytes) → (value : T) → form.HasCode value → bytes ≡ form.code value → Answers result (Ok value)
  is_only result e value f is =
      let read : form.read bytes ≡ Ok (value, []) = ap form.read (is ∙ sym (append-nil (form.code value))) ∙ p.again value [] f in
      subst (Answers result) (ap (whole_by (length bytes)) read) e

  pub answers : (result : Result T CodecFault) → AreBytes bytes → Answers result (whole form bytes) → AnswersWhole form bytes result
  answers result are e = record { found = is_found result are e; only = is_only result e; exact = e }
