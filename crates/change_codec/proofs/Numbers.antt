-- Numbers, flags, counts and texts are read as they are written.
use Rattle.std.proofs.Common.{◌≡◌, ℕ, ℤ, zero, suc, ◌*◌, ◌^◌, ◌<◌, ◌≤◌, Bool, true, false, cond, ltb, List, [], ◌∷◌, ◌++◌, length, take, drop, Ok, Err, refl, sym, ap, subst, ◌∙◌, append_assoc, arith, inl, inr}
use Rattle.std.specs.Prelude.{FitsSigned}
use Rattle.std.specs.Int.{Width, w32, w64, byte_len, from_be_bytes, to_be_bytes, cast_signed, cast_unsigned}
use Rattle.std.specs.Str.{IsUtf8, is_utf8}
use Rattle.std.proofs.lemmas.Bool.{cases_lt, ltb-false, le-ltb}
use Rattle.std.proofs.lemmas.List.{take_at, drop_at, take-append-drop, length-append, length-take, get_or-take, get_or_past}
use Rattle.std.proofs.lemmas.Nat.{be_bytes_4, be_bytes_8, from_be_bytes-to_be_bytes_4, from_be_bytes-to_be_bytes_8}
use Rattle.std.proofs.lemmas.Str.{IsUtf8-from_is_utf8, is_utf8-from_IsUtf8}
use Rattle.cat_values.specs.declared.text.TheConstants.{TEXT_LIMIT}
use Rattle.change_codec.specs.Forms.{Form, Reading, ◌>>=◌, bytes_of, count_read, flag, flag_read, front_read, number, number_read, signed, signed_read, text, text_read}
use Rattle.change_codec.specs.Whole.{AreBytes, IsReadAgain, IsSpelled}
use Rattle.change_codec.proofs.Bind.{bind_ok, guard_ok, let_ok, ok_is}

-- a form whose values are read as they are written
pub record IsLawful {T : Type 0} (form : Form T) : Type 0 where
  pub again : IsReadAgain form
  pub spelled : IsSpelled form

-- ---- so many bytes

pub front_again : (count : ℕ) (front rest : List ℕ) → length front ≡ count → front_read count (front ++ rest) ≡ Ok (front, rest)
front_again count front rest len =
    let long : ltb (length (front ++ rest)) count ≡ false = le-ltb _ _ (omega (arith, length-append front rest, len)) in
    rw (long, take_at front rest count len, drop_at front rest count len) refl

pub front_spelled : (count : ℕ) (bytes front rest : List ℕ) → front_read count bytes ≡ Ok (front, rest) → (bytes ≡ front ++ rest) × (length front ≡ count)
front_spelled count bytes front rest e =
    let g = guard_ok (ltb (length bytes) count) 0 (take count bytes, drop count bytes) (front, rest) e in
    let long : count ≤ length bytes = ltb-false _ _ g.0 in
    subst (λ (p : List ℕ × List ℕ). (bytes ≡ p.0 ++ p.1) × (length p.0 ≡ count)) g.1 (sym (take-append-drop count bytes), omega (arith, length-take count bytes))

pub bytes-lawful : (count : ℕ) → IsLawful (bytes_of count)
bytes-lawful count = record { again = front_again count; spelled = λ bytes value rest fits e. front_spelled count bytes value rest e }

-- ---- numbers

AreBytes-take : (n : ℕ) (bytes : List ℕ) → AreBytes bytes → AreBytes (take n bytes)
AreBytes-take n bytes h i =
    elim (cases_lt i n) [
      | inl lt ↦ rw (get_or-take n bytes i 0 lt) (h i)
      | inr le ↦ rw (get_or_past (take n bytes) i 0 (omega (arith, length-take n bytes))) (omega arith)
    ]

pub AreBytes-front : (a b : List ℕ) → AreBytes (a ++ b) → AreBytes a
AreBytes-front a b h = subst AreBytes (take_at a b (length a) refl) (AreBytes-take (length a) (a ++ b) h)

pub record IsWide (w : Width) : Type 0 where
  pub len : (n : ℕ) → length (to_be_bytes w n) ≡ byte_len w
  pub back : (bytes : List ℕ) → length bytes ≡ byte_len w → AreBytes bytes → to_be_bytes w (from_be_bytes w bytes) ≡ bytes
  pub again : (n : ℕ) → n < 2 ^ (8 * byte_len w) → from_be_bytes w (to_be_bytes w n) ≡ n
  pub below : (bytes : List ℕ) → AreBytes bytes → from_be_bytes w bytes < 2 ^ (8 * byte_len w)

pub wide32 : IsWide w32
wide32 = record {
  len = λ n. refl;
  back = λ bytes len fits. be_bytes_4 bytes _ len fits refl;
  again = λ n lt. from_be_bytes-to_be_bytes_4 n lt;
  below = λ bytes fits. omega (arith, fits 0, fits 1, fits 2, fits 3);
}

pub wide64 : IsWide w64
wide64 = record {
  len = λ n. refl;
  back = λ bytes len fits. be_bytes_8 bytes _ len fits refl;
  again = λ n lt. from_be_bytes-to_be_bytes_8 n lt;
  below = λ bytes fits. omega (arith, fits 0, fits 1, fits 2, fits 3, fits 4, fits 5, fits 6, fits 7);
}

pub number_again : (w : Width) (wide : IsWide w) (n : ℕ) (rest : List ℕ) → n < 2 ^ (8 * byte_len w) → number_read w (to_be_bytes w n ++ rest) ≡ Ok (n, rest)
unfolding number_read
number_again w wide n rest lt = rw (front_again (byte_len w) (to_be_bytes w n) rest (wide.len n)) (ap (λ (m : ℕ). Ok (m, rest)) (wide.again n lt))

pub number_spelled : (w : Width) (wide : IsWide w) (bytes : List ℕ) (n : ℕ) (rest : List ℕ) → AreBytes bytes → number_read w bytes ≡ Ok (n, rest) → (bytes ≡ to_be_bytes w n ++ rest) × (n < 2 ^ (8 * byte_len w))
unfolding number_read
number_spelled w wide bytes n rest fits e =
    let b = bind_ok (front_read (byte_len w) bytes) (λ front. Ok (from_be_bytes w front.0, front.1)) (n, rest) e in
    let front = b.0.0 in
    let f = front_spelled (byte_len w) bytes front b.0.1 b.1 in
    let are : AreBytes front = AreBytes-front front b.0.1 (subst AreBytes f.0 fits) in
    subst (λ (p : ℕ × List ℕ). (bytes ≡ to_be_bytes w p.0 ++ p.1) × (p.0 < 2 ^ (8 * byte_len w))) (ok_is (from_be_bytes w front, b.0.1) (n, rest) b.2)
    (f.0 ∙ ap (λ (l : List ℕ). l ++ b.0.1) (sym (wide.back front f.1 are)), wide.below front are)

pub number-lawful : (w : Width) → IsWide w → IsLawful (number w)
number-lawful w wide = record { again = number_again w wide; spelled = number_spelled w wide }

-- ---- numbers with a sign

pub record IsSigned (w : Width) : Type 0 where
  pub again : (z : ℤ) → FitsSigned w z → cast_signed w (cast_unsigned w z) ≡ z
  pub below : (z : ℤ) → FitsSigned w z → cast_unsigned w z < 2 ^ (8 * byte_len w)
  pub back : (n : ℕ) → n < 2 ^ (8 * byte_len w) → cast_unsigned w (cast_signed w n) ≡ n
  pub fits : (n : ℕ) → n < 2 ^ (8 * byte_len w) → FitsSigned w (cast_signed w n)

pub signed-lawful : (w : Width) → IsWide w → IsSigned w → IsLawful (signed w)
unfolding signed_read
signed-lawful w wide s = record {
  again = λ z rest fits. rw (number_again w wide (cast_unsigned w z) rest (s.below z fits)) (ap (λ (y : ℤ). Ok (y, rest)) (s.again z fits));
  spelled = λ bytes z rest fits e.
      let b = bind_ok (number_read w bytes) (λ n. Ok (cast_signed w n.0, n.1)) (z, rest) e in
      let n = number_spelled w wide bytes b.0.0 b.0.1 fits b.1 in
      subst (λ (p : ℤ × List ℕ). (bytes ≡ to_be_bytes w (cast_unsigned w p.0) ++ p.1) × FitsSigned w p.0) (ok_is (cast_signed w b.0.0, b.0.1) (z, rest) b.2)
      (n.0 ∙ ap (λ (m : ℕ). to_be_bytes w m ++ b.0.1) (sym (s.back b.0.0 n.1)), s.fits b.0.0 n.1);
}

-- ---- flags

flag_again : (b : Bool) (rest : List ℕ) → flag_read (flag.code b ++ rest) ≡ Ok (b, rest)
unfolding flag_read
flag_again false rest = refl
flag_again true rest = refl

flag_spelled : (bytes : List ℕ) (b : Bool) (rest : List ℕ) → flag_read bytes ≡ Ok (b, rest) → bytes ≡ flag.code b ++ rest
unfolding flag_read
flag_spelled [] b rest e = absurd cc
flag_spelled (zero ∷ bytes) b rest e = subst (λ (p : Bool × List ℕ). 0 ∷ bytes ≡ flag.code p.0 ++ p.1) (ok_is (false, bytes) (b, rest) e) refl
flag_spelled (suc zero ∷ bytes) b rest e = subst (λ (p : Bool × List ℕ). 1 ∷ bytes ≡ flag.code p.0 ++ p.1) (ok_is (true, bytes) (b, rest) e) refl
flag_spelled (suc (suc n) ∷ bytes) b rest e = absurd cc

pub flag-lawful : IsLawful flag
flag-lawful = record { again = λ b rest fits. flag_again b rest; spelled = λ bytes b rest fits e. (flag_spelled bytes b rest e, tt) }

-- ---- counts

pub count_again : (last n : ℕ) (rest : List ℕ) → n ≤ last → n < 2 ^ 32 → count_read last (to_be_bytes w32 n ++ rest) ≡ Ok (n, rest)
unfolding count_read
count_again last n rest le lt =
    let within : ltb last n ≡ false = le-ltb _ _ le in
    rw (number_again w32 wide32 n rest lt, within) refl

pub count_spelled : (last : ℕ) (bytes : List ℕ) (n : ℕ) (rest : List ℕ) → AreBytes bytes → count_read last bytes ≡ Ok (n, rest) → (bytes ≡ to_be_bytes w32 n ++ rest) × (n ≤ last)
unfolding count_read
count_spelled last bytes n rest fits e =
    let b = bind_ok (number_read w32 bytes) (λ n. cond (ltb last n.0) (Err (length bytes)) (Ok n)) (n, rest) e in
    let g = guard_ok (ltb last b.0.0) (length bytes) b.0 (n, rest) b.2 in
    let s = number_spelled w32 wide32 bytes b.0.0 b.0.1 fits b.1 in
    subst (λ (p : ℕ × List ℕ). (bytes ≡ to_be_bytes w32 p.0 ++ p.1) × (p.0 ≤ last)) g.1 (s.0, ltb-false _ _ g.0)

-- ---- texts

text_again : (t rest : List ℕ) → IsUtf8 t → length t ≤ TEXT_LIMIT → text_read ((to_be_bytes w32 (length t) ++ t) ++ rest) ≡ Ok (t, rest)
unfolding text_read
text_again t rest utf8 le =
    rw (append_assoc (to_be_bytes w32 (length t)) t rest, count_again TEXT_LIMIT (length t) (t ++ rest) le (omega (arith, le)), front_again (length t) t rest refl, is_utf8-from_IsUtf8 t utf8) refl

text_spelled : (bytes t rest : List ℕ) → AreBytes bytes → text_read bytes ≡ Ok (t, rest) → (bytes ≡ (to_be_bytes w32 (length t) ++ t) ++ rest) × (IsUtf8 t × (length t ≤ TEXT_LIMIT))
unfolding text_read
text_spelled bytes t rest fits e =
    let b = bind_ok (count_read TEXT_LIMIT bytes) (λ count. front_read count.0 count.1 >>= λ front. cond (is_utf8 front.0) (Ok front) (Err (length bytes))) (t, rest) e in
    let c = bind_ok (front_read b.0.0 b.0.1) (λ front. cond (is_utf8 front.0) (Ok front) (Err (length bytes))) (t, rest) b.2 in
    let g = let_ok (is_utf8 c.0.0) (length bytes) c.0 (t, rest) c.2 in
    let n = count_spelled TEXT_LIMIT bytes b.0.0 b.0.1 fits b.1 in
    let f = front_spelled b.0.0 b.0.1 c.0.0 c.0.1 c.1 in
    let whole : bytes ≡ (to_be_bytes w32 (length c.0.0) ++ c.0.0) ++ c.0.1 =
    n.0 ∙ ap (λ (l : List ℕ). to_be_bytes w32 b.0.0 ++ l) f.0 ∙ sym (append_assoc (to_be_bytes w32 b.0.0) c.0.0 c.0.1) ∙ ap (λ (m : ℕ). (to_be_bytes w32 m ++ c.0.0) ++ c.0.1) (sym f.1) in
    subst (λ (p : List ℕ × List ℕ). (bytes ≡ (to_be_bytes w32 (length p.0) ++ p.0) ++ p.1) × (IsUtf8 p.0 × (length p.0 ≤ TEXT_LIMIT))) g.1
    (whole, (IsUtf8-from_is_utf8 c.0.0 g.0, omega (arith, f.1, n.1)))

pub text-lawful : IsLawful text
text-lawful = record { again = λ t rest fits. text_again t rest fits.0 fits.1; spelled = text_spelled }

-- what the bytes behind a length spell, and whether they do
pub text_ok : (bytes : List ℕ) (count : ℕ) (behind front rest t held : List ℕ) → count_read TEXT_LIMIT bytes ≡ Ok (count, behind) → front_read count behind ≡ Ok (front, rest) → held ≡ front → IsUtf8 held → t ≡ held → text_read bytes ≡ Ok (t, rest)
unfolding text_read
text_ok bytes count behind front rest t held c f same utf8 is =
    rw (c, f, is_utf8-from_IsUtf8 front (subst IsUtf8 same utf8)) (ap (λ (x : List ℕ). Ok (x, rest)) (sym (is ∙ same)))

pub text_bad : (bytes : List ℕ) (count : ℕ) (behind front rest held : List ℕ) → count_read TEXT_LIMIT bytes ≡ Ok (count, behind) → front_read count behind ≡ Ok (front, rest) → held ≡ front → (IsUtf8 held → ⊥) → text_read bytes ≡ Err (length bytes)
unfolding text_read
text_bad bytes count behind front rest held c f same none = rw (c, f) (by (is_utf8 front) refl)
  where
    by : (b : Bool) → is_utf8 front ≡ b → cond {A = Reading (List ℕ)} b (Ok (front, rest)) (Err (length bytes)) ≡ Err (length bytes)
    by true e = absurd (none (subst IsUtf8 (sym same) (IsUtf8-from_is_utf8 front e)))
    by false e = refl
