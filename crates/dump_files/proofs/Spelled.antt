-- Files are read as they are written, and where they stop to be read.
use Rattle.std.proofs.Common.{◌≡◌, ◌≢◌, ◌==◌, ℕ, zero, suc, ◌-◌, Bool, true, false, cond, List, [], ◌∷◌, ◌++◌, length, Option, Some, Ok, Err, refl, sym, ap, subst, ◌∙◌, append_assoc, arith}
use Rattle.std.proofs.lemmas.Bool.{ne_eqb}
use Rattle.std.specs.List.{AllByRecursion, flat_map}
use Rattle.std.specs.Int.{w32, to_be_bytes}
use Rattle.cat_values.specs.declared.list_of.TheConstants.{LIST_END}
use Rattle.change_codec.specs.Forms.{Form, Reading, ◌>>=◌, count_read}
use Rattle.change_codec.specs.Whole.{AreBytes}
use Rattle.change_codec.proofs.Bind.{bind_ok, let_ok, ok_is, AreBytes-behind}
use Rattle.change_codec.proofs.Numbers.{IsLawful, count_again, count_spelled}
use Rattle.change_codec.proofs.Places.{IsSteady, both-steady, count-steady, err_is, given-steady, judged-steady}
use Rattle.dump_files.specs.Files.{AllStand, Rule, element_read, elements_read, file_of, file_read}

-- reading that stops at once
stopped-steady : {T : Type 0} → IsSteady {T = T} (λ bytes. Err (length bytes))
stopped-steady {T} = record {
  took = λ bytes value rest e. absurd (let none : Err (length bytes) ≡ Ok (value, rest) = e in cc);
  stops = λ bytes left e. record {
    before = [];
    behind = bytes;
    parts = refl;
    place = sym (err_is {A = T × List ℕ} (length bytes) left e);
    early = refl;
    stays = λ some more. refl;
  };
}

-- reading that stops at once, or another
unless-steady : {T : Type 0} (b : Bool) (read : List ℕ → Reading T) → IsSteady read → IsSteady (λ bytes. cond b (Err (length bytes)) (read bytes))
unless-steady true read p = stopped-steady
unless-steady false read p = p

module _ {T : Type 0} (rule : Rule T) (read : List ℕ → Reading T) (p : IsSteady read) (none : read [] ≡ Err 0) where
  pub element-steady : (stands : T → Bool) → IsSteady (element_read stands read)
  unfolding element_read
  element-steady stands = judged-steady read stands p none

  pub elements-steady : (count : ℕ) (last : Option T) (place : ℕ) → IsSteady (elements_read rule read count last place)
  unfolding elements_read
  elements-steady zero last place = given-steady []
  elements-steady (suc count) last place =
      both-steady {B = List T} (element_read (rule last place) read) (λ element rest. elements_read rule read count (Some element) (suc place) rest >>= λ others. Ok (element ∷ others.0, others.1)) (element-steady (rule last place))
      (λ element. both-steady {B = List T} (elements_read rule read count (Some element) (suc place)) (λ others rest. Ok (element ∷ others, rest)) (elements-steady count (Some element) (suc place)) (λ others. given-steady (element ∷ others)))

  pub file-steady : (last : Option T) → IsSteady (file_read rule last read)
  unfolding file_read
  file-steady last =
      both-steady (count_read (LIST_END - 1)) (λ count rest. cond (count == 0) (Err (length rest)) (elements_read rule read count last 0 rest)) (count-steady (LIST_END - 1))
      (λ count. unless-steady (count == 0) (elements_read rule read count last 0) (elements-steady count last 0))

-- a list with an element has a count that isn't 0
some_count : {T : Type 0} (elements : List T) → elements ≢ [] → (length elements == 0) ≡ false
some_count [] some = absurd (some refl)
some_count (x ∷ xs) some = ne_eqb (length (x ∷ xs)) 0 (λ e. absurd (omega (arith, e)))

count_some : {T : Type 0} (elements : List T) (count : ℕ) → length elements ≡ count → (count == 0) ≡ false → elements ≢ []
count_some [] count len some none = let zero_count : (count == 0) ≡ true = rw (sym len) refl in absurd (let never : true ≡ false = sym zero_count ∙ some in cc)
count_some (x ∷ xs) count len some none = absurd cc

module _ {T : Type 0} (rule : Rule T) (form : Form T) (p : IsLawful form) where
  element_again : (stands : T → Bool) (value : T) (rest : List ℕ) → stands value ≡ true → form.HasCode value → element_read stands form.read (form.code value ++ rest) ≡ Ok (value, rest)
  unfolding element_read
  element_again stands value rest s f = rw (p.again value rest f, s) refl

  element_parts : (stands : T → Bool) (bytes : List ℕ) (value : T) (rest : List ℕ) → element_read stands form.read bytes ≡ Ok (value, rest) → (form.read bytes ≡ Ok (value, rest)) × (stands value ≡ true)
  unfolding element_read
  element_parts stands bytes value rest e =
      let x = bind_ok (form.read bytes) (λ y. cond (stands y.0) (Ok y) (Err (length bytes))) (value, rest) e in
      let l = let_ok (stands x.0.0) (length bytes) x.0 (value, rest) x.2 in
      subst (λ (y : T × List ℕ). (form.read bytes ≡ Ok y) × (stands y.0 ≡ true)) l.1 (x.1, l.0)

  elements_again : (elements : List T) (last : Option T) (place : ℕ) (rest : List ℕ) → AllStand rule last place elements → AllByRecursion form.HasCode elements
      → elements_read rule form.read (length elements) last place (flat_map form.code elements ++ rest) ≡ Ok (elements, rest)
  unfolding elements_read
  elements_again [] last place rest s f = refl
  elements_again (x ∷ xs) last place rest s f =
      rw (
        append_assoc (form.code x) (flat_map form.code xs) rest,
        element_again (rule last place) x (flat_map form.code xs ++ rest) s.0 f.0,
        elements_again xs (Some x) (suc place) rest s.1 f.1,
      ) refl

  pub record Read (count : ℕ) (last : Option T) (place : ℕ) (bytes : List ℕ) (elements : List T) (rest : List ℕ) : Type 0 where
    pub is : bytes ≡ flat_map form.code elements ++ rest
    pub fits : AllByRecursion form.HasCode elements
    pub len : length elements ≡ count
    pub stand : AllStand rule last place elements

  elements_spelled : (count : ℕ) (last : Option T) (place : ℕ) (bytes : List ℕ) (elements : List T) (rest : List ℕ) → AreBytes bytes → elements_read rule form.read count last place bytes ≡ Ok (elements, rest) → Read count last place bytes elements rest
  unfolding elements_read
  elements_spelled zero last place bytes elements rest are e =
      subst (λ (r : List T × List ℕ). Read 0 last place bytes r.0 r.1) (ok_is ([], bytes) (elements, rest) e) (record { is = refl; fits = tt; len = refl; stand = tt })
  elements_spelled (suc count) last place bytes elements rest are e =
      let x = bind_ok (element_read (rule last place) form.read bytes) (λ v. elements_read rule form.read count (Some v.0) (suc place) v.1 >>= λ o. Ok (v.0 ∷ o.0, o.1)) (elements, rest) e in
      let y = bind_ok (elements_read rule form.read count (Some x.0.0) (suc place) x.0.1) (λ o. Ok (x.0.0 ∷ o.0, o.1)) (elements, rest) x.2 in
      let v = element_parts (rule last place) bytes x.0.0 x.0.1 x.1 in
      let s = p.spelled bytes x.0.0 x.0.1 are v.0 in
      let t = elements_spelled count (Some x.0.0) (suc place) x.0.1 y.0.0 y.0.1 (AreBytes-behind (form.code x.0.0) x.0.1 (subst AreBytes s.0 are)) y.1 in
      subst (λ (r : List T × List ℕ). Read (suc count) last place bytes r.0 r.1) (ok_is (x.0.0 ∷ y.0.0, y.0.1) (elements, rest) y.2)
      (record {
        is = s.0 ∙ ap (λ (l : List ℕ). form.code x.0.0 ++ l) t.is ∙ sym (append_assoc (form.code x.0.0) (flat_map form.code y.0.0) y.0.1);
        fits = (s.1, t.fits);
        len = ap (λ (n : ℕ). suc n) t.len;
        stand = (v.1, t.stand);
      })

  file_again : (last : Option T) (elements : List T) (rest : List ℕ) → (file_of rule form last).HasCode elements → file_read rule last form.read ((file_of rule form last).code elements ++ rest) ≡ Ok (elements, rest)
  unfolding file_read
  file_again last elements rest f =
      rw (
        append_assoc (to_be_bytes w32 (length elements)) (flat_map form.code elements) rest,
        count_again (LIST_END - 1) (length elements) (flat_map form.code elements ++ rest) (omega (arith, f.1.0)) (omega (arith, f.1.0)),
        some_count elements f.0.0,
        elements_again elements last 0 rest f.0.1 f.1.1,
      ) refl

  file_spelled : (last : Option T) (bytes : List ℕ) (elements : List T) (rest : List ℕ) → AreBytes bytes → file_read rule last form.read bytes ≡ Ok (elements, rest)
      → (bytes ≡ (file_of rule form last).code elements ++ rest) × (file_of rule form last).HasCode elements
  unfolding file_read
  file_spelled last bytes elements rest are e =
      let x = bind_ok (count_read (LIST_END - 1) bytes) (λ n. cond (n.0 == 0) (Err (length n.1)) (elements_read rule form.read n.0 last 0 n.1)) (elements, rest) e in
      let g = read_on (x.0.0 == 0) (length x.0.1) (elements_read rule form.read x.0.0 last 0 x.0.1) (elements, rest) x.2 in
      let n = count_spelled (LIST_END - 1) bytes x.0.0 x.0.1 are x.1 in
      let t = elements_spelled x.0.0 last 0 x.0.1 elements rest (AreBytes-behind (to_be_bytes w32 x.0.0) x.0.1 (subst AreBytes n.0 are)) g.1 in (
        n.0 ∙ ap (λ (l : List ℕ). to_be_bytes w32 x.0.0 ++ l) t.is ∙ sym (append_assoc (to_be_bytes w32 x.0.0) (flat_map form.code elements) rest) ∙ ap (λ (m : ℕ). (to_be_bytes w32 m ++ flat_map form.code elements) ++ rest) (sym t.len),
        ((count_some elements x.0.0 t.len g.0, t.stand), (omega (arith, t.len, n.1), t.fits)),
      )
    where
      read_on : (b : Bool) (left : ℕ) (r : Reading (List T)) (y : List T × List ℕ) → cond b (Err left) r ≡ Ok y → (b ≡ false) × (r ≡ Ok y)
      read_on true left r y e = absurd (let never : Err left ≡ Ok y = e in cc)
      read_on false left r y e = (refl, e)

  pub file-lawful : (last : Option T) → IsLawful (file_of rule form last)
  file-lawful last = record { again = file_again last; spelled = file_spelled last }
