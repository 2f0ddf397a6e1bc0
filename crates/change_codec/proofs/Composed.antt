-- Values that are made of others are read as they are written, where the others are.
use Rattle.std.proofs.Common.{◌≡◌, ℕ, zero, suc, ◌-◌, ◌<◌, true, cond, List, [], ◌∷◌, ◌++◌, length, Option, Some, None, Ok, Err, refl, sym, ap, subst, ◌∙◌, append_assoc, arith}
use Rattle.std.specs.Cmp.{IsTotalOrder}
use Rattle.std.specs.Int.{w32, to_be_bytes}
use Rattle.std.specs.List.{AllByRecursion, flat_map}
use Rattle.std.specs.List.Sorted.{IsStrictlySortedBy}
use Rattle.std.specs.Map.{keys_of}
use Rattle.std.specs.Ordering.{is_lt}
use Rattle.std.specs.Prelude.{IfSome}
use Rattle.std.specs.declared.cmp.Ordering.{Ordering}
use Rattle.std.specs.declared.cmp.Ordering.TheVariants.{Less}
use Rattle.cat_values.specs.declared.list_of.TheConstants.{LIST_END}
use Rattle.change_codec.specs.Forms.{Form, ◌>>=◌, ◌⊗◌, count_read, four, four_read, list_code, list_of, list_read, made, made_read, map_of, map_read, option_code, option_read, optional, pairs_read, rises, rising_read, then_read, three, three_read, values_read}
use Rattle.change_codec.specs.Whole.{AreBytes}
use Rattle.change_codec.proofs.Bind.{bind_ok, let_ok, ok_is, AreBytes-behind}
use Rattle.change_codec.proofs.Numbers.{IsLawful, count_again, count_spelled}
use Rattle.change_codec.proofs.Rising.{less}

-- bytes behind a value that was read
behind : {T : Type 0} (form : Form T) (bytes : List ℕ) (value : T) (rest : List ℕ) → AreBytes bytes → bytes ≡ form.code value ++ rest → AreBytes rest
behind form bytes value rest are is = AreBytes-behind (form.code value) rest (subst AreBytes is are)

-- ---- one behind the other

module _ {A B : Type 0} (first : Form A) (second : Form B) (p : IsLawful first) (q : IsLawful second) where
  then_again : (a : A) (b : B) (rest : List ℕ) → first.HasCode a → second.HasCode b → then_read first.read second.read ((first.code a ++ second.code b) ++ rest) ≡ Ok ((a, b), rest)
  unfolding then_read
  then_again a b rest f g = rw (append_assoc (first.code a) (second.code b) rest, p.again a (second.code b ++ rest) f, q.again b rest g) refl

  then_spelled : (bytes : List ℕ) (value : A × B) (rest : List ℕ) → AreBytes bytes → then_read first.read second.read bytes ≡ Ok (value, rest) → (bytes ≡ (first ⊗ second).code value ++ rest) × (first ⊗ second).HasCode value
  unfolding then_read
  then_spelled bytes value rest are e =
      let x = bind_ok (first.read bytes) (λ a. second.read a.1 >>= λ b. Ok ((a.0, b.0), b.1)) (value, rest) e in
      let y = bind_ok (second.read x.0.1) (λ b. Ok ((x.0.0, b.0), b.1)) (value, rest) x.2 in
      let s = p.spelled bytes x.0.0 x.0.1 are x.1 in
      let t = q.spelled x.0.1 y.0.0 y.0.1 (behind first bytes x.0.0 x.0.1 are s.0) y.1 in
      subst (λ (r : (A × B) × List ℕ). (bytes ≡ (first ⊗ second).code r.0 ++ r.1) × (first ⊗ second).HasCode r.0) (ok_is ((x.0.0, y.0.0), y.0.1) (value, rest) y.2)
      (s.0 ∙ ap (λ (l : List ℕ). first.code x.0.0 ++ l) t.0 ∙ sym (append_assoc (first.code x.0.0) (second.code y.0.0) y.0.1), (s.1, t.1))

  pub then-lawful : IsLawful (first ⊗ second)
  then-lawful = record { again = λ v rest f. then_again v.0 v.1 rest f.0 f.1; spelled = then_spelled }

joined3 : (a b c rest : List ℕ) → a ++ (b ++ (c ++ rest)) ≡ ((a ++ b) ++ c) ++ rest
joined3 a b c rest = sym (append_assoc a b (c ++ rest)) ∙ sym (append_assoc (a ++ b) c rest)

module _ {A B C : Type 0} (first : Form A) (second : Form B) (third : Form C) (p : IsLawful first) (q : IsLawful second) (r : IsLawful third) where
  three_again : (a : A) (b : B) (c : C) (rest : List ℕ) → first.HasCode a → second.HasCode b → third.HasCode c
      → three_read first.read second.read third.read (((first.code a ++ second.code b) ++ third.code c) ++ rest) ≡ Ok ((a, b, c), rest)
  unfolding three_read
  three_again a b c rest f g h =
      rw (
        append_assoc (first.code a ++ second.code b) (third.code c) rest,
        append_assoc (first.code a) (second.code b) (third.code c ++ rest),
        p.again a (second.code b ++ (third.code c ++ rest)) f,
        q.again b (third.code c ++ rest) g,
        r.again c rest h,
      ) refl

  three_spelled : (bytes : List ℕ) (value : A × B × C) (rest : List ℕ) → AreBytes bytes → three_read first.read second.read third.read bytes ≡ Ok (value, rest)
      → (bytes ≡ (three first second third).code value ++ rest) × (three first second third).HasCode value
  unfolding three_read
  three_spelled bytes value rest are e =
      let x = bind_ok {B = A × B × C} (first.read bytes) (λ a. second.read a.1 >>= λ b. third.read b.1 >>= λ c. Ok ((a.0, b.0, c.0), c.1)) (value, rest) e in
      let y = bind_ok {B = A × B × C} (second.read x.0.1) (λ b. third.read b.1 >>= λ c. Ok ((x.0.0, b.0, c.0), c.1)) (value, rest) x.2 in
      let z = bind_ok {B = A × B × C} (third.read y.0.1) (λ c. Ok ((x.0.0, y.0.0, c.0), c.1)) (value, rest) y.2 in
      let s = p.spelled bytes x.0.0 x.0.1 are x.1 in
      let are1 = behind first bytes x.0.0 x.0.1 are s.0 in
      let t = q.spelled x.0.1 y.0.0 y.0.1 are1 y.1 in
      let u = r.spelled y.0.1 z.0.0 z.0.1 (behind second x.0.1 y.0.0 y.0.1 are1 t.0) z.1 in
      let code0 = first.code x.0.0 in
      let code1 = second.code y.0.0 in
      let code2 = third.code z.0.0 in
      subst (λ (v : (A × B × C) × List ℕ). (bytes ≡ (three first second third).code v.0 ++ v.1) × (three first second third).HasCode v.0) (ok_is ((x.0.0, y.0.0, z.0.0), z.0.1) (value, rest) z.2)
      (s.0 ∙ ap (λ (l : List ℕ). code0 ++ l) (t.0 ∙ ap (λ (l : List ℕ). code1 ++ l) u.0) ∙ joined3 code0 code1 code2 z.0.1, (s.1, t.1, u.1))

  pub three-lawful : IsLawful (three first second third)
  three-lawful = record { again = λ v rest f. three_again v.0 v.1 v.2 rest f.0 f.1 f.2; spelled = three_spelled }

module _ {A B C D : Type 0} (first : Form A) (second : Form B) (third : Form C) (fourth : Form D) (p : IsLawful first) (q : IsLawful second) (r : IsLawful third) (s : IsLawful fourth) where
  four_again : (a : A) (b : B) (c : C) (d : D) (rest : List ℕ) → first.HasCode a → second.HasCode b → third.HasCode c → fourth.HasCode d
      → four_read first.read second.read third.read fourth.read ((((first.code a ++ second.code b) ++ third.code c) ++ fourth.code d) ++ rest) ≡ Ok ((a, b, c, d), rest)
  unfolding four_read
  four_again a b c d rest f g h i =
      rw (
        append_assoc ((first.code a ++ second.code b) ++ third.code c) (fourth.code d) rest,
        append_assoc (first.code a ++ second.code b) (third.code c) (fourth.code d ++ rest),
        append_assoc (first.code a) (second.code b) (third.code c ++ (fourth.code d ++ rest)),
        p.again a (second.code b ++ (third.code c ++ (fourth.code d ++ rest))) f,
        q.again b (third.code c ++ (fourth.code d ++ rest)) g,
        r.again c (fourth.code d ++ rest) h,
        s.again d rest i,
      ) refl

  four_spelled : (bytes : List ℕ) (value : A × B × C × D) (rest : List ℕ) → AreBytes bytes → four_read first.read second.read third.read fourth.read bytes ≡ Ok (value, rest)
      → (bytes ≡ (four first second third fourth).code value ++ rest) × (four first second third fourth).HasCode value
  unfolding four_read
  four_spelled bytes value rest are e =
      let x = bind_ok {B = A × B × C × D} (first.read bytes) (λ a. second.read a.1 >>= λ b. third.read b.1 >>= λ c. fourth.read c.1 >>= λ d. Ok ((a.0, b.0, c.0, d.0), d.1)) (value, rest) e in
      let y = bind_ok {B = A × B × C × D} (second.read x.0.1) (λ b. third.read b.1 >>= λ c. fourth.read c.1 >>= λ d. Ok ((x.0.0, b.0, c.0, d.0), d.1)) (value, rest) x.2 in
      let z = bind_ok {B = A × B × C × D} (third.read y.0.1) (λ c. fourth.read c.1 >>= λ d. Ok ((x.0.0, y.0.0, c.0, d.0), d.1)) (value, rest) y.2 in
      let w = bind_ok {B = A × B × C × D} (fourth.read z.0.1) (λ d. Ok ((x.0.0, y.0.0, z.0.0, d.0), d.1)) (value, rest) z.2 in
      let t = p.spelled bytes x.0.0 x.0.1 are x.1 in
      let are1 = behind first bytes x.0.0 x.0.1 are t.0 in
      let u = q.spelled x.0.1 y.0.0 y.0.1 are1 y.1 in
      let are2 = behind second x.0.1 y.0.0 y.0.1 are1 u.0 in
      let v = r.spelled y.0.1 z.0.0 z.0.1 are2 z.1 in
      let o = s.spelled z.0.1 w.0.0 w.0.1 (behind third y.0.1 z.0.0 z.0.1 are2 v.0) w.1 in
      let code0 = first.code x.0.0 in
      let code1 = second.code y.0.0 in
      let code2 = third.code z.0.0 in
      let code3 = fourth.code w.0.0 in
      subst (λ (n : (A × B × C × D) × List ℕ). (bytes ≡ (four first second third fourth).code n.0 ++ n.1) × (four first second third fourth).HasCode n.0) (ok_is ((x.0.0, y.0.0, z.0.0, w.0.0), w.0.1) (value, rest) w.2)
      (t.0 ∙ ap (λ (l : List ℕ). code0 ++ l) (u.0 ∙ ap (λ (l : List ℕ). code1 ++ l) (v.0 ∙ ap (λ (l : List ℕ). code2 ++ l) o.0)) ∙ joined3 code0 code1 code2 (code3 ++ w.0.1) ∙ sym (append_assoc ((code0 ++ code1) ++ code2) code3 w.0.1), (t.1, u.1, v.1, o.1))

  pub four-lawful : IsLawful (four first second third fourth)
  four-lawful = record { again = λ v rest f. four_again v.0 v.1 v.2 v.3 rest f.0 f.1 f.2 f.3; spelled = four_spelled }

-- ---- made of parts

module _ {A B : Type 0} (make : A → B) (form : Form A) (p : IsLawful form) where
  pub made_again : (a : A) (rest : List ℕ) → form.HasCode a → made_read make form.read (form.code a ++ rest) ≡ Ok (make a, rest)
  unfolding made_read
  made_again a rest f = rw (p.again a rest f) refl

  pub made_parts : (bytes : List ℕ) (value : B) (rest : List ℕ) → AreBytes bytes → made_read make form.read bytes ≡ Ok (value, rest) → (a : A) × (make a ≡ value) × (bytes ≡ form.code a ++ rest) × form.HasCode a
  unfolding made_read
  made_parts bytes value rest are e =
      let x = bind_ok (form.read bytes) (λ a. Ok (make a.0, a.1)) (value, rest) e in
      let s = p.spelled bytes x.0.0 x.0.1 are x.1 in
      let is = ok_is (make x.0.0, x.0.1) (value, rest) x.2 in
      (x.0.0, ap (λ (r : B × List ℕ). r.0) is, s.0 ∙ ap (λ (r : B × List ℕ). form.code x.0.0 ++ r.1) is, s.1)

pub made-lawful : {A B : Type 0} (make : A → B) (parts : B → A) (form : Form A) → IsLawful form → ((b : B) → make (parts b) ≡ b) → ((a : A) → parts (make a) ≡ a) → IsLawful (made make parts form)
made-lawful {A} {B} make parts form p back forth = record {
  again = λ v rest f. made_again make form p (parts v) rest f ∙ ap (λ (b : B). Ok (b, rest)) (back v);
  spelled = λ bytes v rest are e.
      let x = made_parts make form p bytes v rest are e in
      let same : parts v ≡ x.0 = sym (ap parts x.1) ∙ forth x.0 in
      subst (λ (a : A). (bytes ≡ form.code a ++ rest) × form.HasCode a) (sym same) (x.2, x.3);
}

-- ---- options

module _ {T : Type 0} (form : Form T) (p : IsLawful form) where
  option_again : (o : Option T) (rest : List ℕ) → IfSome o form.HasCode → option_read form.read (option_code form.code o ++ rest) ≡ Ok (o, rest)
  unfolding option_read
  option_again None rest f = refl
  option_again (Some v) rest f = rw (p.again v rest f) refl

  option_spelled : (bytes : List ℕ) (o : Option T) (rest : List ℕ) → AreBytes bytes → option_read form.read bytes ≡ Ok (o, rest) → (bytes ≡ option_code form.code o ++ rest) × IfSome o form.HasCode
  unfolding option_read
  option_spelled [] o rest are e = absurd cc
  option_spelled (zero ∷ bytes) o rest are e = subst (λ (r : Option T × List ℕ). (0 ∷ bytes ≡ option_code form.code r.0 ++ r.1) × IfSome r.0 form.HasCode) (ok_is (None, bytes) (o, rest) e) (refl, tt)
  option_spelled (suc zero ∷ bytes) o rest are e =
      let x = bind_ok (form.read bytes) (λ v. Ok (Some v.0, v.1)) (o, rest) e in
      let s = p.spelled bytes x.0.0 x.0.1 (AreBytes-behind (1 ∷ []) bytes are) x.1 in
      subst (λ (r : Option T × List ℕ). (1 ∷ bytes ≡ option_code form.code r.0 ++ r.1) × IfSome r.0 form.HasCode) (ok_is (Some x.0.0, x.0.1) (o, rest) x.2) (ap (λ (l : List ℕ). 1 ∷ l) s.0, s.1)
  option_spelled (suc (suc n) ∷ bytes) o rest are e = absurd cc

  pub optional-lawful : IsLawful (optional form)
  optional-lawful = record { again = option_again; spelled = option_spelled }

  -- ---- lists

  values_again : (values : List T) (rest : List ℕ) → AllByRecursion form.HasCode values → values_read form.read (length values) (flat_map form.code values ++ rest) ≡ Ok (values, rest)
  unfolding values_read
  values_again [] rest f = refl
  values_again (v ∷ values) rest f =
      rw (append_assoc (form.code v) (flat_map form.code values) rest, p.again v (flat_map form.code values ++ rest) f.0, values_again values rest f.1) refl

  values_spelled : (count : ℕ) (bytes : List ℕ) (values : List T) (rest : List ℕ) → AreBytes bytes → values_read form.read count bytes ≡ Ok (values, rest) → (bytes ≡ flat_map form.code values ++ rest) × AllByRecursion form.HasCode values × (length values ≡ count)
  unfolding values_read
  values_spelled zero bytes values rest are e =
      subst (λ (r : List T × List ℕ). (bytes ≡ flat_map form.code r.0 ++ r.1) × AllByRecursion form.HasCode r.0 × (length r.0 ≡ 0)) (ok_is ([], bytes) (values, rest) e) (refl, tt, refl)
  values_spelled (suc count) bytes values rest are e =
      let x = bind_ok (form.read bytes) (λ v. values_read form.read count v.1 >>= λ o. Ok (v.0 ∷ o.0, o.1)) (values, rest) e in
      let y = bind_ok (values_read form.read count x.0.1) (λ o. Ok (x.0.0 ∷ o.0, o.1)) (values, rest) x.2 in
      let s = p.spelled bytes x.0.0 x.0.1 are x.1 in
      let t = values_spelled count x.0.1 y.0.0 y.0.1 (behind form bytes x.0.0 x.0.1 are s.0) y.1 in
      subst (λ (r : List T × List ℕ). (bytes ≡ flat_map form.code r.0 ++ r.1) × AllByRecursion form.HasCode r.0 × (length r.0 ≡ suc count)) (ok_is (x.0.0 ∷ y.0.0, y.0.1) (values, rest) y.2)
      (s.0 ∙ ap (λ (l : List ℕ). form.code x.0.0 ++ l) t.0 ∙ sym (append_assoc (form.code x.0.0) (flat_map form.code y.0.0) y.0.1), (s.1, t.1), ap suc t.2)

  list_again : (values : List T) (rest : List ℕ) → length values < LIST_END → AllByRecursion form.HasCode values → list_read form.read (list_code form.code values ++ rest) ≡ Ok (values, rest)
  unfolding list_read
  list_again values rest lt f =
      rw (append_assoc (to_be_bytes w32 (length values)) (flat_map form.code values) rest, count_again (LIST_END - 1) (length values) (flat_map form.code values ++ rest) (omega (arith, lt)) (omega (arith, lt)), values_again values rest f) refl

  list_spelled : (bytes : List ℕ) (values : List T) (rest : List ℕ) → AreBytes bytes → list_read form.read bytes ≡ Ok (values, rest) → (bytes ≡ list_code form.code values ++ rest) × ((length values < LIST_END) × AllByRecursion form.HasCode values)
  unfolding list_read
  list_spelled bytes values rest are e =
      let x = bind_ok (count_read (LIST_END - 1) bytes) (λ count. values_read form.read count.0 count.1) (values, rest) e in
      let n = count_spelled (LIST_END - 1) bytes x.0.0 x.0.1 are x.1 in
      let s = values_spelled x.0.0 x.0.1 values rest (AreBytes-behind (to_be_bytes w32 x.0.0) x.0.1 (subst AreBytes n.0 are)) x.2 in (
        n.0 ∙ ap (λ (l : List ℕ). to_be_bytes w32 x.0.0 ++ l) s.0 ∙ sym (append_assoc (to_be_bytes w32 x.0.0) (flat_map form.code values) rest) ∙ ap (λ (m : ℕ). (to_be_bytes w32 m ++ flat_map form.code values) ++ rest) (sym s.2),
        (omega (arith, s.2, n.1), s.1),
      )

  pub list-lawful : IsLawful (list_of form)
  list-lawful = record { again = λ v rest f. list_again v rest f.0 f.1; spelled = list_spelled }

-- ---- maps

module _ {K V : Type 0} (cmp : K → K → Ordering) (laws : IsTotalOrder cmp) (key : Form K) (value : Form V) (p : IsLawful key) (q : IsLawful value) where
  rising_again : (before : Option K) (k : K) (rest : List ℕ) → key.HasCode k → rises cmp before k ≡ true → rising_read cmp key.read before (key.code k ++ rest) ≡ Ok (k, rest)
  unfolding rising_read
  rising_again before k rest f up = rw (p.again k rest f, up) refl

  -- the first key is above the one before
  abbrev Begins : Option K → List (K × V) → Type 0
  Begins before [] = Unit {0}
  Begins before (pair ∷ pairs) = rises cmp before pair.0 ≡ true

  next_begins : (pair : K × V) (pairs : List (K × V)) → AllByRecursion (λ y. cmp pair.0 y ≡ Less) (keys_of pairs) → Begins (Some pair.0) pairs
  next_begins pair [] all = tt
  next_begins pair (next ∷ pairs) all = ap is_lt all.0

  pairs_again : (before : Option K) (pairs : List (K × V)) (rest : List ℕ) → Begins before pairs → IsStrictlySortedBy cmp (keys_of pairs) → AllByRecursion (key ⊗ value).HasCode pairs
      → pairs_read cmp key.read value.read (length pairs) before (flat_map (key ⊗ value).code pairs ++ rest) ≡ Ok (pairs, rest)
  unfolding pairs_read IsStrictlySortedBy
  pairs_again before [] rest up sorted f = refl
  pairs_again before (pair ∷ pairs) rest up sorted f =
      let others = flat_map (key ⊗ value).code pairs in
      rw (
        append_assoc (key.code pair.0 ++ value.code pair.1) others rest,
        append_assoc (key.code pair.0) (value.code pair.1) (others ++ rest),
        rising_again before pair.0 (value.code pair.1 ++ (others ++ rest)) f.0.0 up,
        q.again pair.1 (others ++ rest) f.0.1,
        pairs_again (Some pair.0) pairs rest (next_begins pair pairs sorted.0) sorted.1 f.1,
      ) refl

  -- keys above the one before
  abbrev Above : Option K → List K → Type 0
  Above None keys = Unit {0}
  Above (Some before) keys = AllByRecursion (λ y. cmp before y ≡ Less) keys

  all_above : (before k : K) (keys : List K) → cmp before k ≡ Less → AllByRecursion (λ y. cmp k y ≡ Less) keys → AllByRecursion (λ y. cmp before y ≡ Less) keys
  all_above before k [] lt all = tt
  all_above before k (y ∷ keys) lt all = (laws.trans before k y lt all.0, all_above before k keys lt all.1)

  above_next : (before : Option K) (k : K) (keys : List K) → rises cmp before k ≡ true → AllByRecursion (λ y. cmp k y ≡ Less) keys → Above before (k ∷ keys)
  above_next None k keys up all = tt
  above_next (Some before) k keys up all = let lt = less (cmp before k) up in (lt, all_above before k keys lt all)

  pub record Read (count : ℕ) (before : Option K) (bytes : List ℕ) (pairs : List (K × V)) (rest : List ℕ) : Type 0 where
    pub is : bytes ≡ flat_map (key ⊗ value).code pairs ++ rest
    pub fits : AllByRecursion (key ⊗ value).HasCode pairs
    pub len : length pairs ≡ count
    pub sorted : IsStrictlySortedBy cmp (keys_of pairs)
    pub above : Above before (keys_of pairs)

  none_above : (before : Option K) → Above before []
  none_above None = tt
  none_above (Some k) = tt

  rising_spelled : (before : Option K) (bytes : List ℕ) (k : K) (rest : List ℕ) → rising_read cmp key.read before bytes ≡ Ok (k, rest) → (key.read bytes ≡ Ok (k, rest)) × (rises cmp before k ≡ true)
  unfolding rising_read
  rising_spelled before bytes k rest e =
      let x = bind_ok (key.read bytes) (λ y. cond (rises cmp before y.0) (Ok y) (Err (length bytes))) (k, rest) e in
      let l = let_ok (rises cmp before x.0.0) (length bytes) x.0 (k, rest) x.2 in
      subst (λ (y : K × List ℕ). (key.read bytes ≡ Ok y) × (rises cmp before y.0 ≡ true)) l.1 (x.1, l.0)

  pairs_spelled : (count : ℕ) (before : Option K) (bytes : List ℕ) (pairs : List (K × V)) (rest : List ℕ) → AreBytes bytes → pairs_read cmp key.read value.read count before bytes ≡ Ok (pairs, rest) → Read count before bytes pairs rest
  unfolding pairs_read IsStrictlySortedBy
  pairs_spelled zero before bytes pairs rest are e =
      subst (λ (r : List (K × V) × List ℕ). Read 0 before bytes r.0 r.1) (ok_is ([], bytes) (pairs, rest) e) (record { is = refl; fits = tt; len = refl; sorted = tt; above = none_above before })
  pairs_spelled (suc count) before bytes pairs rest are e =
      let x = bind_ok (rising_read cmp key.read before bytes) (λ k. value.read k.1 >>= λ v. pairs_read cmp key.read value.read count (Some k.0) v.1 >>= λ o. Ok ((k.0, v.0) ∷ o.0, o.1)) (pairs, rest) e in
      let y = bind_ok (value.read x.0.1) (λ v. pairs_read cmp key.read value.read count (Some x.0.0) v.1 >>= λ o. Ok ((x.0.0, v.0) ∷ o.0, o.1)) (pairs, rest) x.2 in
      let z = bind_ok (pairs_read cmp key.read value.read count (Some x.0.0) y.0.1) (λ o. Ok ((x.0.0, y.0.0) ∷ o.0, o.1)) (pairs, rest) y.2 in
      let k = rising_spelled before bytes x.0.0 x.0.1 x.1 in
      let s = p.spelled bytes x.0.0 x.0.1 are k.0 in
      let are1 = behind key bytes x.0.0 x.0.1 are s.0 in
      let t = q.spelled x.0.1 y.0.0 y.0.1 are1 y.1 in
      let others = pairs_spelled count (Some x.0.0) y.0.1 z.0.0 z.0.1 (behind value x.0.1 y.0.0 y.0.1 are1 t.0) z.1 in
      let code = flat_map (key ⊗ value).code z.0.0 in
      subst (λ (r : List (K × V) × List ℕ). Read (suc count) before bytes r.0 r.1) (ok_is ((x.0.0, y.0.0) ∷ z.0.0, z.0.1) (pairs, rest) z.2) (record {
        is = s.0 ∙ ap (λ (l : List ℕ). key.code x.0.0 ++ l) (t.0 ∙ ap (λ (l : List ℕ). value.code y.0.0 ++ l) others.is)
            ∙ sym (append_assoc (key.code x.0.0) (value.code y.0.0) (code ++ z.0.1)) ∙ sym (append_assoc (key.code x.0.0 ++ value.code y.0.0) code z.0.1);
        fits = ((s.1, t.1), others.fits);
        len = ap suc others.len;
        sorted = (others.above, others.sorted);
        above = above_next before x.0.0 (keys_of z.0.0) k.1 others.above;
      })

  map_again : (pairs : List (K × V)) (rest : List ℕ) → (map_of cmp key value).HasCode pairs → map_read cmp key.read value.read (list_code (key ⊗ value).code pairs ++ rest) ≡ Ok (pairs, rest)
  unfolding map_read
  map_again pairs rest f =
      let code = flat_map (key ⊗ value).code pairs in
      rw (append_assoc (to_be_bytes w32 (length pairs)) code rest, count_again (LIST_END - 1) (length pairs) (code ++ rest) (omega (arith, f.0)) (omega (arith, f.0))) (pairs_again None pairs rest (first pairs) f.1 f.2)
    where
      first : (pairs : List (K × V)) → Begins None pairs
      first [] = tt
      first (pair ∷ pairs) = refl

  map_spelled : (bytes : List ℕ) (pairs : List (K × V)) (rest : List ℕ) → AreBytes bytes → map_read cmp key.read value.read bytes ≡ Ok (pairs, rest) → (bytes ≡ list_code (key ⊗ value).code pairs ++ rest) × (map_of cmp key value).HasCode pairs
  unfolding map_read
  map_spelled bytes pairs rest are e =
      let x = bind_ok (count_read (LIST_END - 1) bytes) (λ count. pairs_read cmp key.read value.read count.0 None count.1) (pairs, rest) e in
      let n = count_spelled (LIST_END - 1) bytes x.0.0 x.0.1 are x.1 in
      let s = pairs_spelled x.0.0 None x.0.1 pairs rest (AreBytes-behind (to_be_bytes w32 x.0.0) x.0.1 (subst AreBytes n.0 are)) x.2 in
      let code = flat_map (key ⊗ value).code pairs in (
        n.0 ∙ ap (λ (l : List ℕ). to_be_bytes w32 x.0.0 ++ l) s.is ∙ sym (append_assoc (to_be_bytes w32 x.0.0) code rest) ∙ ap (λ (m : ℕ). (to_be_bytes w32 m ++ code) ++ rest) (sym s.len),
        (omega (arith, s.len, n.1), s.sorted, s.fits),
      )

  pub map-lawful : IsLawful (map_of cmp key value)
  map-lawful = record { again = map_again; spelled = map_spelled }
