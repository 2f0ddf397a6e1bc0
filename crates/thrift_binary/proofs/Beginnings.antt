-- At the front of a text of bytes either a value of a kind is spelled, or the text stops to spell one. This is so of a kind that is made of such kinds.
use Rattle.std.proofs.Common.{◌≡◌, ◌≢◌, ℕ, zero, suc, ◌+◌, ◌<◌, ◌≤◌, ◌⊎◌, List, [], ◌∷◌, ◌++◌, length, take, drop, refl, sym, ap, ◌∙◌, subst, append_assoc, append-nil, arith, inl, inr, length-append}
use Rattle.std.proofs.lemmas.Bool.{cases_lt}
use Rattle.std.proofs.lemmas.List.{take-append-drop, length-take-le}
use Rattle.thrift_binary.specs.Laws.{AreBytes}
use Rattle.thrift_binary.specs.Taking.{Stop, Cut, Bad, Large, moved}
use Rattle.thrift_binary.specs.Wire.{IsThen, StopsThen}
use Rattle.thrift_binary.proofs.Reading.{moved-moved, moved-zero}

-- ---- bytes

pub bytes_right : (front rest : List ℕ) → AreBytes (front ++ rest) → AreBytes rest
bytes_right [] rest h = h
bytes_right (x ∷ front) rest h = bytes_right front rest (λ i. h (suc i))

pub bytes_left : (front rest : List ℕ) → AreBytes (front ++ rest) → AreBytes front
bytes_left [] rest h i = omega arith
bytes_left (x ∷ front) rest h zero = h zero
bytes_left (x ∷ front) rest h (suc i) = bytes_left front rest (λ k. h (suc k)) i

pub bytes_as : (text other : List ℕ) → text ≡ other → AreBytes text → AreBytes other
bytes_as text other same h = subst (λ t. AreBytes t) same h

-- ---- what stands at the front of a text

-- a value
pub record Whole {A : Type 0} (P : A → List ℕ → Type 0) (text : List ℕ) : Type 0 where
  pub value : A
  pub front : List ℕ
  pub rest : List ℕ
  pub parts : text ≡ front ++ rest
  pub holds : P value front

-- bytes that stop to spell one: either something is wrong there, or it is the end of the text
pub record Broken (S : Stop → List ℕ → Type 0) (text : List ℕ) : Type 0 where
  pub stop : Stop
  pub front : List ℕ
  pub rest : List ℕ
  pub parts : text ≡ front ++ rest
  pub holds : S stop front
  pub last : stop ≡ Cut → rest ≡ []

abbrev pub Begins : {A : Type 0} → (A → List ℕ → Type 0) → (Stop → List ℕ → Type 0) → List ℕ → Type 0
Begins P S text = Whole P text ⊎ Broken S text

-- in every text of bytes one of the two
pub record Total {A : Type 0} (P : A → List ℕ → Type 0) (S : Stop → List ℕ → Type 0) : Type 0 where
  pub begins : (text : List ℕ) → AreBytes text → Begins P S text

pub bad_wrong : (code place : ℕ) → Bad code place ≡ Cut → ⊥
bad_wrong code place e = cc

pub large_wrong : (place : ℕ) → Large place ≡ Cut → ⊥
large_wrong place e = cc

pub moved_cut : (n : ℕ) (s : Stop) → moved n s ≡ Cut → s ≡ Cut
moved_cut n Cut e = refl
moved_cut n (Bad code place) e = absurd (bad_wrong code (n + place) e)
moved_cut n (Large place) e = absurd (large_wrong (n + place) e)

-- ---- one value behind another

module _ {A B : Type 0} (First : A → List ℕ → Type 0) (Stopped : Stop → List ℕ → Type 0) (Second : A → B → List ℕ → Type 0) (StopsSecond : A → Stop → List ℕ → Type 0) where
  abbrev Both : A × B → List ℕ → Type 0
  Both a = IsThen First Second a.0 a.1

  abbrev StopsBoth : Stop → List ℕ → Type 0
  StopsBoth = StopsThen First Stopped StopsSecond

  behind_whole : (text : List ℕ) (w : Whole First text) → Begins (Second w.value) (StopsSecond w.value) w.rest → Begins Both StopsBoth text
  behind_whole text w (inl v) =
      inl (record {
        value = (w.value, v.value);
        front = w.front ++ v.front;
        rest = v.rest;
        parts = w.parts ∙ ap (λ t. w.front ++ t) v.parts ∙ sym (append_assoc w.front v.front v.rest);
        holds = (w.front, v.front, refl, w.holds, v.holds);
      })
  behind_whole text w (inr b) =
      inr (record {
        stop = moved (length w.front) b.stop;
        front = w.front ++ b.front;
        rest = b.rest;
        parts = w.parts ∙ ap (λ t. w.front ++ t) b.parts ∙ sym (append_assoc w.front b.front b.rest);
        holds = inr (w.value, w.front, b.front, b.stop, refl, w.holds, refl, b.holds);
        last = (λ cut. b.last (moved_cut (length w.front) b.stop cut));
      })

  then_begins : ((a : A) (x : List ℕ) → First a x → Total (Second a) (StopsSecond a)) → (text : List ℕ) → AreBytes text → Begins First Stopped text → Begins Both StopsBoth text
  then_begins f text bytes (inl w) =
      let t = f w.value w.front w.holds in
      behind_whole text w (t.begins w.rest (bytes_right w.front w.rest (bytes_as text (w.front ++ w.rest) w.parts bytes)))
  then_begins f text bytes (inr b) = inr (record { stop = b.stop; front = b.front; rest = b.rest; parts = b.parts; holds = inl b.holds; last = b.last })

  pub total_then : Total First Stopped → ((a : A) (x : List ℕ) → First a x → Total (Second a) (StopsSecond a)) → Total Both StopsBoth
  total_then t f = record { begins = (λ text bytes. then_begins f text bytes (t.begins text bytes)) }

-- ---- a kind of value that is told by one for which it is so

module _ {A C : Type 0} (P : A → List ℕ → Type 0) (S : Stop → List ℕ → Type 0) (Q : C → List ℕ → Type 0) (T : Stop → List ℕ → Type 0) where
  by_begins : ((a : A) (x : List ℕ) → P a x → (c : C) × Q c x) → ((s : Stop) (x : List ℕ) → S s x → T s x) → (text : List ℕ) → Begins P S text → Begins Q T text
  by_begins made stops text (inl w) =
      let c = made w.value w.front w.holds in
      inl (record { value = c.0; front = w.front; rest = w.rest; parts = w.parts; holds = c.1 })
  by_begins made stops text (inr b) = inr (record { stop = b.stop; front = b.front; rest = b.rest; parts = b.parts; holds = stops b.stop b.front b.holds; last = b.last })

  pub total_by : Total P S → ((a : A) (x : List ℕ) → P a x → (c : C) × Q c x) → ((s : Stop) (x : List ℕ) → S s x → T s x) → Total Q T
  total_by t made stops = record { begins = (λ text bytes. by_begins made stops text (t.begins text bytes)) }

-- ---- a kind of value with so many bytes, which are judged when they are there

-- these bytes are one, or something is wrong in them
abbrev pub Judged : {A : Type 0} → (A → List ℕ → Type 0) → (Stop → List ℕ → Type 0) → List ℕ → Type 0
Judged {A} P S x = ((a : A) × P a x) ⊎ ((s : Stop) × S s x × (s ≡ Cut → ⊥))

module _ {A : Type 0} (P : A → List ℕ → Type 0) (S : Stop → List ℕ → Type 0) where
  -- bytes behind which a text goes on
  judged_begins : (text front rest : List ℕ) → text ≡ front ++ rest → Judged P S front → Begins P S text
  judged_begins text front rest parts (inl p) = inl (record { value = p.0; front = front; rest = rest; parts = parts; holds = p.1 })
  judged_begins text front rest parts (inr p) = inr (record { stop = p.0; front = front; rest = rest; parts = parts; holds = p.1; last = (λ cut. absurd (p.2 cut)) })

  wide_begins : (n : ℕ) → ((x : List ℕ) → length x < n → S Cut x) → ((x : List ℕ) → length x ≡ n → AreBytes x → Judged P S x) → (text : List ℕ) → AreBytes text → (length text < n) ⊎ (n ≤ length text) → Begins P S text
  wide_begins n short judge text bytes (inl few) = inr (record { stop = Cut; front = text; rest = []; parts = sym (append-nil text); holds = short text few; last = (λ cut. refl) })
  wide_begins n short judge text bytes (inr enough) =
      let parts : text ≡ take n text ++ drop n text = sym (take-append-drop n text) in
      judged_begins text (take n text) (drop n text) parts (judge (take n text) (length-take-le n text enough) (bytes_left (take n text) (drop n text) (bytes_as text (take n text ++ drop n text) parts bytes)))

  pub total_wide : (n : ℕ) → ((x : List ℕ) → length x < n → S Cut x) → ((x : List ℕ) → length x ≡ n → AreBytes x → Judged P S x) → Total P S
  total_wide n short judge = record { begins = (λ text bytes. wide_begins n short judge text bytes (cases_lt (length text) n)) }

-- ---- a kind of value with a condition, whose breach is a stop

module _ {A : Type 0} (P : A → List ℕ → Type 0) (S : Stop → List ℕ → Type 0) (If : A → Type 0) (T : Stop → List ℕ → Type 0) (why : Stop) where
  where_whole : (text : List ℕ) (w : Whole P text) → (why ≡ Cut → ⊥) → ((s : Stop) (x : List ℕ) (a : A) → P a x → (If a → ⊥) → s ≡ why → T s x) → If w.value ⊎ (If w.value → ⊥) → Begins (λ a x. P a x × If a) T text
  where_whole text w wrong breach (inl met) = inl (record { value = w.value; front = w.front; rest = w.rest; parts = w.parts; holds = (w.holds, met) })
  where_whole text w wrong breach (inr none) = inr (record { stop = why; front = w.front; rest = w.rest; parts = w.parts; holds = breach why w.front w.value w.holds none refl; last = (λ cut. absurd (wrong cut)) })

  where_begins : ((a : A) → If a ⊎ (If a → ⊥)) → (why ≡ Cut → ⊥) → ((s : Stop) (x : List ℕ) (a : A) → P a x → (If a → ⊥) → s ≡ why → T s x) → ((s : Stop) (x : List ℕ) → S s x → T s x) → (text : List ℕ) → Begins P S text → Begins (λ a x. P a x × If a) T text
  where_begins decide wrong breach stops text (inl w) = where_whole text w wrong breach (decide w.value)
  where_begins decide wrong breach stops text (inr b) = inr (record { stop = b.stop; front = b.front; rest = b.rest; parts = b.parts; holds = stops b.stop b.front b.holds; last = b.last })

  pub total_where : Total P S → ((a : A) → If a ⊎ (If a → ⊥)) → (why ≡ Cut → ⊥) → ((s : Stop) (x : List ℕ) (a : A) → P a x → (If a → ⊥) → s ≡ why → T s x) → ((s : Stop) (x : List ℕ) → S s x → T s x) → Total (λ a x. P a x × If a) T
  total_where t decide wrong breach stops = record { begins = (λ text bytes. where_begins decide wrong breach stops text (t.begins text bytes)) }

-- ---- so many values one behind the other, whatever they make

module _ {A C : Type 0} (P : A → List ℕ → Type 0) (S : Stop → List ℕ → Type 0) (Row : C → List ℕ → Type 0) (count : C → ℕ) where
  -- behind fewer values than n, in the next one
  abbrev StopsInRow : ℕ → Stop → List ℕ → Type 0
  StopsInRow n s x = (c : C) × (front rest : List ℕ) × (t : Stop) × (x ≡ front ++ rest) × Row c front × (count c < n) × (s ≡ moved (length front) t) × S t rest

  abbrev IsInRow : ℕ → C → List ℕ → Type 0
  IsInRow n c x = Row c x × (count c ≡ n)

  -- how a row is made
  pub record Makes : Type 0 where
    pub nil : C
    pub cons : A → C → C
    pub nil_row : Row nil []
    pub nil_count : count nil ≡ 0
    pub cons_row : (a : A) (c : C) (front rest : List ℕ) → P a front → Row c rest → Row (cons a c) (front ++ rest)
    pub cons_count : (a : A) (c : C) → count (cons a c) ≡ suc (count c)

  one_more : Makes → (n : ℕ) (text : List ℕ) (w : Whole P text) → Begins (IsInRow n) (StopsInRow n) w.rest → Begins (IsInRow (suc n)) (StopsInRow (suc n)) text
  one_more m n text w (inl v) =
      inl (record {
        value = m.cons w.value v.value;
        front = w.front ++ v.front;
        rest = v.rest;
        parts = w.parts ∙ ap (λ t. w.front ++ t) v.parts ∙ sym (append_assoc w.front v.front v.rest);
        holds = (m.cons_row w.value v.value w.front v.front w.holds v.holds.0, m.cons_count w.value v.value ∙ ap suc v.holds.1);
      })
  one_more m n text w (inr b) =
      let h = b.holds in
      let len : length (w.front ++ h.1) ≡ length w.front + length h.1 = length-append w.front h.1 in
      inr (record {
        stop = moved (length w.front) b.stop;
        front = w.front ++ b.front;
        rest = b.rest;
        parts = w.parts ∙ ap (λ t. w.front ++ t) b.parts ∙ sym (append_assoc w.front b.front b.rest);
        holds = (
          m.cons w.value h.0,
          w.front ++ h.1,
          h.2,
          h.3,
          ap (λ t. w.front ++ t) h.4 ∙ sym (append_assoc w.front h.1 h.2),
          m.cons_row w.value h.0 w.front h.1 w.holds h.5,
          omega (arith, m.cons_count w.value h.0, h.6),
          ap (moved (length w.front)) h.7 ∙ sym (moved-moved (length w.front) (length h.1) h.3) ∙ ap (λ k. moved k h.3) (sym len),
          h.8,
        );
        last = (λ cut. b.last (moved_cut (length w.front) b.stop cut));
      })

  row_next : Makes → (n : ℕ) → ((text : List ℕ) → AreBytes text → Begins (IsInRow n) (StopsInRow n) text) → (text : List ℕ) → AreBytes text → Begins P S text → Begins (IsInRow (suc n)) (StopsInRow (suc n)) text
  row_next m n others text bytes (inl w) = one_more m n text w (others w.rest (bytes_right w.front w.rest (bytes_as text (w.front ++ w.rest) w.parts bytes)))
  row_next m n others text bytes (inr b) =
      inr (record {
        stop = b.stop;
        front = b.front;
        rest = b.rest;
        parts = b.parts;
        holds = (m.nil, [], b.front, b.stop, refl, m.nil_row, omega (arith, m.nil_count), sym (moved-zero b.stop), b.holds);
        last = b.last;
      })

  row_begins : Makes → (n : ℕ) → (n ≢ 0 → Total P S) → (text : List ℕ) → AreBytes text → Begins (IsInRow n) (StopsInRow n) text
  row_begins m zero t text bytes = inl (record { value = m.nil; front = []; rest = text; parts = refl; holds = (m.nil_row, m.nil_count) })
  row_begins m (suc n) t text bytes =
      let inner = t (λ e. absurd (omega (arith, e))) in
      row_next m n (row_begins m n (λ _. inner)) text bytes (inner.begins text bytes)

  pub total_row : Makes → (n : ℕ) → (n ≢ 0 → Total P S) → Total (IsInRow n) (StopsInRow n)
  total_row m n t = record { begins = row_begins m n t }
