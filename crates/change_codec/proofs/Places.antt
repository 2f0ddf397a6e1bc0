-- Where reading stops: there whatever follows, where bytes are left behind the place; and those before it alone end too soon.
use Rattle.std.proofs.Common.{◌≡◌, ◌≢◌, ◌==◌, ℕ, zero, suc, ◌-◌, ◌≤◌, ◌⊎◌, Bool, true, false, not, cond, ltb, List, [], ◌∷◌, ◌++◌, length, take, drop, Option, None, Some, Result, Ok, Err, refl, sym, ap, ◌∙◌, append_assoc, append-nil, length-append, arith, inl, inr}
use Rattle.std.specs.Int.{Width, w32, byte_len, from_be_bytes, cast_signed}
use Rattle.std.specs.Str.{is_utf8}
use Rattle.std.specs.declared.cmp.Ordering.{Ordering}
use Rattle.std.proofs.lemmas.Bool.{ne_eqb}
use Rattle.cat_values.specs.declared.list_of.TheConstants.{LIST_END}
use Rattle.cat_values.specs.declared.text.TheConstants.{TEXT_LIMIT}
use Rattle.change_codec.specs.Forms.{Reading, ◌>>=◌, Tags, behind_tag, count_read, flag_read, four_read, front_read, list_read, made_read, map_read, number_read, option_read, pairs_read, rises, rising_read, signed_read, tagged_read, text_read, then_read, three_read, values_read}
use Rattle.change_codec.proofs.Bind.{bind_ok, ok_is}
use Rattle.change_codec.proofs.Numbers.{front_again, front_spelled}

-- the bytes that a value took
pub record Taken {T : Type 0} (read : List ℕ → Reading T) (bytes : List ℕ) (value : T) (rest : List ℕ) : Type 0 where
  pub front : List ℕ
  pub parts : bytes ≡ front ++ rest
  pub again : (other : List ℕ) → read (front ++ other) ≡ Ok (value, other)

-- the place at which reading stops
pub record Place {T : Type 0} (read : List ℕ → Reading T) (bytes : List ℕ) (left : ℕ) : Type 0 where
  pub before : List ℕ
  pub behind : List ℕ
  pub parts : bytes ≡ before ++ behind
  pub place : left ≡ length behind
  pub early : read before ≡ Err 0
  pub stays : behind ≢ [] → (more : List ℕ) → read (bytes ++ more) ≡ Err (length (behind ++ more))

pub record IsSteady {T : Type 0} (read : List ℕ → Reading T) : Type 0 where
  pub took : (bytes : List ℕ) (value : T) (rest : List ℕ) → read bytes ≡ Ok (value, rest) → Taken read bytes value rest
  pub stops : (bytes : List ℕ) (left : ℕ) → read bytes ≡ Err left → Place read bytes left

-- no more is left than there was
pub place_within : {T : Type 0} (read : List ℕ → Reading T) → IsSteady read → (bytes : List ℕ) (left : ℕ) → read bytes ≡ Err left → left ≤ length bytes
place_within {T} read p bytes left e =
    let s = p.stops bytes left e in
    omega (arith, s.place, ap length s.parts, length-append s.before s.behind)

-- the same reading, written in another way
pub steady_as : {T : Type 0} (read other : List ℕ → Reading T) → ((bytes : List ℕ) → read bytes ≡ other bytes) → IsSteady other → IsSteady read
steady_as {T} read other same p = record {
  took = λ bytes value rest e.
      let t = p.took bytes value rest (sym (same bytes) ∙ e) in
      record { front = t.front; parts = t.parts; again = λ more. same (t.front ++ more) ∙ t.again more };
  stops = λ bytes left e.
      let s = p.stops bytes left (sym (same bytes) ∙ e) in
      record {
        before = s.before;
        behind = s.behind;
        parts = s.parts;
        place = s.place;
        early = same s.before ∙ s.early;
        stays = λ some more. same (bytes ++ more) ∙ s.stays some more;
      };
}

-- ---- one reading, and another of what it left

abbrev stopped : {A : Type 0} → ℕ → Result A ℕ
stopped left = Err left

pub err_is : {A : Type 0} (m n : ℕ) → stopped {A = A} m ≡ stopped n → m ≡ n
err_is {A} m n e = cc

pub never : {A : Type 0} (r : Result A ℕ) (x : A) (n : ℕ) → r ≡ Ok x → r ≡ Err n → ⊥
never (Ok y) x n p q = cc
never (Err m) x n p q = cc

module _ {A B : Type 0} (f : List ℕ → Reading A) (g : A → List ℕ → Reading B) where
  abbrev next : A × List ℕ → Reading B
  next a = g a.0 a.1

  abbrev both : List ℕ → Reading B
  both bytes = f bytes >>= λ a. g a.0 a.1

  on_ok : (bytes : List ℕ) (a : A) (rest : List ℕ) → f bytes ≡ Ok (a, rest) → both bytes ≡ g a rest
  on_ok bytes a rest e = ap (λ (r : Reading A). r >>= next) e

  on_err : (bytes : List ℕ) (n : ℕ) → f bytes ≡ Err n → both bytes ≡ Err n
  on_err bytes n e = ap (λ (r : Reading A). r >>= next) e

  both_took : IsSteady f → ((a : A) → IsSteady (g a)) → (bytes : List ℕ) (value : B) (rest : List ℕ) → both bytes ≡ Ok (value, rest) → Taken both bytes value rest
  both_took p q bytes value rest e =
      let x = bind_ok (f bytes) next (value, rest) e in
      let t = p.took bytes x.0.0 x.0.1 x.1 in
      let q1 = q x.0.0 in
      let u = q1.took x.0.1 value rest x.2 in
      record {
        front = t.front ++ u.front;
        parts = t.parts ∙ ap (λ (l : List ℕ). t.front ++ l) u.parts ∙ sym (append_assoc t.front u.front rest);
        again = λ other. ap both (append_assoc t.front u.front other) ∙ on_ok (t.front ++ (u.front ++ other)) x.0.0 (u.front ++ other) (t.again (u.front ++ other)) ∙ u.again other;
      }

  both_stops : IsSteady f → ((a : A) → IsSteady (g a)) → (bytes : List ℕ) (left : ℕ) (r : Reading A) → f bytes ≡ r → (r >>= next) ≡ Err left → Place both bytes left
  both_stops p q bytes left (Err n) is h =
      let same : n ≡ left = err_is {A = B × List ℕ} n left h in
      let s = p.stops bytes n is in
      record {
        before = s.before;
        behind = s.behind;
        parts = s.parts;
        place = sym same ∙ s.place;
        early = on_err s.before 0 s.early;
        stays = λ some more. on_err (bytes ++ more) (length (s.behind ++ more)) (s.stays some more);
      }
  both_stops p q bytes left (Ok x) is h =
      let t = p.took bytes x.0 x.1 is in
      let q1 = q x.0 in
      let s = q1.stops x.1 left h in
      record {
        before = t.front ++ s.before;
        behind = s.behind;
        parts = t.parts ∙ ap (λ (l : List ℕ). t.front ++ l) s.parts ∙ sym (append_assoc t.front s.before s.behind);
        place = s.place;
        early = on_ok (t.front ++ s.before) x.0 s.before (t.again s.before) ∙ s.early;
        stays = λ some more.
            ap both (ap (λ (l : List ℕ). l ++ more) t.parts ∙ append_assoc t.front x.1 more) ∙ on_ok (t.front ++ (x.1 ++ more)) x.0 (x.1 ++ more) (t.again (x.1 ++ more)) ∙ s.stays some more;
      }

  pub both-steady : IsSteady f → ((a : A) → IsSteady (g a)) → IsSteady (λ bytes. f bytes >>= λ a. g a.0 a.1)
  both-steady p q = record { took = both_took p q; stops = λ bytes left e. both_stops p q bytes left (f bytes) refl e }

-- a value that takes nothing
pub given-steady : {T : Type 0} (v : T) → IsSteady (λ (bytes : List ℕ). Ok (v, bytes))
given-steady {T} v = record {
  took = λ bytes value rest e.
      let is : (v, bytes) ≡ (value, rest) = ok_is (v, bytes) (value, rest) e in
      record { front = []; parts = ap (λ (r : T × List ℕ). r.1) is; again = λ other. ap (λ (r : T × List ℕ). Ok (r.0, other)) is };
  stops = λ bytes left e. absurd (let none : Ok (v, bytes) ≡ Err left = e in cc);
}

-- ---- so many bytes

front_stop : (count : ℕ) (bytes : List ℕ) (left : ℕ) (few : Bool) → ltb (length bytes) count ≡ few → cond {A = Reading (List ℕ)} few (Err 0) (Ok (take count bytes, drop count bytes)) ≡ Err left → Place (front_read count) bytes left
front_stop count bytes left true is e =
    record {
      before = bytes;
      behind = [];
      parts = sym (append-nil bytes);
      place = sym (err_is {A = List ℕ × List ℕ} 0 left e);
      early = ap (λ (few : Bool). cond {A = Reading (List ℕ)} few (Err 0) (Ok (take count bytes, drop count bytes))) is;
      stays = λ some. absurd (some refl);
    }
front_stop count bytes left false is e = absurd (never (Ok (take count bytes, drop count bytes)) (take count bytes, drop count bytes) left refl e)

pub front-steady : (count : ℕ) → IsSteady (front_read count)
front-steady count = record {
  took = λ bytes value rest e.
      let s = front_spelled count bytes value rest e in
      record { front = value; parts = s.0; again = λ other. front_again count value other s.1 };
  stops = λ bytes left e. front_stop count bytes left (ltb (length bytes) count) refl e;
}

pub number-steady : (w : Width) → IsSteady (number_read w)
unfolding number_read
number-steady w = both-steady (front_read (byte_len w)) (λ front rest. Ok (from_be_bytes w front, rest)) (front-steady (byte_len w)) (λ front. given-steady (from_be_bytes w front))

pub signed-steady : (w : Width) → IsSteady (signed_read w)
unfolding signed_read
signed-steady w = both-steady (number_read w) (λ n rest. Ok (cast_signed w n, rest)) (number-steady w) (λ n. given-steady (cast_signed w n))

-- ---- what is judged when it was read: where it is refused, from its first byte on

module _ {A : Type 0} (f : List ℕ → Reading A) (right : A → Bool) where
  abbrev judge : List ℕ → A × List ℕ → Reading A
  judge bytes x = cond (right x.0) (Ok x) (Err (length bytes))

  abbrev judged : List ℕ → Reading A
  judged bytes = f bytes >>= judge bytes

  judged_ok : (bytes : List ℕ) (x y : A × List ℕ) (b : Bool) → right x.0 ≡ b → cond b (Ok x) (Err (length bytes)) ≡ Ok y → (right x.0 ≡ true) × (x ≡ y)
  judged_ok bytes x y true is e = (is, ok_is x y e)
  judged_ok bytes x y false is e = absurd (let none : Err (length bytes) ≡ Ok y = e in cc)

  judged_took : IsSteady f → (bytes : List ℕ) (value : A) (rest : List ℕ) → judged bytes ≡ Ok (value, rest) → Taken judged bytes value rest
  judged_took p bytes value rest e =
      let x = bind_ok (f bytes) (judge bytes) (value, rest) e in
      let j = judged_ok bytes x.0 (value, rest) (right x.0.0) refl x.2 in
      let is : f bytes ≡ Ok (value, rest) = x.1 ∙ ap (λ (r : A × List ℕ). Ok r) j.1 in
      let right_is : right value ≡ true = sym (ap (λ (r : A × List ℕ). right r.0) j.1) ∙ j.0 in
      let t = p.took bytes value rest is in
      record {
        front = t.front;
        parts = t.parts;
        again = λ other. ap (λ (r : Reading A). r >>= judge (t.front ++ other)) (t.again other) ∙ ap (λ (b : Bool). cond {A = Reading A} b (Ok (value, other)) (Err (length (t.front ++ other)))) right_is;
      }

  -- what was read is refused
  refused : IsSteady f → f [] ≡ Err 0 → (bytes : List ℕ) (left : ℕ) (x : A × List ℕ) → f bytes ≡ Ok x → (b : Bool) → right x.0 ≡ b → cond {A = Reading A} b (Ok x) (Err (length bytes)) ≡ Err left → Place judged bytes left
  refused p none bytes left x is true j e = absurd (let never : Ok x ≡ Err left = e in cc)
  refused p none bytes left x is false j e =
      let t = p.took bytes x.0 x.1 is in
      record {
        before = [];
        behind = bytes;
        parts = refl;
        place = sym (err_is {A = A × List ℕ} (length bytes) left e);
        stays = λ some more.
            let read : f (bytes ++ more) ≡ Ok (x.0, x.1 ++ more) = ap f (ap (λ (l : List ℕ). l ++ more) t.parts ∙ append_assoc t.front x.1 more) ∙ t.again (x.1 ++ more) in
            ap (λ (r : Reading A). r >>= judge (bytes ++ more)) read ∙ ap (λ (b : Bool). cond {A = Reading A} b (Ok (x.0, x.1 ++ more)) (Err (length (bytes ++ more)))) j;
        early = ap (λ (r : Reading A). r >>= judge []) none;
      }

  judged_stops : IsSteady f → f [] ≡ Err 0 → (bytes : List ℕ) (left : ℕ) (r : Reading A) → f bytes ≡ r → (r >>= judge bytes) ≡ Err left → Place judged bytes left
  judged_stops p none bytes left (Ok x) is e = refused p none bytes left x is (right x.0) refl e
  judged_stops p none bytes left (Err n) is e =
      let s = p.stops bytes n is in
      record {
        before = s.before;
        behind = s.behind;
        parts = s.parts;
        place = sym (err_is {A = A × List ℕ} n left e) ∙ s.place;
        stays = λ some more. ap (λ (r : Reading A). r >>= judge (bytes ++ more)) (s.stays some more);
        early = ap (λ (r : Reading A). r >>= judge s.before) s.early;
      }

  pub judged-steady : IsSteady f → f [] ≡ Err 0 → IsSteady (λ bytes. f bytes >>= λ x. cond (right x.0) (Ok x) (Err (length bytes)))
  judged-steady p none = record { took = judged_took p; stops = λ bytes left e. judged_stops p none bytes left (f bytes) refl e }

-- ---- counts and texts

turned : {A : Type 0} (b : Bool) (x y : A) → cond b x y ≡ cond (not b) y x
turned true x y = refl
turned false x y = refl

count_same : (last : ℕ) (bytes : List ℕ) (r : Reading ℕ) → (r >>= λ n. cond (ltb last n.0) (Err (length bytes)) (Ok n)) ≡ (r >>= λ n. cond (not (ltb last n.0)) (Ok n) (Err (length bytes)))
count_same last bytes (Err left) = refl
count_same last bytes (Ok n) = turned (ltb last n.0) (Err (length bytes)) (Ok n)

number_none : number_read w32 [] ≡ Err 0
unfolding number_read
number_none = refl

pub count-steady : (last : ℕ) → IsSteady (count_read last)
unfolding count_read
count-steady last =
    steady_as (count_read last) (λ bytes. number_read w32 bytes >>= λ n. cond (not (ltb last n.0)) (Ok n) (Err (length bytes))) (λ bytes. count_same last bytes (number_read w32 bytes))
    (judged-steady (number_read w32) (λ n. not (ltb last n)) (number-steady w32) number_none)

pub count_none : (last : ℕ) → count_read last [] ≡ Err 0
unfolding count_read number_read
count_none last = refl

text_same : (bytes : List ℕ) (r : Reading ℕ) → (r >>= λ count. front_read count.0 count.1 >>= λ front. cond (is_utf8 front.0) (Ok front) (Err (length bytes))) ≡ ((r >>= λ count. front_read count.0 count.1) >>= λ front. cond (is_utf8 front.0) (Ok front) (Err (length bytes)))
text_same bytes (Err left) = refl
text_same bytes (Ok n) = refl

pub text-steady : IsSteady text_read
unfolding text_read
text-steady =
    steady_as text_read (λ bytes. (count_read TEXT_LIMIT bytes >>= λ count. front_read count.0 count.1) >>= λ front. cond (is_utf8 front.0) (Ok front) (Err (length bytes))) (λ bytes. text_same bytes (count_read TEXT_LIMIT bytes))
    (judged-steady (λ bytes. count_read TEXT_LIMIT bytes >>= λ count. front_read count.0 count.1) is_utf8
    (both-steady (count_read TEXT_LIMIT) front_read (count-steady TEXT_LIMIT) front-steady)
    (ap (λ (r : Reading ℕ). r >>= λ count. front_read count.0 count.1) (count_none TEXT_LIMIT)))

pub text_none : text_read [] ≡ Err 0
unfolding text_read
text_none = ap (λ (r : Reading ℕ). r >>= λ count. front_read count.0 count.1 >>= λ front. cond {A = Reading (List ℕ)} (is_utf8 front.0) (Ok front) (Err 0)) (count_none TEXT_LIMIT)

-- ---- values that are made of others

pub made-steady : {A B : Type 0} (make : A → B) (read : List ℕ → Reading A) → IsSteady read → IsSteady (made_read make read)
unfolding made_read
made-steady {A} {B} make read p = both-steady read (λ a rest. Ok (make a, rest)) p (λ a. given-steady (make a))

pub then-steady : {A B : Type 0} (f : List ℕ → Reading A) (g : List ℕ → Reading B) → IsSteady f → IsSteady g → IsSteady (then_read f g)
unfolding then_read
then-steady {A} {B} f g p q =
    both-steady f (λ a rest. g rest >>= λ b. Ok ((a, b.0), b.1)) p
    (λ a. both-steady g (λ b rest. Ok ((a, b), rest)) q (λ b. given-steady (a, b)))

pub three-steady : {A B C : Type 0} (f : List ℕ → Reading A) (g : List ℕ → Reading B) (h : List ℕ → Reading C) → IsSteady f → IsSteady g → IsSteady h → IsSteady (three_read f g h)
unfolding three_read
three-steady {A} {B} {C} f g h p q r =
    both-steady {B = A × B × C} f (λ a rest. g rest >>= λ b. h b.1 >>= λ c. Ok ((a, b.0, c.0), c.1)) p
    (λ a. both-steady {B = A × B × C} g (λ b rest. h rest >>= λ c. Ok ((a, b, c.0), c.1)) q
    (λ b. both-steady {B = A × B × C} h (λ c rest. Ok ((a, b, c), rest)) r (λ c. given-steady {T = A × B × C} (a, b, c))))

pub four-steady : {A B C D : Type 0} (f : List ℕ → Reading A) (g : List ℕ → Reading B) (h : List ℕ → Reading C) (k : List ℕ → Reading D) → IsSteady f → IsSteady g → IsSteady h → IsSteady k → IsSteady (four_read f g h k)
unfolding four_read
four-steady {A} {B} {C} {D} f g h k p q r s =
    both-steady {B = A × B × C × D} f (λ a rest. g rest >>= λ b. h b.1 >>= λ c. k c.1 >>= λ d. Ok ((a, b.0, c.0, d.0), d.1)) p
    (λ a. both-steady {B = A × B × C × D} g (λ b rest. h rest >>= λ c. k c.1 >>= λ d. Ok ((a, b, c.0, d.0), d.1)) q
    (λ b. both-steady {B = A × B × C × D} h (λ c rest. k rest >>= λ d. Ok ((a, b, c, d.0), d.1)) r
    (λ c. both-steady {B = A × B × C × D} k (λ d rest. Ok ((a, b, c, d), rest)) s (λ d. given-steady {T = A × B × C × D} (a, b, c, d)))))

-- ---- lists and maps

pub values-steady : {T : Type 0} (read : List ℕ → Reading T) → IsSteady read → (count : ℕ) → IsSteady (values_read read count)
unfolding values_read
values-steady {T} read p zero = given-steady []
values-steady {T} read p (suc count) =
    both-steady {B = List T} read (λ value rest. values_read read count rest >>= λ others. Ok (value ∷ others.0, others.1)) p
    (λ value. both-steady {B = List T} (values_read read count) (λ others rest. Ok (value ∷ others, rest)) (values-steady read p count) (λ others. given-steady (value ∷ others)))

pub list-steady : {T : Type 0} (read : List ℕ → Reading T) → IsSteady read → IsSteady (list_read read)
unfolding list_read
list-steady {T} read p = both-steady (count_read (LIST_END - 1)) (values_read read) (count-steady (LIST_END - 1)) (values-steady read p)

pub list_none : {T : Type 0} (read : List ℕ → Reading T) → list_read read [] ≡ Err 0
unfolding list_read
list_none {T} read = ap (λ (r : Reading ℕ). r >>= λ count. values_read read count.0 count.1) (count_none (LIST_END - 1))

module _ {K V : Type 0} (cmp : K → K → Ordering) (key_read : List ℕ → Reading K) (value_read : List ℕ → Reading V) (p : IsSteady key_read) (none : key_read [] ≡ Err 0) (q : IsSteady value_read) where
  rising-steady : (before : Option K) → IsSteady (rising_read cmp key_read before)
  unfolding rising_read
  rising-steady before = judged-steady key_read (rises cmp before) p none

  pairs-steady : (count : ℕ) (before : Option K) → IsSteady (pairs_read cmp key_read value_read count before)
  unfolding pairs_read
  pairs-steady zero before = given-steady []
  pairs-steady (suc count) before =
      both-steady {B = List (K × V)} (rising_read cmp key_read before) (λ key rest. value_read rest >>= λ value. pairs_read cmp key_read value_read count (Some key) value.1 >>= λ others. Ok ((key, value.0) ∷ others.0, others.1)) (rising-steady before)
      (λ key. both-steady {B = List (K × V)} value_read (λ value rest. pairs_read cmp key_read value_read count (Some key) rest >>= λ others. Ok ((key, value) ∷ others.0, others.1)) q
      (λ value. both-steady {B = List (K × V)} (pairs_read cmp key_read value_read count (Some key)) (λ others rest. Ok ((key, value) ∷ others, rest)) (pairs-steady count (Some key)) (λ others. given-steady ((key, value) ∷ others))))

  pub map-steady : IsSteady (map_read cmp key_read value_read)
  unfolding map_read
  map-steady = both-steady (count_read (LIST_END - 1)) (λ count. pairs_read cmp key_read value_read count None) (count-steady (LIST_END - 1)) (λ count. pairs-steady count None)

-- ---- values behind tags

module _ {T : Type 0} where
  abbrev pub AllSteady : Tags T → Type 0
  AllSteady [] = Unit {0}
  AllSteady (known ∷ tags) = IsSteady known.1 × AllSteady tags

  -- how the bytes behind a tag are read, or that none may stand there
  abbrev Found : Tags T → ℕ → Type 0
  Found tags tag = ((read : List ℕ → Reading T) × IsSteady read × ((rest : List ℕ) → behind_tag tags tag rest ≡ read rest)) ⊎ ((rest : List ℕ) → behind_tag tags tag rest ≡ Err (length (tag ∷ rest)))

  found_by : (known : ℕ × (List ℕ → Reading T)) (tags : Tags T) (tag : ℕ) → IsSteady known.1 → (b : Bool) → (tag == known.0) ≡ b → Found tags tag → Found (known ∷ tags) tag
  found_by known tags tag p true e more = inl (known.1, p, λ rest. ap (λ (b : Bool). cond b (known.1 rest) (behind_tag tags tag rest)) e)
  found_by known tags tag p false e (inl m) = inl (m.0, m.1, λ rest. ap (λ (b : Bool). cond b (known.1 rest) (behind_tag tags tag rest)) e ∙ m.2 rest)
  found_by known tags tag p false e (inr m) = inr (λ rest. ap (λ (b : Bool). cond b (known.1 rest) (behind_tag tags tag rest)) e ∙ m rest)

  found : (tags : Tags T) → AllSteady tags → (tag : ℕ) → Found tags tag
  found [] all tag = inr (λ rest. refl)
  found (known ∷ tags) all tag = found_by known tags tag all.0 (tag == known.0) refl (found tags all.1 tag)

  tag_took : (tags : Tags T) (tag : ℕ) → Found tags tag → (bytes : List ℕ) (value : T) (rest : List ℕ) → behind_tag tags tag bytes ≡ Ok (value, rest) → Taken (tagged_read tags) (tag ∷ bytes) value rest
  unfolding tagged_read
  tag_took tags tag (inl m) bytes value rest e =
      let p = m.1 in
      let t = p.took bytes value rest (sym (m.2 bytes) ∙ e) in
      record { front = tag ∷ t.front; parts = ap (λ (l : List ℕ). tag ∷ l) t.parts; again = λ other. m.2 (t.front ++ other) ∙ t.again other }
  tag_took tags tag (inr m) bytes value rest e = absurd (let none : Err (length (tag ∷ bytes)) ≡ Ok (value, rest) = sym (m bytes) ∙ e in cc)

  tagged_took : (tags : Tags T) → AllSteady tags → (bytes : List ℕ) (value : T) (rest : List ℕ) → tagged_read tags bytes ≡ Ok (value, rest) → Taken (tagged_read tags) bytes value rest
  unfolding tagged_read
  tagged_took tags all [] value rest e = absurd (let none : Err 0 ≡ Ok (value, rest) = e in cc)
  tagged_took tags all (tag ∷ bytes) value rest e = tag_took tags tag (found tags all tag) bytes value rest e

  tag_stops : (tags : Tags T) (tag : ℕ) → Found tags tag → (bytes : List ℕ) (left : ℕ) → behind_tag tags tag bytes ≡ Err left → Place (tagged_read tags) (tag ∷ bytes) left
  unfolding tagged_read
  tag_stops tags tag (inl m) bytes left e =
      let p = m.1 in
      let s = p.stops bytes left (sym (m.2 bytes) ∙ e) in
      record {
        before = tag ∷ s.before;
        behind = s.behind;
        parts = ap (λ (l : List ℕ). tag ∷ l) s.parts;
        place = s.place;
        early = m.2 s.before ∙ s.early;
        stays = λ some more. m.2 (bytes ++ more) ∙ s.stays some more;
      }
  tag_stops tags tag (inr m) bytes left e =
      record {
        before = [];
        behind = tag ∷ bytes;
        parts = refl;
        place = err_is {A = T × List ℕ} left (length (tag ∷ bytes)) (sym e ∙ m bytes);
        early = refl;
        stays = λ some more. m (bytes ++ more);
      }

  tagged_stops : (tags : Tags T) → AllSteady tags → (bytes : List ℕ) (left : ℕ) → tagged_read tags bytes ≡ Err left → Place (tagged_read tags) bytes left
  unfolding tagged_read
  tagged_stops tags all [] left e =
      record { before = []; behind = []; parts = refl; place = sym (err_is {A = T × List ℕ} 0 left e); early = refl; stays = λ some. absurd (some refl) }
  tagged_stops tags all (tag ∷ bytes) left e = tag_stops tags tag (found tags all tag) bytes left e

  pub tagged-steady : (tags : Tags T) → AllSteady tags → IsSteady (tagged_read tags)
  tagged-steady tags all = record { took = tagged_took tags all; stops = tagged_stops tags all }

-- a flag and an option are values behind the tags 0 and 1
other_tag : {R : Type 0} (n : ℕ) (x y z : R) → z ≡ cond (suc (suc n) == 0) x (cond (suc (suc n) == 1) y z)
other_tag {R} n x y z =
    let not_0 : (suc (suc n) == 0) ≡ false = ne_eqb (suc (suc n)) 0 (λ e. absurd (omega (arith, e))) in
    let not_1 : (suc (suc n) == 1) ≡ false = ne_eqb (suc (suc n)) 1 (λ e. absurd (omega (arith, e))) in
    sym (ap (λ (b : Bool). cond b x (cond (suc (suc n) == 1) y z)) not_0 ∙ ap (λ (b : Bool). cond b y z) not_1)

flag_tags : Tags Bool
flag_tags = (0, λ rest. Ok (false, rest)) ∷ (1, λ rest. Ok (true, rest)) ∷ []

flag_same : (bytes : List ℕ) → flag_read bytes ≡ tagged_read flag_tags bytes
unfolding flag_read tagged_read flag_tags
flag_same [] = refl
flag_same (zero ∷ rest) = refl
flag_same (suc zero ∷ rest) = refl
flag_same (suc (suc n) ∷ rest) = other_tag n (Ok (false, rest)) (Ok (true, rest)) (Err (length (suc (suc n) ∷ rest)))

pub flag-steady : IsSteady flag_read
unfolding flag_tags
flag-steady = steady_as flag_read (tagged_read flag_tags) flag_same (tagged-steady flag_tags (given-steady false, (given-steady true, tt)))

option_tags : {T : Type 0} → (List ℕ → Reading T) → Tags (Option T)
option_tags {T} read = (0, λ rest. Ok (None, rest)) ∷ (1, λ rest. read rest >>= λ value. Ok (Some value.0, value.1)) ∷ []

option_same : {T : Type 0} (read : List ℕ → Reading T) (bytes : List ℕ) → option_read read bytes ≡ tagged_read (option_tags read) bytes
unfolding option_read tagged_read option_tags
option_same {T} read [] = refl
option_same {T} read (zero ∷ rest) = refl
option_same {T} read (suc zero ∷ rest) = refl
option_same {T} read (suc (suc n) ∷ rest) = other_tag n (Ok (None, rest)) (read rest >>= λ value. Ok (Some value.0, value.1)) (Err (length (suc (suc n) ∷ rest)))

pub option-steady : {T : Type 0} (read : List ℕ → Reading T) → IsSteady read → IsSteady (option_read read)
unfolding option_tags
option-steady {T} read p =
    steady_as (option_read read) (tagged_read (option_tags read)) (option_same read)
    (tagged-steady (option_tags read) (given-steady None, (both-steady read (λ value rest. Ok (Some value, rest)) p (λ value. given-steady (Some value)), tt)))
