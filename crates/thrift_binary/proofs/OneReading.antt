-- The parts of values and of messages are determined by the text at whose front they stand.
use Rattle.std.proofs.Common.{◌≡◌, ◌≢◌, ℕ, ◌<◌, ◌≤◌, ◌⊎◌, ◌==◌, List, [], ◌∷◌, length, drop, Option, Some, None, ℤ, pos, ◌<ℤ◌, refl, sym, ap, ◌∙◌, subst, arith, inl, inr, w8, w16, w32, w64, get_or, append-nil}
use mir.Val.{SFits}
use Rattle.std.specs.Int.{from_be_bytes, cast_unsigned, cast_signed}
use Rattle.std.proofs.lemmas.Int.{to_z-of_z, ints}
use Rattle.std.proofs.lemmas.Nat.{from_be_bytes-to_be_bytes_2, from_be_bytes-to_be_bytes_4, from_be_bytes-to_be_bytes_8}
use Rattle.std.proofs.Math.Facts.{Fits-of_z}
use Rattle.cat_values.specs.declared.text.TheConstants.{TEXT_LIMIT}
use Rattle.thrift_binary.specs.declared.limits.TheConstants.{COUNT_LIMIT}
use Rattle.thrift_binary.specs.Taking.{Stop, Bad, Large, moved}
use Rattle.thrift_binary.specs.Wire.{byte_bytes, short_bytes, int_bytes, long_bytes, IsThen, StopsThen, Behind, StopsShort, IsByte, IsShort, IsInt, IsLong, IsFlag, IsBody, IsLength, StopsLength, IsString, StopsString, IsCode, IsFieldType, StopsFieldType, IsField, StopsField, IsCount, IsNoCount, IsListHead, StopsListHead, IsMapHead, StopsMapHead}
use Rattle.thrift_binary.proofs.Determined.{Determined, determined_then, determined_by, determined_judged, determined_wide, pair_same}

-- ---- numbers

byte_back : (z : ℤ) → SFits w8 z → cast_signed w8 (from_be_bytes w8 (byte_bytes z)) ≡ z
byte_back z fits =
    let whole : from_be_bytes w8 (byte_bytes z) ≡ cast_unsigned w8 z = omega (arith, ints, Fits-of_z fits) in
    ap (cast_signed w8) whole ∙ to_z-of_z w8 z fits

short_back : (z : ℤ) → SFits w16 z → cast_signed w16 (from_be_bytes w16 (short_bytes z)) ≡ z
short_back z fits = ap (cast_signed w16) (from_be_bytes-to_be_bytes_2 (cast_unsigned w16 z) (omega (arith, ints, Fits-of_z fits))) ∙ to_z-of_z w16 z fits

int_back : (z : ℤ) → SFits w32 z → cast_signed w32 (from_be_bytes w32 (int_bytes z)) ≡ z
int_back z fits = ap (cast_signed w32) (from_be_bytes-to_be_bytes_4 (cast_unsigned w32 z) (omega (arith, ints, Fits-of_z fits))) ∙ to_z-of_z w32 z fits

long_back : (z : ℤ) → SFits w64 z → cast_signed w64 (from_be_bytes w64 (long_bytes z)) ≡ z
long_back z fits = ap (cast_signed w64) (from_be_bytes-to_be_bytes_8 (cast_unsigned w64 z) (omega (arith, ints, Fits-of_z fits))) ∙ to_z-of_z w64 z fits

same_byte : (a b : ℤ) (x : List ℕ) → IsByte a x → IsByte b x → a ≡ b
same_byte a b x p q = sym (byte_back a p.1) ∙ ap (λ t. cast_signed w8 (from_be_bytes w8 t)) (sym p.0 ∙ q.0) ∙ byte_back b q.1

same_short : (a b : ℤ) (x : List ℕ) → IsShort a x → IsShort b x → a ≡ b
same_short a b x p q = sym (short_back a p.1) ∙ ap (λ t. cast_signed w16 (from_be_bytes w16 t)) (sym p.0 ∙ q.0) ∙ short_back b q.1

pub same_int : (a b : ℤ) (x : List ℕ) → IsInt a x → IsInt b x → a ≡ b
same_int a b x p q = sym (int_back a p.1) ∙ ap (λ t. cast_signed w32 (from_be_bytes w32 t)) (sym p.0 ∙ q.0) ∙ int_back b q.1

same_long : (a b : ℤ) (x : List ℕ) → IsLong a x → IsLong b x → a ≡ b
same_long a b x p q = sym (long_back a p.1) ∙ ap (λ t. cast_signed w64 (from_be_bytes w64 t)) (sym p.0 ∙ q.0) ∙ long_back b q.1

pub first_byte : (a b : ℕ) (x u v : List ℕ) → x ≡ a ∷ u → x ≡ b ∷ v → a ≡ b
first_byte a b x u v p q = ap (λ xs. get_or xs 0 0) (sym p ∙ q)

pub bytes_behind : (a b : ℕ) (x u v : List ℕ) → x ≡ a ∷ u → x ≡ b ∷ v → u ≡ v
bytes_behind a b x u v p q = ap (drop 1) (sym p ∙ q)

pub determined_byte : Determined IsByte (StopsShort 1)
determined_byte = determined_wide IsByte 1 (λ a x p. ap length p.0) same_byte

pub determined_short : Determined IsShort (StopsShort 2)
determined_short = determined_wide IsShort 2 (λ a x p. ap length p.0) same_short

pub determined_int : Determined IsInt (StopsShort 4)
determined_int = determined_wide IsInt 4 (λ a x p. ap length p.0) same_int

pub determined_long : Determined IsLong (StopsShort 8)
determined_long = determined_wide IsLong 8 (λ a x p. ap length p.0) same_long

pub determined_flag : Determined IsFlag (StopsShort 1)
determined_flag = determined_wide IsFlag 1 (λ a x p. ap length p.1) (λ a b x p q. p.2 ∙ ap (λ byte. byte == 1) (first_byte p.0 q.0 x [] [] p.1 q.1) ∙ sym q.2)

pub determined_body : (n : ℕ) → Determined (IsBody n) (StopsShort n)
determined_body n = determined_wide (IsBody n) n (λ a x p. ap length p.0 ∙ p.1) (λ a b x p q. sym p.0 ∙ q.0)

-- ---- lengths and counts, which are not negative and not above a limit

pub count_fits : (n limit : ℕ) → limit < 2147483648 → n ≤ limit → SFits w32 (pos n)
count_fits n limit low small = omega (arith, ints)

abbrev NoNumber : ℕ → Stop → List ℕ → Type 0
NoNumber limit s x = ((n : ℤ) × IsInt n x × (n <ℤ pos 0) × (s ≡ Bad 3 0)) ⊎ ((n : ℤ) × IsInt n x × (pos limit <ℤ n) × (s ≡ Large 0))

abbrev IsCounted : ℕ → ℕ → List ℕ → Type 0
IsCounted limit n x = (x ≡ int_bytes (pos n)) × (n ≤ limit)

no_number_wide : (limit : ℕ) (s : Stop) (x : List ℕ) → NoNumber limit s x → length x ≡ 4
no_number_wide limit s x (inl h) = ap length h.1.0
no_number_wide limit s x (inr h) = ap length h.1.0

pub same_counted : (limit : ℕ) → limit < 2147483648 → (a b : ℕ) (x : List ℕ) → IsCounted limit a x → IsCounted limit b x → a ≡ b
same_counted limit low a b x p q =
    let same : pos a ≡ pos b = same_int (pos a) (pos b) x (p.0, count_fits a limit low p.1) (q.0, count_fits b limit low q.1) in
    omega (arith, ints, same)

not_counted : (limit : ℕ) → limit < 2147483648 → (s : Stop) (a : ℕ) (x : List ℕ) → NoNumber limit s x → IsCounted limit a x → ⊥
not_counted limit low s a x (inl h) q =
    let same : h.0 ≡ pos a = same_int h.0 (pos a) x h.1 (q.0, count_fits a limit low q.1) in
    absurd (omega (arith, ints, same, h.2))
not_counted limit low s a x (inr h) q =
    let same : h.0 ≡ pos a = same_int h.0 (pos a) x h.1 (q.0, count_fits a limit low q.1) in
    absurd (omega (arith, ints, same, h.2, q.1))

same_no_number : (limit : ℕ) (s t : Stop) (x : List ℕ) → NoNumber limit s x → NoNumber limit t x → s ≡ t
same_no_number limit s t x (inl h) (inl k) = h.3 ∙ sym k.3
same_no_number limit s t x (inl h) (inr k) =
    let same : h.0 ≡ k.0 = same_int h.0 k.0 x h.1 k.1 in
    absurd (omega (arith, ints, same, h.2, k.2))
same_no_number limit s t x (inr h) (inl k) =
    let same : h.0 ≡ k.0 = same_int h.0 k.0 x h.1 k.1 in
    absurd (omega (arith, ints, same, h.2, k.2))
same_no_number limit s t x (inr h) (inr k) = h.3 ∙ sym k.3

-- ---- texts

pub text_low : TEXT_LIMIT < 2147483648
text_low = omega arith

count_low : COUNT_LIMIT < 2147483648
count_low = omega arith

pub determined_length : Determined IsLength StopsLength
determined_length =
    determined_judged IsLength StopsLength (NoNumber TEXT_LIMIT) 4 (record {
      stops = (λ s x p. p);
      wide = (λ a x p. ap length p.0);
      fault_wide = no_number_wide TEXT_LIMIT;
      same = same_counted TEXT_LIMIT text_low;
      no_fault = not_counted TEXT_LIMIT text_low;
      same_fault = same_no_number TEXT_LIMIT;
    })

pub determined_string : Determined IsString StopsString
determined_string =
    determined_by (λ (a : ℕ × List ℕ). IsThen IsLength IsBody a.0 a.1) (StopsThen IsLength StopsLength (λ n. StopsShort n)) IsString StopsString (λ body a. body ≡ a.1)
    (determined_then IsLength StopsLength IsBody (λ n. StopsShort n) determined_length determined_body)
    (λ body x p. ((length body, body), (int_bytes (pos (length body)), body, p.0, (refl, p.1), (refl, refl)), refl))
    (λ c d a p q. p ∙ sym q)
    (λ s x p. p)

-- ---- types and heads

pub no_code : IsCode 0 → ⊥
no_code code = grind (arith, code)

type_same : (a b : Option ℕ) (x : List ℕ) → IsFieldType a x → IsFieldType b x → a ≡ b
type_same None None x p q = refl
type_same None (Some b) x p q = absurd (no_code (subst IsCode (first_byte b 0 x [] [] q.0 p) q.1))
type_same (Some a) None x p q = absurd (no_code (subst IsCode (first_byte a 0 x [] [] p.0 q) p.1))
type_same (Some a) (Some b) x p q = ap Some (first_byte a b x [] [] p.0 q.0)

type_wide : (a : Option ℕ) (x : List ℕ) → IsFieldType a x → length x ≡ 1
type_wide None x p = ap length p
type_wide (Some a) x p = ap length p.0

abbrev NoType : Stop → List ℕ → Type 0
NoType s x = (ty : ℕ) × (x ≡ ty ∷ []) × (ty ≢ 0) × (IsCode ty → ⊥) × (s ≡ Bad 4 0)

no_type_fault : (s : Stop) (a : Option ℕ) (x : List ℕ) → NoType s x → IsFieldType a x → ⊥
no_type_fault s None x h p = h.2 (first_byte h.0 0 x [] [] h.1 p)
no_type_fault s (Some a) x h p = h.3 (subst IsCode (first_byte a h.0 x [] [] p.0 h.1) p.1)

pub determined_field_type : Determined IsFieldType StopsFieldType
determined_field_type =
    determined_judged IsFieldType StopsFieldType NoType 1 (record {
      stops = (λ s x p. p);
      wide = type_wide;
      fault_wide = (λ s x h. ap length h.1);
      same = type_same;
      no_fault = no_type_fault;
      same_fault = (λ s t x h k. h.4 ∙ sym k.4);
    })

-- the id of a field; behind the end of a struct there is none
abbrev IdBehind : Option ℕ → ℤ → List ℕ → Type 0
IdBehind None id x = (id ≡ pos 0) × (x ≡ [])
IdBehind (Some ty) id x = IsShort id x

determined_id : (a : Option ℕ) → Determined (IdBehind a) (Behind (λ _. StopsShort 2) a)
determined_id None =
    record {
      one = (λ a b x y u v p q e. (p.0 ∙ sym q.0, p.1 ∙ sym q.1));
      hinders = (λ s a x y u v none q e. absurd none);
      agree = (λ s t x y u v none q e. absurd none);
    }
determined_id (Some ty) = determined_short

-- a field is a type and an id
abbrev FieldTold : Option (ℕ × ℤ) → Option ℕ × ℤ → Type 0
FieldTold None told = told.0 ≡ None
FieldTold (Some field) told = (told.0 ≡ Some field.0) × (told.1 ≡ field.1)

abbrev or_else : {A : Type 0} → A → Option A → A
or_else a None = a
or_else a (Some b) = b

abbrev Is : {A : Type 0} → Option A → Type 0
Is None = ⊥
Is (Some a) = Unit {0}

some_same : {A : Type 0} (a b : A) → Some a ≡ Some b → a ≡ b
some_same {A} a b e = ap (or_else a) e

some_none : {A : Type 0} (a : A) → Some a ≡ None → ⊥
some_none {A} a e = subst (Is {A = A}) e tt

field_parts : (c : Option (ℕ × ℤ)) (x : List ℕ) → IsField c x → (a : Option ℕ × ℤ) × IsThen IsFieldType IdBehind a.0 a.1 x × FieldTold c a
field_parts None x p = ((None, pos 0), (x, [], sym (append-nil x), p, (refl, refl)), refl)
field_parts (Some field) x p = ((Some field.0, field.1), p, (refl, refl))

same_field : (c d : Option (ℕ × ℤ)) (a : Option ℕ × ℤ) → FieldTold c a → FieldTold d a → c ≡ d
same_field None None a p q = refl
same_field None (Some d) a p q = absurd (some_none d.0 (sym q.0 ∙ p))
same_field (Some c) None a p q = absurd (some_none c.0 (sym p.0 ∙ q))
same_field (Some c) (Some d) a p q = ap Some (pair_same c d (some_same c.0 d.0 (sym p.0 ∙ q.0)) (sym p.1 ∙ q.1))

pub determined_field : Determined IsField StopsField
determined_field =
    determined_by (λ (a : Option ℕ × ℤ). IsThen IsFieldType IdBehind a.0 a.1) (StopsThen IsFieldType StopsFieldType (Behind (λ _. StopsShort 2))) IsField StopsField FieldTold
    (determined_then IsFieldType StopsFieldType IdBehind (Behind (λ _. StopsShort 2)) determined_field_type determined_id)
    field_parts same_field (λ s x p. p)

-- ---- heads of collections

not_none : (s : Stop) (a : ℕ) (x : List ℕ) → IsNoCount s x → IsCount a x → ⊥
not_none = not_counted COUNT_LIMIT count_low

same_count : (a b : ℕ) (x : List ℕ) → IsCount a x → IsCount b x → a ≡ b
same_count = same_counted COUNT_LIMIT count_low

abbrev NoListHead : Stop → List ℕ → Type 0
NoListHead stop bytes =
    ((ty : ℕ) × (number : List ℕ) × (s : Stop) × (bytes ≡ ty ∷ number) × IsNoCount s number × (stop ≡ moved 1 s))
    ⊎ ((ty count : ℕ) × (number : List ℕ) × (bytes ≡ ty ∷ number) × IsCount count number × (count ≢ 0) × (IsCode ty → ⊥) × (stop ≡ Bad 4 0))

list_fault_wide : (s : Stop) (x : List ℕ) → NoListHead s x → length x ≡ 5
list_fault_wide s x (inl h) = omega (arith, ap length h.3, no_number_wide COUNT_LIMIT h.2 h.1 h.4)
list_fault_wide s x (inr h) = omega (arith, ap length h.3, ap length h.4.0)

list_same : (a b : ℕ × ℕ) (x : List ℕ) → IsListHead a.0 a.1 x → IsListHead b.0 b.1 x → a ≡ b
list_same a b x p q =
    let numbers = bytes_behind a.0 b.0 x p.0 q.0 p.1 q.1 in
    pair_same a b (first_byte a.0 b.0 x p.0 q.0 p.1 q.1) (same_count a.1 b.1 q.0 (subst (IsCount a.1) numbers p.2) q.2)

list_no_fault : (s : Stop) (a : ℕ × ℕ) (x : List ℕ) → NoListHead s x → IsListHead a.0 a.1 x → ⊥
list_no_fault s a x (inl h) q =
    not_none h.2 a.1 q.0 (subst (IsNoCount h.2) (bytes_behind h.0 a.0 x h.1 q.0 h.3 q.1) h.4) q.2
list_no_fault s a x (inr h) q =
    let types = first_byte a.0 h.0 x q.0 h.2 q.1 h.3 in
    let counts = same_count a.1 h.1 h.2 (subst (IsCount a.1) (bytes_behind a.0 h.0 x q.0 h.2 q.1 h.3) q.2) h.4 in
    h.6 (subst IsCode types (q.3 (λ none. h.5 (sym counts ∙ none))))

list_same_fault : (s t : Stop) (x : List ℕ) → NoListHead s x → NoListHead t x → s ≡ t
list_same_fault s t x (inl h) (inl k) =
    let numbers = bytes_behind h.0 k.0 x h.1 k.1 h.3 k.3 in
    h.5 ∙ ap (moved 1) (same_no_number COUNT_LIMIT h.2 k.2 k.1 (subst (IsNoCount h.2) numbers h.4) k.4) ∙ sym k.5
list_same_fault s t x (inl h) (inr k) =
    absurd (not_none h.2 k.1 k.2 (subst (IsNoCount h.2) (bytes_behind h.0 k.0 x h.1 k.2 h.3 k.3) h.4) k.4)
list_same_fault s t x (inr h) (inl k) =
    absurd (not_none k.2 h.1 h.2 (subst (IsNoCount k.2) (bytes_behind k.0 h.0 x k.1 h.2 k.3 h.3) k.4) h.4)
list_same_fault s t x (inr h) (inr k) = h.7 ∙ sym k.7

pub determined_list_head : Determined {A = ℕ × ℕ} (λ a. IsListHead a.0 a.1) StopsListHead
determined_list_head =
    determined_judged {A = ℕ × ℕ} (λ a. IsListHead a.0 a.1) StopsListHead NoListHead 5 (record {
      stops = (λ s x p. p);
      wide = (λ a x p. omega (arith, ap length p.1, ap length p.2.0));
      fault_wide = list_fault_wide;
      same = list_same;
      no_fault = list_no_fault;
      same_fault = list_same_fault;
    })

abbrev NoMapHead : Stop → List ℕ → Type 0
NoMapHead stop bytes =
    ((key value : ℕ) × (number : List ℕ) × (s : Stop) × (bytes ≡ key ∷ value ∷ number) × IsNoCount s number × (stop ≡ moved 2 s))
    ⊎ ((key value count : ℕ) × (number : List ℕ) × (bytes ≡ key ∷ value ∷ number) × IsCount count number × (count ≢ 0) × (IsCode key → ⊥) × (stop ≡ Bad 4 0))
    ⊎ ((key value count : ℕ) × (number : List ℕ) × (bytes ≡ key ∷ value ∷ number) × IsCount count number × (count ≢ 0) × IsCode key × (IsCode value → ⊥) × (stop ≡ Bad 4 1))

second_byte : (a a' b b' : ℕ) (x u v : List ℕ) → x ≡ a ∷ a' ∷ u → x ≡ b ∷ b' ∷ v → a' ≡ b'
second_byte a a' b b' x u v p q = ap (λ xs. get_or xs 1 0) (sym p ∙ q)

bytes_behind_two : (a a' b b' : ℕ) (x u v : List ℕ) → x ≡ a ∷ a' ∷ u → x ≡ b ∷ b' ∷ v → u ≡ v
bytes_behind_two a a' b b' x u v p q = ap (drop 2) (sym p ∙ q)

map_fault_wide : (s : Stop) (x : List ℕ) → NoMapHead s x → length x ≡ 6
map_fault_wide s x (inl h) = omega (arith, ap length h.4, no_number_wide COUNT_LIMIT h.3 h.2 h.5)
map_fault_wide s x (inr (inl h)) = omega (arith, ap length h.4, ap length h.5.0)
map_fault_wide s x (inr (inr h)) = omega (arith, ap length h.4, ap length h.5.0)

triple_same : {A B C : Type 0} (a b : A × B × C) → a.0 ≡ b.0 → a.1 ≡ b.1 → a.2 ≡ b.2 → a ≡ b
triple_same {A} {B} {C} a b p q r =
    let first : A → A × B × C = λ c. (c, a.1, a.2) in
    let second : B → A × B × C = λ d. (b.0, d, a.2) in
    let third : C → A × B × C = λ e. (b.0, b.1, e) in
    ap first p ∙ ap second q ∙ ap third r

map_same : (a b : ℕ × ℕ × ℕ) (x : List ℕ) → IsMapHead a.0 a.1 a.2 x → IsMapHead b.0 b.1 b.2 x → a ≡ b
map_same a b x p q =
    let numbers = bytes_behind_two a.0 a.1 b.0 b.1 x p.0 q.0 p.1 q.1 in
    triple_same a b
    (first_byte a.0 b.0 x (a.1 ∷ p.0) (b.1 ∷ q.0) p.1 q.1)
    (second_byte a.0 a.1 b.0 b.1 x p.0 q.0 p.1 q.1)
    (same_count a.2 b.2 q.0 (subst (IsCount a.2) numbers p.2) q.2)

map_no_fault : (s : Stop) (a : ℕ × ℕ × ℕ) (x : List ℕ) → NoMapHead s x → IsMapHead a.0 a.1 a.2 x → ⊥
map_no_fault s a x (inl h) q =
    not_none h.3 a.2 q.0 (subst (IsNoCount h.3) (bytes_behind_two h.0 h.1 a.0 a.1 x h.2 q.0 h.4 q.1) h.5) q.2
map_no_fault s a x (inr (inl h)) q =
    let types = first_byte a.0 h.0 x (a.1 ∷ q.0) (h.1 ∷ h.3) q.1 h.4 in
    let counts = same_count a.2 h.2 h.3 (subst (IsCount a.2) (bytes_behind_two a.0 a.1 h.0 h.1 x q.0 h.3 q.1 h.4) q.2) h.5 in
    h.7 (subst IsCode types (q.3 (λ none. h.6 (sym counts ∙ none))))
map_no_fault s a x (inr (inr h)) q =
    let types = second_byte a.0 a.1 h.0 h.1 x q.0 h.3 q.1 h.4 in
    let counts = same_count a.2 h.2 h.3 (subst (IsCount a.2) (bytes_behind_two a.0 a.1 h.0 h.1 x q.0 h.3 q.1 h.4) q.2) h.5 in
    h.8 (subst IsCode types (q.4 (λ none. h.6 (sym counts ∙ none))))

map_no_count : (s : Stop) (k k' v v' count : ℕ) (x n m : List ℕ) → x ≡ k ∷ v ∷ n → IsNoCount s n → x ≡ k' ∷ v' ∷ m → IsCount count m → ⊥
map_no_count s k k' v v' count x n m p none q counted =
    not_none s count m (subst (IsNoCount s) (bytes_behind_two k v k' v' x n m p q) none) counted

map_same_fault : (s t : Stop) (x : List ℕ) → NoMapHead s x → NoMapHead t x → s ≡ t
map_same_fault s t x (inl h) (inl k) =
    let numbers = bytes_behind_two h.0 h.1 k.0 k.1 x h.2 k.2 h.4 k.4 in
    h.6 ∙ ap (moved 2) (same_no_number COUNT_LIMIT h.3 k.3 k.2 (subst (IsNoCount h.3) numbers h.5) k.5) ∙ sym k.6
map_same_fault s t x (inl h) (inr (inl k)) = absurd (map_no_count h.3 h.0 k.0 h.1 k.1 k.2 x h.2 k.3 h.4 h.5 k.4 k.5)
map_same_fault s t x (inl h) (inr (inr k)) = absurd (map_no_count h.3 h.0 k.0 h.1 k.1 k.2 x h.2 k.3 h.4 h.5 k.4 k.5)
map_same_fault s t x (inr (inl h)) (inl k) = absurd (map_no_count k.3 k.0 h.0 k.1 h.1 h.2 x k.2 h.3 k.4 k.5 h.4 h.5)
map_same_fault s t x (inr (inl h)) (inr (inl k)) = h.8 ∙ sym k.8
map_same_fault s t x (inr (inl h)) (inr (inr k)) = absurd (h.7 (subst IsCode (first_byte k.0 h.0 x (k.1 ∷ k.3) (h.1 ∷ h.3) k.4 h.4) k.7))
map_same_fault s t x (inr (inr h)) (inl k) = absurd (map_no_count k.3 k.0 h.0 k.1 h.1 h.2 x k.2 h.3 k.4 k.5 h.4 h.5)
map_same_fault s t x (inr (inr h)) (inr (inl k)) = absurd (k.7 (subst IsCode (first_byte h.0 k.0 x (h.1 ∷ h.3) (k.1 ∷ k.3) h.4 k.4) h.7))
map_same_fault s t x (inr (inr h)) (inr (inr k)) = h.9 ∙ sym k.9

pub determined_map_head : Determined {A = ℕ × ℕ × ℕ} (λ a. IsMapHead a.0 a.1 a.2) StopsMapHead
determined_map_head =
    determined_judged {A = ℕ × ℕ × ℕ} (λ a. IsMapHead a.0 a.1 a.2) StopsMapHead NoMapHead 6 (record {
      stops = (λ s x p. p);
      wide = (λ a x p. omega (arith, ap length p.1, ap length p.2.0));
      fault_wide = map_fault_wide;
      same = map_same;
      no_fault = map_no_fault;
      same_fault = map_same_fault;
    })
