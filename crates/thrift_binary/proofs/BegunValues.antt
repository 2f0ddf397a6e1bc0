-- At the front of every text of bytes a value of a type is spelled, or the text stops to spell one.
use Rattle.std.proofs.Common.{◌≡◌, ◌≢◌, ℕ, zero, suc, ◌+◌, ◌^◌, ◌<◌, ◌≤◌, ◌⊎◌, ◌==◌, List, [], ◌∷◌, ◌++◌, length, get_or, Option, Some, None, ℤ, pos, negsuc, ◌<ℤ◌, refl, sym, ap, ◌∙◌, subst, append_assoc, arith, inl, inr, length-append, w8, w16, w32, w64}
use mir.Val.{SFits, bits}
use borrow.Author.Gap.{read_sfits}
use Rattle.std.specs.Int.{Width, from_be_bytes, to_be_bytes, cast_unsigned, cast_signed}
use Rattle.std.proofs.lemmas.Bool.{cases_lt, cases_eq}
use Rattle.std.proofs.lemmas.Int.{of_z-to_z, ints}
use Rattle.std.proofs.lemmas.Nat.{be_bytes_2, be_bytes_4, be_bytes_8}
use Rattle.cat_values.specs.declared.text.TheConstants.{TEXT_LIMIT}
use Rattle.thrift_binary.specs.declared.limits.TheConstants.{COUNT_LIMIT}
use Rattle.thrift_binary.specs.Laws.{AreBytes}
use Rattle.thrift_binary.specs.Taking.{Stop, Cut, Bad, Large, moved}
use Rattle.thrift_binary.specs.Tree.{Wire, Flag, Number, Eight, Bytes, Struct, Items, Pairs, NoFields, Field, Elements, NoElements, Element, Entries, NoEntries, Entry, elements_count, entries_count}
use Rattle.thrift_binary.specs.Wire.{int_bytes, IsThen, StopsThen, Behind, StopsShort, IsByte, IsShort, IsInt, IsLong, IsFlag, IsBody, IsLength, StopsLength, IsString, StopsString, IsCode, IsFieldType, StopsFieldType, IsField, StopsField, IsElementType, IsCount, IsListHead, StopsListHead, IsMapHead, StopsMapHead, IsWire, AreElements, AreEntries, IsStruct, StopsFieldsBy, StopsElementsBy, StopsEntriesBy, StopsListBy, StopsMapBy, IsNested, StopsPlain, StopsWire}
use Rattle.thrift_binary.proofs.Words.{single}
use Rattle.thrift_binary.proofs.Determined.{split_length}
use Rattle.thrift_binary.proofs.Reading.{moved-moved, moved-zero}
use Rattle.thrift_binary.proofs.Beginnings.{Total, Begins, Judged, bytes_right, bytes_as, bad_wrong, large_wrong, moved_cut, total_then, total_by, total_wide, total_row}

-- ---- what can be told

pub either : {P Q : Type 0} → P ⊎ (P → ⊥) → Q ⊎ (Q → ⊥) → (P ⊎ Q) ⊎ (P ⊎ Q → ⊥)
either (inl p) d = inl (inl p)
either (inr none) (inl q) = inl (inr q)
either {P} {Q} (inr none) (inr nor) = inr neither
  where
    neither : P ⊎ Q → ⊥
    neither (inl p) = none p
    neither (inr q) = nor q

code_or_none : (ty : ℕ) → IsCode ty ⊎ (IsCode ty → ⊥)
code_or_none ty =
    either (cases_eq ty 2) (either (cases_eq ty 3) (either (cases_eq ty 4) (either (cases_eq ty 6) (either (cases_eq ty 8) (either (cases_eq ty 10) (either (cases_eq ty 11) (either (cases_eq ty 12) (either (cases_eq ty 13) (either (cases_eq ty 14) (cases_eq ty 15))))))))))

-- ---- numbers

abbrev IsOfWidth : Width → ℤ → List ℕ → Type 0
IsOfWidth w z x = (x ≡ to_be_bytes w (cast_unsigned w z)) × SFits w z

number_is : (w : Width) (n : ℕ) (x : List ℕ) → n < 2 ^ bits w → to_be_bytes w n ≡ x → (z : ℤ) × IsOfWidth w z x
number_is w n x small is = (cast_signed w n, (sym is ∙ ap (to_be_bytes w) (sym (of_z-to_z w n small)), read_sfits w n))

byte_is : (x : List ℕ) → length x ≡ 1 → AreBytes x → (z : ℤ) × IsByte z x
byte_is x len bytes =
    let one : to_be_bytes w8 (get_or x 0 0) ≡ get_or x 0 0 ∷ [] = ap (λ n. n ∷ []) (omega (arith, bytes 0)) in
    number_is w8 (get_or x 0 0) x (bytes 0) (one ∙ sym (single x len))

short_is : (x : List ℕ) → length x ≡ 2 → AreBytes x → (z : ℤ) × IsShort z x
short_is x len bytes = number_is w16 (from_be_bytes w16 x) x (omega (arith, bytes 0, bytes 1)) (be_bytes_2 x (from_be_bytes w16 x) len bytes refl)

pub int_is : (x : List ℕ) → length x ≡ 4 → AreBytes x → (z : ℤ) × IsInt z x
int_is x len bytes = number_is w32 (from_be_bytes w32 x) x (omega (arith, bytes 0, bytes 1, bytes 2, bytes 3)) (be_bytes_4 x (from_be_bytes w32 x) len bytes refl)

long_is : (x : List ℕ) → length x ≡ 8 → AreBytes x → (z : ℤ) × IsLong z x
long_is x len bytes = number_is w64 (from_be_bytes w64 x) x (omega (arith, bytes 0, bytes 1, bytes 2, bytes 3, bytes 4, bytes 5, bytes 6, bytes 7)) (be_bytes_8 x (from_be_bytes w64 x) len bytes refl)

total_byte : Total IsByte (StopsShort 1)
total_byte = total_wide IsByte (StopsShort 1) 1 (λ x few. (refl, few)) (λ x len bytes. inl (byte_is x len bytes))

total_short : Total IsShort (StopsShort 2)
total_short = total_wide IsShort (StopsShort 2) 2 (λ x few. (refl, few)) (λ x len bytes. inl (short_is x len bytes))

pub total_int : Total IsInt (StopsShort 4)
total_int = total_wide IsInt (StopsShort 4) 4 (λ x few. (refl, few)) (λ x len bytes. inl (int_is x len bytes))

total_long : Total IsLong (StopsShort 8)
total_long = total_wide IsLong (StopsShort 8) 8 (λ x few. (refl, few)) (λ x len bytes. inl (long_is x len bytes))

total_flag : Total IsFlag (StopsShort 1)
total_flag = total_wide IsFlag (StopsShort 1) 1 (λ x few. (refl, few)) (λ x len bytes. inl (get_or x 0 0 == 1, (get_or x 0 0, single x len, refl)))

pub total_body : (n : ℕ) → Total (IsBody n) (StopsShort n)
total_body n = total_wide (IsBody n) (StopsShort n) n (λ x few. (refl, few)) (λ x len bytes. inl (x, (refl, len)))

-- ---- lengths and counts

abbrev IsCounted : ℕ → ℕ → List ℕ → Type 0
IsCounted limit n x = (x ≡ int_bytes (pos n)) × (n ≤ limit)

abbrev NoNumber : ℕ → Stop → List ℕ → Type 0
NoNumber limit s x = ((n : ℤ) × IsInt n x × (n <ℤ pos 0) × (s ≡ Bad 3 0)) ⊎ ((n : ℤ) × IsInt n x × (pos limit <ℤ n) × (s ≡ Large 0))

counted_pos : (limit n : ℕ) (x : List ℕ) → IsInt (pos n) x → (limit < n) ⊎ (n ≤ limit) → Judged (IsCounted limit) (NoNumber limit) x
counted_pos limit n x is (inl large) = inr (Large 0, inr (pos n, is, omega (arith, ints, large), refl), large_wrong 0)
counted_pos limit n x is (inr small) = inl (n, (is.0, small))

counted_is : (limit : ℕ) (z : ℤ) (x : List ℕ) → IsInt z x → Judged (IsCounted limit) (NoNumber limit) x
counted_is limit (pos n) x is = counted_pos limit n x is (cases_lt limit n)
counted_is limit (negsuc n) x is = inr (Bad 3 0, inl (negsuc n, is, omega (arith, ints), refl), bad_wrong 3 0)

counted : (limit : ℕ) (x : List ℕ) → length x ≡ 4 → AreBytes x → Judged (IsCounted limit) (NoNumber limit) x
counted limit x len bytes = let z = int_is x len bytes in counted_is limit z.0 x z.1

length_judged : (x : List ℕ) → Judged (IsCounted TEXT_LIMIT) (NoNumber TEXT_LIMIT) x → Judged IsLength StopsLength x
length_judged x (inl p) = inl p
length_judged x (inr p) = inr (p.0, inr p.1, p.2)

total_length : Total IsLength StopsLength
total_length = total_wide IsLength StopsLength 4 (λ x few. inl (refl, few)) (λ x len bytes. length_judged x (counted TEXT_LIMIT x len bytes))

string_made : (a : ℕ × List ℕ) (x : List ℕ) → IsThen IsLength IsBody a.0 a.1 x → (body : List ℕ) × IsString body x
string_made a x p =
    (a.1, (p.2 ∙ ap (λ t. t ++ p.1) p.3.0 ∙ ap (λ t. int_bytes (pos a.0) ++ t) p.4.0 ∙ ap (λ n. int_bytes (pos n) ++ a.1) (sym p.4.1), omega (arith, p.3.1, p.4.1)))

pub total_string : Total IsString StopsString
total_string =
    total_by (λ (a : ℕ × List ℕ). IsThen IsLength IsBody a.0 a.1) StopsString IsString StopsString
    (total_then IsLength StopsLength IsBody (λ n. StopsShort n) total_length (λ n x p. total_body n))
    string_made (λ s x p. p)

-- ---- types and heads

type_judged : (ty : ℕ) (x : List ℕ) → x ≡ ty ∷ [] → (ty ≡ 0) ⊎ (ty ≢ 0) → IsCode ty ⊎ (IsCode ty → ⊥) → Judged IsFieldType StopsFieldType x
type_judged ty x is (inl end) d = inl (None, is ∙ ap (λ t. t ∷ []) end)
type_judged ty x is (inr some) (inl code) = inl (Some ty, (is, code))
type_judged ty x is (inr some) (inr none) = inr (Bad 4 0, inr (ty, is, some, none, refl), bad_wrong 4 0)

total_type : Total IsFieldType StopsFieldType
total_type = total_wide IsFieldType StopsFieldType 1 (λ x few. inl (refl, few)) (λ x len bytes. type_judged (get_or x 0 0) x (single x len) (cases_eq (get_or x 0 0) 0) (code_or_none (get_or x 0 0)))

-- the id of a field; behind the end of a struct there is none
abbrev IdBehind : Option ℕ → ℤ → List ℕ → Type 0
IdBehind None id x = (id ≡ pos 0) × (x ≡ [])
IdBehind (Some ty) id x = IsShort id x

total_id : (a : Option ℕ) → Total (IdBehind a) (Behind (λ _. StopsShort 2) a)
total_id None = record { begins = (λ text bytes. inl (record { value = pos 0; front = []; rest = text; parts = refl; holds = (refl, refl) })) }
total_id (Some ty) = total_short

field_made : (a : Option ℕ × ℤ) (x : List ℕ) → IsThen IsFieldType IdBehind a.0 a.1 x → (c : Option (ℕ × ℤ)) × IsField c x
field_made (None, id) x p = (None, p.2 ∙ ap (λ t. t ++ p.1) p.3 ∙ ap (λ t. (0 ∷ []) ++ t) p.4.1)
field_made (Some ty, id) x p = (Some (ty, id), p)

total_field : Total IsField StopsField
total_field =
    total_by (λ (a : Option ℕ × ℤ). IsThen IsFieldType IdBehind a.0 a.1) StopsField IsField StopsField
    (total_then IsFieldType StopsFieldType IdBehind (Behind (λ _. StopsShort 2)) total_type (λ a x p. total_id a))
    field_made (λ s x p. p)

-- the type of elements is one, or there are some and it is none
element_type : (count ty : ℕ) → (count ≡ 0) ⊎ (count ≢ 0) → IsCode ty ⊎ (IsCode ty → ⊥) → IsElementType count ty ⊎ ((count ≢ 0) × (IsCode ty → ⊥))
element_type count ty (inl none) d = inl (λ some. absurd (some none))
element_type count ty (inr some) (inl code) = inl (λ _. code)
element_type count ty (inr some) (inr none) = inr (some, none)

types_or_not : (count ty : ℕ) → IsElementType count ty ⊎ ((count ≢ 0) × (IsCode ty → ⊥))
types_or_not count ty = element_type count ty (cases_eq count 0) (code_or_none ty)

list_typed : (ty count : ℕ) (number : List ℕ) → IsCount count number → IsElementType count ty ⊎ ((count ≢ 0) × (IsCode ty → ⊥)) → Judged {A = ℕ × ℕ} (λ a. IsListHead a.0 a.1) StopsListHead (ty ∷ number)
list_typed ty count number is (inl typed) = inl ((ty, count), (number, refl, is, typed))
list_typed ty count number is (inr none) = inr (Bad 4 0, inr (inr (ty, count, number, refl, is, none.0, none.1, refl)), bad_wrong 4 0)

moved_wrong : (n : ℕ) (s : Stop) → (s ≡ Cut → ⊥) → moved n s ≡ Cut → ⊥
moved_wrong n Cut wrong e = wrong refl
moved_wrong n (Bad code place) wrong e = bad_wrong code (n + place) e
moved_wrong n (Large place) wrong e = large_wrong (n + place) e

list_counted : (ty : ℕ) (number : List ℕ) → Judged (IsCounted COUNT_LIMIT) (NoNumber COUNT_LIMIT) number → Judged {A = ℕ × ℕ} (λ a. IsListHead a.0 a.1) StopsListHead (ty ∷ number)
list_counted ty number (inl p) = list_typed ty p.0 number p.1 (types_or_not p.0 ty)
list_counted ty number (inr p) = inr (moved 1 p.0, inr (inl (ty, number, p.0, refl, p.1, refl)), moved_wrong 1 p.0 p.2)

list_judged : (x : List ℕ) → length x ≡ 5 → AreBytes x → Judged {A = ℕ × ℕ} (λ a. IsListHead a.0 a.1) StopsListHead x
list_judged [] len bytes = absurd (omega (arith, len))
list_judged (ty ∷ number) len bytes = list_counted ty number (counted COUNT_LIMIT number (omega (arith, len)) (λ i. bytes (suc i)))

total_list_head : Total {A = ℕ × ℕ} (λ a. IsListHead a.0 a.1) StopsListHead
total_list_head = total_wide {A = ℕ × ℕ} (λ a. IsListHead a.0 a.1) StopsListHead 5 (λ x few. inl (refl, few)) list_judged

map_typed : (key value count : ℕ) (number : List ℕ) → IsCount count number → IsElementType count key ⊎ ((count ≢ 0) × (IsCode key → ⊥)) → IsElementType count value ⊎ ((count ≢ 0) × (IsCode value → ⊥)) → Judged {A = ℕ × ℕ × ℕ} (λ a. IsMapHead a.0 a.1 a.2) StopsMapHead (key ∷ value ∷ number)
map_typed key value count number is (inl keys) (inl values) = inl ((key, value, count), (number, refl, is, keys, values))
map_typed key value count number is (inl keys) (inr none) = inr (Bad 4 1, inr (inr (inr (key, value, count, number, refl, is, none.0, keys none.0, none.1, refl))), bad_wrong 4 1)
map_typed key value count number is (inr none) d = inr (Bad 4 0, inr (inr (inl (key, value, count, number, refl, is, none.0, none.1, refl))), bad_wrong 4 0)

map_counted : (key value : ℕ) (number : List ℕ) → Judged (IsCounted COUNT_LIMIT) (NoNumber COUNT_LIMIT) number → Judged {A = ℕ × ℕ × ℕ} (λ a. IsMapHead a.0 a.1 a.2) StopsMapHead (key ∷ value ∷ number)
map_counted key value number (inl p) = map_typed key value p.0 number p.1 (types_or_not p.0 key) (types_or_not p.0 value)
map_counted key value number (inr p) = inr (moved 2 p.0, inr (inl (key, value, number, p.0, refl, p.1, refl)), moved_wrong 2 p.0 p.2)

map_judged : (x : List ℕ) → length x ≡ 6 → AreBytes x → Judged {A = ℕ × ℕ × ℕ} (λ a. IsMapHead a.0 a.1 a.2) StopsMapHead x
map_judged [] len bytes = absurd (omega (arith, len))
map_judged (key ∷ []) len bytes = absurd (omega (arith, len))
map_judged (key ∷ value ∷ number) len bytes = map_counted key value number (counted COUNT_LIMIT number (omega (arith, len)) (λ i. bytes (suc (suc i))))

total_map_head : Total {A = ℕ × ℕ × ℕ} (λ a. IsMapHead a.0 a.1 a.2) StopsMapHead
total_map_head = total_wide {A = ℕ × ℕ × ℕ} (λ a. IsMapHead a.0 a.1 a.2) StopsMapHead 6 (λ x few. inl (refl, few)) map_judged

-- ---- values that hold others, from those one deeper

module _ (depth : ℕ) (inner : (ty : ℕ) → IsCode ty → Total (λ (w : Wire). IsWire w depth ty) (StopsWire depth ty)) where
  -- ---- elements
  total_elements : (ty n : ℕ) → IsElementType n ty → Total (λ (es : Elements) x. AreElements es depth ty x × (elements_count es ≡ n)) (StopsElementsBy (StopsWire depth) depth ty n)
  total_elements ty n typed =
      total_row (λ (w : Wire). IsWire w depth ty) (StopsWire depth ty) (λ (es : Elements). AreElements es depth ty) elements_count
      (record {
        nil = NoElements;
        cons = Element;
        nil_row = refl;
        nil_count = refl;
        cons_row = (λ w es front rest p q. (front, rest, refl, p, q));
        cons_count = (λ w es. refl);
      })
      n (λ some. inner ty (typed some))

  total_list : Total {A = (ℕ × ℕ) × Elements} (λ a. IsThen {A = ℕ × ℕ} {B = Elements} (λ head. IsListHead head.0 head.1) (λ head es x. AreElements es depth head.0 x × (elements_count es ≡ head.1)) a.0 a.1) (StopsListBy (StopsWire depth) depth)
  total_list =
      total_then {A = ℕ × ℕ} {B = Elements} (λ head. IsListHead head.0 head.1) StopsListHead (λ head es x. AreElements es depth head.0 x × (elements_count es ≡ head.1)) (λ head. StopsElementsBy (StopsWire depth) depth head.0 head.1)
      total_list_head (λ head x p. total_elements head.0 head.1 p.3)

  -- ---- pairs
  abbrev IsPair : ℕ → ℕ → Wire × Wire → List ℕ → Type 0
  IsPair key value p = IsThen (λ (w : Wire). IsWire w depth key) (λ (_ : Wire) (w : Wire). IsWire w depth value) p.0 p.1

  abbrev StopsPair : ℕ → ℕ → Stop → List ℕ → Type 0
  StopsPair key value = StopsThen (λ (w : Wire). IsWire w depth key) (StopsWire depth key) (λ (_ : Wire). StopsWire depth value)

  total_pair : (key value : ℕ) → IsCode key → IsCode value → Total (IsPair key value) (StopsPair key value)
  total_pair key value is it =
      total_then (λ (w : Wire). IsWire w depth key) (StopsWire depth key) (λ (_ : Wire) (w : Wire). IsWire w depth value) (λ (_ : Wire). StopsWire depth value) (inner key is) (λ w x p. inner value it)

  total_entries : (key value n : ℕ) → IsElementType n key → IsElementType n value → Total (λ (ps : Entries) x. AreEntries ps depth key value x × (entries_count ps ≡ n)) (StopsEntriesBy (StopsWire depth) depth key value n)
  total_entries key value n keys values =
      total_row (IsPair key value) (StopsPair key value) (λ (ps : Entries). AreEntries ps depth key value) entries_count
      (record {
        nil = NoEntries;
        cons = (λ p ps. Entry p.0 p.1 ps);
        nil_row = refl;
        nil_count = refl;
        cons_row = (λ p ps front rest h k. (h.0, h.1, rest, ap (λ t. t ++ rest) h.2 ∙ append_assoc h.0 h.1 rest, h.3, h.4, k));
        cons_count = (λ p ps. refl);
      })
      n (λ some. total_pair key value (keys some) (values some))

  total_map : Total {A = (ℕ × ℕ × ℕ) × Entries} (λ a. IsThen {A = ℕ × ℕ × ℕ} {B = Entries} (λ head. IsMapHead head.0 head.1 head.2) (λ head ps x. AreEntries ps depth head.0 head.1 x × (entries_count ps ≡ head.2)) a.0 a.1) (StopsMapBy (StopsWire depth) depth)
  total_map =
      total_then {A = ℕ × ℕ × ℕ} {B = Entries} (λ head. IsMapHead head.0 head.1 head.2) StopsMapHead (λ head ps x. AreEntries ps depth head.0 head.1 x × (entries_count ps ≡ head.2)) (λ head. StopsEntriesBy (StopsWire depth) depth head.0 head.1 head.2)
      total_map_head (λ head x p. total_entries head.0 head.1 head.2 p.3 p.4)

  -- ---- fields
  abbrev ValueBehind : Option (ℕ × ℤ) → Wire → List ℕ → Type 0
  ValueBehind None w x = (w ≡ Bytes []) × (x ≡ [])
  ValueBehind (Some field) w x = IsWire w depth field.0 x

  abbrev StopsBehind : Option (ℕ × ℤ) → Stop → List ℕ → Type 0
  StopsBehind = Behind (λ field. StopsWire depth field.0)

  total_behind : (field : Option (ℕ × ℤ)) (x : List ℕ) → IsField field x → Total (ValueBehind field) (StopsBehind field)
  total_behind None x p = record { begins = (λ text bytes. inl (record { value = Bytes []; front = []; rest = text; parts = refl; holds = (refl, refl) })) }
  total_behind (Some field) x p = inner field.0 p.3.1

  abbrev IsItem : Option (ℕ × ℤ) × Wire → List ℕ → Type 0
  IsItem f = IsThen IsField ValueBehind f.0 f.1

  abbrev StopsItem : Stop → List ℕ → Type 0
  StopsItem = StopsThen IsField StopsField StopsBehind

  total_item : Total IsItem StopsItem
  total_item = total_then IsField StopsField ValueBehind StopsBehind total_field total_behind

  abbrev BeginsFields : List ℕ → Type 0
  BeginsFields = Begins (IsStruct depth) (StopsFieldsBy (StopsWire depth) depth)

  -- a field in front of others
  field_first : (ty : ℕ) (id : ℤ) (w : Wire) (text front rest : List ℕ) → text ≡ front ++ rest → IsItem (Some (ty, id), w) front → BeginsFields rest → BeginsFields text
  field_first ty id w text front rest parts p (inl v) =
      let h = v.holds in
      inl (record {
        value = Field ty id w v.value;
        front = front ++ v.front;
        rest = v.rest;
        parts = parts ∙ ap (λ t. front ++ t) v.parts ∙ sym (append_assoc front v.front v.rest);
        holds = (front ++ h.0, ap (λ t. front ++ t) h.1 ∙ sym (append_assoc front h.0 (0 ∷ [])), (p.0, p.1, h.0, ap (λ t. t ++ h.0) p.2 ∙ append_assoc p.0 p.1 h.0, p.3, p.4, h.2));
      })
  field_first ty id w text front rest parts p (inr b) =
      let h = b.holds in
      let len : length (front ++ h.1) ≡ length front + length h.1 = length-append front h.1 in
      inr (record {
        stop = moved (length front) b.stop;
        front = front ++ b.front;
        rest = b.rest;
        parts = parts ∙ ap (λ t. front ++ t) b.parts ∙ sym (append_assoc front b.front b.rest);
        holds = (
          Field ty id w h.0,
          front ++ h.1,
          h.2,
          h.3,
          ap (λ t. front ++ t) h.4 ∙ sym (append_assoc front h.1 h.2),
          (p.0, p.1, h.1, ap (λ t. t ++ h.1) p.2 ∙ append_assoc p.0 p.1 h.1, p.3, p.4, h.5),
          ap (moved (length front)) h.6 ∙ sym (moved-moved (length front) (length h.1) h.3) ∙ ap (λ k. moved k h.3) (sym len),
          h.7,
        );
        last = (λ cut. b.last (moved_cut (length front) b.stop cut));
      })

  -- a field has a byte
  field_some : (ty : ℕ) (id : ℤ) (w : Wire) (x : List ℕ) → IsItem (Some (ty, id), w) x → 0 < length x
  field_some ty id w x p = omega (arith, split_length x p.0 p.1 p.2, split_length p.0 p.3.0 p.3.1 p.3.2, ap length p.3.3.0)

  item_first : (fuel : ℕ) → ((rest : List ℕ) → AreBytes rest → length rest < fuel → BeginsFields rest) → (f : Option (ℕ × ℤ) × Wire) (text front rest : List ℕ) → text ≡ front ++ rest → IsItem f front → AreBytes text → length text < suc fuel → BeginsFields text
  item_first fuel others (None, w) text front rest parts p bytes few =
      inl (record { value = NoFields; front = front; rest = rest; parts = parts; holds = ([], p.2 ∙ ap (λ t. t ++ p.1) p.3 ∙ ap (λ t. (0 ∷ []) ++ t) p.4.1, refl) })
  item_first fuel others (Some (ty, id), w) text front rest parts p bytes few =
      field_first ty id w text front rest parts p
      (others rest (bytes_right front rest (bytes_as text (front ++ rest) parts bytes)) (omega (arith, few, split_length text front rest parts, field_some ty id w front p)))

  fields_next : (fuel : ℕ) → ((rest : List ℕ) → AreBytes rest → length rest < fuel → BeginsFields rest) → (text : List ℕ) → AreBytes text → length text < suc fuel → Begins IsItem StopsItem text → BeginsFields text
  fields_next fuel others text bytes few (inl w) = item_first fuel others w.value text w.front w.rest w.parts w.holds bytes few
  fields_next fuel others text bytes few (inr b) =
      inr (record { stop = b.stop; front = b.front; rest = b.rest; parts = b.parts; holds = (NoFields, [], b.front, b.stop, refl, refl, sym (moved-zero b.stop), b.holds); last = b.last })

  fields_begin : (fuel : ℕ) (text : List ℕ) → AreBytes text → length text < fuel → BeginsFields text
  fields_begin zero text bytes few = absurd (omega (arith, few))
  fields_begin (suc fuel) text bytes few = fields_next fuel (fields_begin fuel) text bytes few (let t = total_item in t.begins text bytes)

  total_struct : Total (IsStruct depth) (StopsFieldsBy (StopsWire depth) depth)
  total_struct = record { begins = (λ text bytes. fields_begin (suc (length text)) text bytes (omega arith)) }

-- ---- values of any type

-- one that is too deep stops before its first byte
total_deep : (ty : ℕ) → IsNested ty → Total (λ (w : Wire). IsWire w zero ty) (StopsWire zero ty)
total_deep ty nested = record { begins = (λ text bytes. inr (record { stop = Large 0; front = []; rest = text; parts = refl; holds = inr (nested, refl, refl); last = (λ cut. absurd (large_wrong 0 cut)) })) }

plain_stops : (depth ty : ℕ) (s : Stop) (x : List ℕ) → StopsPlain ty s x → StopsWire depth ty s x
plain_stops zero ty s x p = inl p
plain_stops (suc under) ty s x p = inl p

module _ (depth : ℕ) where
  abbrev TotalAt : ℕ → Type 0
  TotalAt ty = Total (λ (w : Wire). IsWire w depth ty) (StopsWire depth ty)

  plain_flag : TotalAt 2
  plain_flag = total_by IsFlag (StopsShort 1) (λ (w : Wire). IsWire w depth 2) (StopsWire depth 2) total_flag (λ v x p. (Flag v, (refl, p))) (λ s x p. plain_stops depth 2 s x (inl (1, inl (refl, refl), p)))

  plain_byte : TotalAt 3
  plain_byte = total_by IsByte (StopsShort 1) (λ (w : Wire). IsWire w depth 3) (StopsWire depth 3) total_byte (λ n x p. (Number n, inl (refl, p))) (λ s x p. plain_stops depth 3 s x (inl (1, inr (inl (refl, refl)), p)))

  plain_eight : TotalAt 4
  plain_eight = total_by (IsBody 8) (StopsShort 8) (λ (w : Wire). IsWire w depth 4) (StopsWire depth 4) (total_body 8) (λ b x p. (Eight b, (refl, p))) (λ s x p. plain_stops depth 4 s x (inl (8, inr (inr (inl (refl, refl))), p)))

  plain_short : TotalAt 6
  plain_short = total_by IsShort (StopsShort 2) (λ (w : Wire). IsWire w depth 6) (StopsWire depth 6) total_short (λ n x p. (Number n, inr (inl (refl, p)))) (λ s x p. plain_stops depth 6 s x (inl (2, inr (inr (inr (inl (refl, refl)))), p)))

  plain_int : TotalAt 8
  plain_int = total_by IsInt (StopsShort 4) (λ (w : Wire). IsWire w depth 8) (StopsWire depth 8) total_int (λ n x p. (Number n, inr (inr (inl (refl, p))))) (λ s x p. plain_stops depth 8 s x (inl (4, inr (inr (inr (inr (inl (refl, refl))))), p)))

  plain_long : TotalAt 10
  plain_long = total_by IsLong (StopsShort 8) (λ (w : Wire). IsWire w depth 10) (StopsWire depth 10) total_long (λ n x p. (Number n, inr (inr (inr (refl, p))))) (λ s x p. plain_stops depth 10 s x (inl (8, inr (inr (inr (inr (inr (refl, refl))))), p)))

  plain_text : TotalAt 11
  plain_text = total_by IsString StopsString (λ (w : Wire). IsWire w depth 11) (StopsWire depth 11) total_string (λ b x p. (Bytes b, (refl, p))) (λ s x p. plain_stops depth 11 s x (inr (refl, p)))

  -- a value of such a type, from those that hold others
  by_code : TotalAt 12 → TotalAt 13 → TotalAt 14 → TotalAt 15 → (ty : ℕ) → IsCode ty → TotalAt ty
  by_code st ma se li ty (inl is) = subst TotalAt (sym is) plain_flag
  by_code st ma se li ty (inr (inl is)) = subst TotalAt (sym is) plain_byte
  by_code st ma se li ty (inr (inr (inl is))) = subst TotalAt (sym is) plain_eight
  by_code st ma se li ty (inr (inr (inr (inl is)))) = subst TotalAt (sym is) plain_short
  by_code st ma se li ty (inr (inr (inr (inr (inl is))))) = subst TotalAt (sym is) plain_int
  by_code st ma se li ty (inr (inr (inr (inr (inr (inl is)))))) = subst TotalAt (sym is) plain_long
  by_code st ma se li ty (inr (inr (inr (inr (inr (inr (inl is))))))) = subst TotalAt (sym is) plain_text
  by_code st ma se li ty (inr (inr (inr (inr (inr (inr (inr (inl is)))))))) = subst TotalAt (sym is) st
  by_code st ma se li ty (inr (inr (inr (inr (inr (inr (inr (inr (inl is))))))))) = subst TotalAt (sym is) ma
  by_code st ma se li ty (inr (inr (inr (inr (inr (inr (inr (inr (inr (inl is)))))))))) = subst TotalAt (sym is) se
  by_code st ma se li ty (inr (inr (inr (inr (inr (inr (inr (inr (inr (inr is)))))))))) = subst TotalAt (sym is) li

module _ (under : ℕ) (inner : (ty : ℕ) → IsCode ty → Total (λ (w : Wire). IsWire w under ty) (StopsWire under ty)) where
  struct_wire : TotalAt (suc under) 12
  struct_wire =
      total_by (IsStruct under) (StopsFieldsBy (StopsWire under) under) (λ (w : Wire). IsWire w (suc under) 12) (StopsWire (suc under) 12) (total_struct under inner)
      (λ v x p. (Struct v, (refl, under, refl, p.0, p.1, p.2))) (λ s x p. inr (inl (refl, p)))

  list_wire : (ty : ℕ) → (ty ≡ 14) ⊎ (ty ≡ 15) → TotalAt (suc under) ty
  list_wire ty is =
      total_by {A = (ℕ × ℕ) × Elements} (λ a. IsThen {A = ℕ × ℕ} {B = Elements} (λ head. IsListHead head.0 head.1) (λ head es x. AreElements es under head.0 x × (elements_count es ≡ head.1)) a.0 a.1) (StopsListBy (StopsWire under) under)
      (λ (w : Wire). IsWire w (suc under) ty) (StopsWire (suc under) ty) (total_list under inner)
      (λ a x p. (Items a.0.0 a.1, (is, under, refl, p.0, p.1, p.2, subst (λ n. IsListHead a.0.0 n p.0) (sym p.4.1) p.3, p.4.0)))
      (λ s x p. inr (inr (inl (is, p))))

  map_wire : TotalAt (suc under) 13
  map_wire =
      total_by {A = (ℕ × ℕ × ℕ) × Entries} (λ a. IsThen {A = ℕ × ℕ × ℕ} {B = Entries} (λ head. IsMapHead head.0 head.1 head.2) (λ head ps x. AreEntries ps under head.0 head.1 x × (entries_count ps ≡ head.2)) a.0 a.1) (StopsMapBy (StopsWire under) under)
      (λ (w : Wire). IsWire w (suc under) 13) (StopsWire (suc under) 13) (total_map under inner)
      (λ a x p. (Pairs a.0.0 a.0.1 a.1, (refl, under, refl, p.0, p.1, p.2, subst (λ n. IsMapHead a.0.0 a.0.1 n p.0) (sym p.4.1) p.3, p.4.0)))
      (λ s x p. inr (inr (inr (refl, p))))

pub total_wire : (depth ty : ℕ) → IsCode ty → Total (λ (w : Wire). IsWire w depth ty) (StopsWire depth ty)
total_wire zero = by_code zero (total_deep 12 (inl refl)) (total_deep 13 (inr (inl refl))) (total_deep 14 (inr (inr (inl refl)))) (total_deep 15 (inr (inr (inr refl))))
total_wire (suc under) =
    let inner : (ty : ℕ) → IsCode ty → Total (λ (w : Wire). IsWire w under ty) (StopsWire under ty) = total_wire under in
    by_code (suc under) (struct_wire under inner) (map_wire under inner) (list_wire under inner 14 (inl refl)) (list_wire under inner 15 (inr refl))
