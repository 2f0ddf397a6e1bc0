-- Texts, and the heads of fields, collections and messages, as the plain decoder takes them.
use Rattle.std.proofs.Common.{◌≡◌, ◌≢◌, ◌≤◌, inl, inr, ℕ, ◌+◌, List, [], ◌∷◌, ◌++◌, length, get_or, pos, Result, Ok, Err, refl, sym, ap, ◌∙◌, subst, length-append, arith}
use Rattle.cat_values.specs.declared.text.TheConstants.{TEXT_LIMIT}
use Rattle.thrift_binary.specs.Taking.{Stop, moved}
use Rattle.thrift_binary.specs.Wire.{StopsShort, IsBody, IsLength, StopsLength, IsString, StopsString, IsCode, IsCount, IsElementType, IsListHead, StopsListHead, IsMapHead, StopsMapHead, int_bytes}
use Rattle.thrift_binary.specs.Messages.{IsStrictWord}
use Rattle.thrift_plain.specs.PlainReading.{Passed, Takes, StopsCount}
use Rattle.thrift_plain.specs.declared.plain_reader.Halt.{Halt}
use Rattle.thrift_plain.specs.declared.plain_reader.Halt.TheVariants as told
use Rattle.thrift_plain.proofs.PlainTaking.{Faulted, passed_weaker, passed_then, fault_behind, refused_bad, fault_then}

string_whole : (n : ℕ) (body front rest : List ℕ) → IsLength n front → IsBody n body rest → IsString body (front ++ rest)
string_whole n body front rest x y =
    (ap (λ t. t ++ rest) x.0 ∙ ap (λ t. int_bytes (pos n) ++ t) y.0 ∙ ap (λ m. int_bytes (pos m) ++ body) (sym y.1), subst (λ m. m ≤ TEXT_LIMIT) (sym y.1) x.1)

-- a length was taken, and then so many bytes
pub string_taken : {T : Type 0} (now : T → List ℕ) (old mid new : List ℕ) (n : ℕ) (result : Result T Halt) → Passed old mid (IsLength n) → Takes mid new result (λ v. IsBody n (now v)) (StopsShort n) → Takes old new result (λ v. IsString (now v)) StopsString
string_taken now old mid new n (Ok v) first second = passed_then old mid new (IsLength n) (IsBody n (now v)) (IsString (now v)) (λ front rest x y. string_whole n (now v) front rest x y) first second
string_taken {T} now old mid new n (Err halt) first second = fault_then {A = ℕ} {B = T} IsLength StopsLength (λ m v. IsBody m (now v)) (λ m. StopsShort m) old mid n halt first second

pub strict_kind : (word : List ℕ) (kind : ℕ) → IsStrictWord kind word → kind ≡ get_or word 3 0
strict_kind word kind s = sym (ap (λ ys. get_or ys 3 0) s.1)

cut_behind : (n m : ℕ) (front rest : List ℕ) (s : Stop) → length front ≡ n → StopsShort m s rest → StopsShort (n + m) (moved (length front) s) (front ++ rest)
cut_behind n m front rest s len short = (ap (moved (length front)) short.0, omega (arith, short.1, len, length-append front rest))

-- elements were counted, and their type is no code
pub counted : (ty count : ℕ) → (IsElementType count ty → ⊥) → count ≢ 0
counted ty count bars e = bars (λ some. absurd (some e))

pub no_code : (ty count : ℕ) → (IsElementType count ty → ⊥) → IsCode ty → ⊥
no_code ty count bars code = bars (λ some. code)

module _ (old mid new : List ℕ) (ty : ℕ) where
  pub list_fault : (halt : Halt) → Passed old mid (λ bytes. bytes ≡ ty ∷ []) → Faulted mid halt StopsCount → Faulted old halt StopsListHead
  list_fault halt first stop = fault_behind old mid halt (λ bytes. bytes ≡ ty ∷ []) StopsCount StopsListHead
      (λ front rest s x y. elim y [ inl short ↦ inl (cut_behind 1 4 front rest s (ap length x) short) | inr none ↦ inr (inl (ty, rest, s, ap (λ t. t ++ rest) x, none, ap (λ t. moved (length t) s) x)) ]) first stop

  counted_list : (count : ℕ) → Passed old mid (λ bytes. bytes ≡ ty ∷ []) → Passed mid new (IsCount count) → Passed old new (λ bytes. (number : List ℕ) × (bytes ≡ ty ∷ number) × IsCount count number)
  counted_list count first second = passed_then old mid new (λ bytes. bytes ≡ ty ∷ []) (IsCount count) _ (λ front rest x y. (rest, ap (λ t. t ++ rest) x, y)) first second

  pub list_taken : (count : ℕ) → IsElementType count ty → Passed old mid (λ bytes. bytes ≡ ty ∷ []) → Passed mid new (IsCount count) → Passed old new (IsListHead ty count)
  list_taken count may first second = passed_weaker old new _ (IsListHead ty count) (λ bytes h. (h.0, h.1, h.2, may)) (counted_list count first second)

  pub list_refused : (count left : ℕ) → (IsElementType count ty → ⊥) → left ≡ length old → Passed old mid (λ bytes. bytes ≡ ty ∷ []) → Passed mid new (IsCount count) → Faulted old (told.Bad 4 left) StopsListHead
  list_refused count left bars at first second = refused_bad old new 4 0 left _ StopsListHead
      (λ bytes h. inr (inr (ty, count, h.0, h.1, h.2, counted ty count bars, no_code ty count bars, refl))) (omega (arith, at)) (counted_list count first second)

module _ (old mid low new : List ℕ) (key value : ℕ) (first : Passed old mid (λ bytes. bytes ≡ key ∷ [])) (second : Passed mid low (λ bytes. bytes ≡ value ∷ [])) where
  both : Passed old low (λ bytes. bytes ≡ key ∷ value ∷ [])
  both = passed_then old mid low (λ bytes. bytes ≡ key ∷ []) (λ bytes. bytes ≡ value ∷ []) _ (λ front rest x y. ap (λ t. t ++ rest) x ∙ ap (λ t. key ∷ t) y) first second

  pub map_fault : (halt : Halt) → Faulted low halt StopsCount → Faulted old halt StopsMapHead
  map_fault halt stop = fault_behind old low halt (λ bytes. bytes ≡ key ∷ value ∷ []) StopsCount StopsMapHead
      (λ front rest s x y. elim y [ inl short ↦ inl (cut_behind 2 4 front rest s (ap length x) short) | inr none ↦ inr (inl (key, value, rest, s, ap (λ t. t ++ rest) x, none, ap (λ t. moved (length t) s) x)) ]) both stop

  counted_map : (count : ℕ) → Passed low new (IsCount count) → Passed old new (λ bytes. (number : List ℕ) × (bytes ≡ key ∷ value ∷ number) × IsCount count number)
  counted_map count third = passed_then old low new (λ bytes. bytes ≡ key ∷ value ∷ []) (IsCount count) _ (λ front rest x y. (rest, ap (λ t. t ++ rest) x, y)) both third

  pub map_taken : (count : ℕ) → IsElementType count key → IsElementType count value → Passed low new (IsCount count) → Passed old new (IsMapHead key value count)
  map_taken count may may' third = passed_weaker old new _ (IsMapHead key value count) (λ bytes h. (h.0, h.1, h.2, may, may')) (counted_map count third)

  pub key_refused : (count left : ℕ) → (IsElementType count key → ⊥) → left ≡ length old → Passed low new (IsCount count) → Faulted old (told.Bad 4 left) StopsMapHead
  key_refused count left bars at third = refused_bad old new 4 0 left _ StopsMapHead
      (λ bytes h. inr (inr (inl (key, value, count, h.0, h.1, h.2, counted key count bars, no_code key count bars, refl)))) (omega (arith, at)) (counted_map count third)

  pub value_refused : (count left : ℕ) → IsElementType count key → (IsElementType count value → ⊥) → left ≡ length mid → Passed low new (IsCount count) → Faulted old (told.Bad 4 left) StopsMapHead
  value_refused count left may bars at third =
      let size : length old ≡ 1 + length mid = ap length first.parts ∙ length-append first.bytes mid ∙ ap (λ t. length t + length mid) first.holds in
      refused_bad old new 4 1 left _ StopsMapHead
      (λ bytes h. inr (inr (inr (key, value, count, h.0, h.1, h.2, counted value count bars, may (counted value count bars), no_code value count bars, refl)))) (omega (arith, at, size)) (counted_map count third)
