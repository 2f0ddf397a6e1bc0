-- The wire: how values are spelled, and where bytes stop to be a spelling. Places count from the value's first byte.
use Rattle.std.specs.Prelude.{◌≡◌, ◌≢◌, ◌==◌, ℕ, zero, suc, ◌<◌, ◌≤◌, ◌⊎◌, Bool, List, [], ◌∷◌, ◌++◌, length, Option, Some, None, ℤ, pos, ◌<ℤ◌, FitsSigned}
use Rattle.std.specs.Str.{IsUtf8}
use Rattle.std.specs.Int.{w8, w16, w32, w64, to_be_bytes, cast_unsigned}
use Rattle.cat_values.specs.declared.text.TheConstants.{TEXT_LIMIT}
use Rattle.thrift_binary.specs.declared.limits.TheConstants.{COUNT_LIMIT}
use Rattle.thrift_binary.specs.Codes.{bad_length, bad_type, bool_code, byte_code, double_code, i16_code, i32_code, i64_code, list_code, map_code, set_code, stop_code, struct_code, text_code}
use Rattle.thrift_binary.specs.Taking.{Stop, Cut, Bad, Large, moved}
use Rattle.thrift_binary.specs.Tree.{Wire, Flag, Number, Eight, Bytes, Struct, Items, Pairs, Fields, NoFields, Field, Elements, NoElements, Element, Entries, NoEntries, Entry, elements_count, entries_count}

-- ---- one value behind another

-- a value of one kind, and behind it one of another
abbrev pub IsThen : {A B : Type 0} → (A → List ℕ → Type 0) → (A → B → List ℕ → Type 0) → A → B → List ℕ → Type 0
IsThen First Second a b bytes = (front rest : List ℕ) × (bytes ≡ front ++ rest) × First a front × Second a b rest

-- a stop in the first, or in the second behind the first
abbrev pub StopsThen : {A : Type 0} → (A → List ℕ → Type 0) → (Stop → List ℕ → Type 0) → (A → Stop → List ℕ → Type 0) → Stop → List ℕ → Type 0
StopsThen {A} First Stopped Second stop bytes =
    Stopped stop bytes ⊎ ((a : A) × (front rest : List ℕ) × (s : Stop) × (bytes ≡ front ++ rest) × First a front × (stop ≡ moved (length front) s) × Second a s rest)

-- a stop behind a value that is there; behind the end there is none
abbrev pub Behind : {A : Type 0} → (A → Stop → List ℕ → Type 0) → Option A → Stop → List ℕ → Type 0
Behind Stops None stop bytes = ⊥
Behind Stops (Some a) stop bytes = Stops a stop bytes

-- fewer bytes than n came
abbrev pub StopsShort : ℕ → Stop → List ℕ → Type 0
StopsShort n stop bytes = (stop ≡ Cut) × (length bytes < n)

-- ---- numbers and texts

-- a number, the greatest byte first
abbrev pub byte_bytes : ℤ → List ℕ
byte_bytes n = to_be_bytes w8 (cast_unsigned w8 n)

abbrev pub short_bytes : ℤ → List ℕ
short_bytes n = to_be_bytes w16 (cast_unsigned w16 n)

abbrev pub int_bytes : ℤ → List ℕ
int_bytes n = to_be_bytes w32 (cast_unsigned w32 n)

abbrev pub long_bytes : ℤ → List ℕ
long_bytes n = to_be_bytes w64 (cast_unsigned w64 n)

-- a text: its length in bytes, and its bytes
abbrev pub text_bytes : List ℕ → List ℕ
text_bytes text = int_bytes (pos (length text)) ++ text

abbrev pub IsByte : ℤ → List ℕ → Type 0
IsByte n bytes = (bytes ≡ byte_bytes n) × FitsSigned w8 n

abbrev pub IsShort : ℤ → List ℕ → Type 0
IsShort n bytes = (bytes ≡ short_bytes n) × FitsSigned w16 n

abbrev pub IsInt : ℤ → List ℕ → Type 0
IsInt n bytes = (bytes ≡ int_bytes n) × FitsSigned w32 n

abbrev pub IsLong : ℤ → List ℕ → Type 0
IsLong n bytes = (bytes ≡ long_bytes n) × FitsSigned w64 n

-- a bool is one byte; it is true exactly where the byte is 1
abbrev pub IsFlag : Bool → List ℕ → Type 0
IsFlag value bytes = (byte : ℕ) × (bytes ≡ byte ∷ []) × (value ≡ (byte == 1))

-- n bytes
abbrev pub IsBody : ℕ → List ℕ → List ℕ → Type 0
IsBody n body bytes = (bytes ≡ body) × (length body ≡ n)

-- the length of a text
abbrev pub IsLength : ℕ → List ℕ → Type 0
IsLength n bytes = (bytes ≡ int_bytes (pos n)) × (n ≤ TEXT_LIMIT)

-- no length: it ends too soon, is negative or is too large
abbrev pub StopsLength : Stop → List ℕ → Type 0
StopsLength stop bytes =
    StopsShort 4 stop bytes
    ⊎ ((n : ℤ) × IsInt n bytes × (n <ℤ pos 0) × (stop ≡ Bad bad_length 0))
    ⊎ ((n : ℤ) × IsInt n bytes × (pos TEXT_LIMIT <ℤ n) × (stop ≡ Large 0))

-- a length, and that many bytes
abbrev pub IsString : List ℕ → List ℕ → Type 0
IsString body bytes = (bytes ≡ text_bytes body) × (length body ≤ TEXT_LIMIT)

abbrev pub StopsString : Stop → List ℕ → Type 0
StopsString = StopsThen IsLength StopsLength (λ n. StopsShort n)

-- a text, or the bytes of one that isn't UTF-8
abbrev pub IsText : Option (List ℕ) → List ℕ → Type 0
IsText (Some text) bytes = IsString text bytes × IsUtf8 text
IsText None bytes = (body : List ℕ) × IsString body bytes × (IsUtf8 body → ⊥)

-- ---- types and heads

-- the codes of types: bool, byte, double, i16, i32, i64, text, struct, map, set, list
abbrev pub IsCode : ℕ → Type 0
IsCode ty =
    (ty ≡ bool_code) ⊎ (ty ≡ byte_code) ⊎ (ty ≡ double_code) ⊎ (ty ≡ i16_code) ⊎ (ty ≡ i32_code) ⊎ (ty ≡ i64_code) ⊎ (ty ≡ text_code)
    ⊎ (ty ≡ struct_code) ⊎ (ty ≡ map_code) ⊎ (ty ≡ set_code) ⊎ (ty ≡ list_code)

-- the type of a field, or the end of a struct
abbrev pub IsFieldType : Option ℕ → List ℕ → Type 0
IsFieldType None bytes = bytes ≡ stop_code ∷ []
IsFieldType (Some ty) bytes = (bytes ≡ ty ∷ []) × IsCode ty

-- a field's type is judged before its id
abbrev pub StopsFieldType : Stop → List ℕ → Type 0
StopsFieldType stop bytes = StopsShort 1 stop bytes ⊎ ((ty : ℕ) × (bytes ≡ ty ∷ []) × (ty ≢ stop_code) × (IsCode ty → ⊥) × (stop ≡ Bad bad_type 0))

-- the type and the id of a field, or the end of a struct
abbrev pub IsField : Option (ℕ × ℤ) → List ℕ → Type 0
IsField None bytes = IsFieldType None bytes
IsField (Some field) bytes = IsThen IsFieldType (λ _. IsShort) (Some field.0) field.1 bytes

abbrev pub StopsField : Stop → List ℕ → Type 0
StopsField = StopsThen IsFieldType StopsFieldType (Behind (λ _. StopsShort 2))

-- elements of such a type may follow; where there are none nobody looks at it
abbrev pub IsElementType : ℕ → ℕ → Type 0
IsElementType count ty = (count ≢ 0) → IsCode ty

-- how many elements or pairs
abbrev pub IsCount : ℕ → List ℕ → Type 0
IsCount n bytes = (bytes ≡ int_bytes (pos n)) × (n ≤ COUNT_LIMIT)

-- the head of a list or a set: the type of its elements, and how many they are
abbrev pub IsListHead : ℕ → ℕ → List ℕ → Type 0
IsListHead ty count bytes = (number : List ℕ) × (bytes ≡ ty ∷ number) × IsCount count number × IsElementType count ty

-- no count: it is negative or too large
abbrev pub IsNoCount : Stop → List ℕ → Type 0
IsNoCount stop number =
    ((n : ℤ) × IsInt n number × (n <ℤ pos 0) × (stop ≡ Bad bad_length 0))
    ⊎ ((n : ℤ) × IsInt n number × (pos COUNT_LIMIT <ℤ n) × (stop ≡ Large 0))

-- the count is judged before the type
abbrev pub StopsListHead : Stop → List ℕ → Type 0
StopsListHead stop bytes =
    StopsShort 5 stop bytes
    ⊎ ((ty : ℕ) × (number : List ℕ) × (s : Stop) × (bytes ≡ ty ∷ number) × IsNoCount s number × (stop ≡ moved 1 s))
    ⊎ ((ty count : ℕ) × (number : List ℕ) × (bytes ≡ ty ∷ number) × IsCount count number × (count ≢ 0) × (IsCode ty → ⊥) × (stop ≡ Bad bad_type 0))

-- the head of a map: the type of its keys, that of its values, and how many pairs there are
abbrev pub IsMapHead : ℕ → ℕ → ℕ → List ℕ → Type 0
IsMapHead key value count bytes = (number : List ℕ) × (bytes ≡ key ∷ value ∷ number) × IsCount count number × IsElementType count key × IsElementType count value

abbrev pub StopsMapHead : Stop → List ℕ → Type 0
StopsMapHead stop bytes =
    StopsShort 6 stop bytes
    ⊎ ((key value : ℕ) × (number : List ℕ) × (s : Stop) × (bytes ≡ key ∷ value ∷ number) × IsNoCount s number × (stop ≡ moved 2 s))
    ⊎ ((key value count : ℕ) × (number : List ℕ) × (bytes ≡ key ∷ value ∷ number) × IsCount count number × (count ≢ 0) × (IsCode key → ⊥) × (stop ≡ Bad bad_type 0))
    ⊎ ((key value count : ℕ) × (number : List ℕ) × (bytes ≡ key ∷ value ∷ number) × IsCount count number × (count ≢ 0) × IsCode key × (IsCode value → ⊥) × (stop ≡ Bad bad_type 1))

-- ---- values of any type

-- a number of this type
abbrev pub IsNumber : ℕ → ℤ → List ℕ → Type 0
IsNumber ty n bytes = ((ty ≡ byte_code) × IsByte n bytes) ⊎ ((ty ≡ i16_code) × IsShort n bytes) ⊎ ((ty ≡ i32_code) × IsInt n bytes) ⊎ ((ty ≡ i64_code) × IsLong n bytes)

-- the value is spelled in this type, and at most `depth` structs and collections are open inside one another
abbrev mutual
  pub IsWire : Wire → ℕ → ℕ → List ℕ → Type 0
  IsWire (Flag value) depth ty bytes = (ty ≡ bool_code) × IsFlag value bytes
  IsWire (Number n) depth ty bytes = IsNumber ty n bytes
  IsWire (Eight eight) depth ty bytes = (ty ≡ double_code) × IsBody 8 eight bytes
  IsWire (Bytes body) depth ty bytes = (ty ≡ text_code) × IsString body bytes
  IsWire (Struct v) depth ty bytes = (ty ≡ struct_code) × (under : ℕ) × (depth ≡ suc under) × (front : List ℕ) × (bytes ≡ front ++ stop_code ∷ []) × AreFields v under front
  IsWire (Items of es) depth ty bytes = ((ty ≡ set_code) ⊎ (ty ≡ list_code)) × (under : ℕ) × (depth ≡ suc under) × (head rest : List ℕ) × (bytes ≡ head ++ rest) × IsListHead of (elements_count es) head × AreElements es under of rest
  IsWire (Pairs key value ps) depth ty bytes = (ty ≡ map_code) × (under : ℕ) × (depth ≡ suc under) × (head rest : List ℕ) × (bytes ≡ head ++ rest) × IsMapHead key value (entries_count ps) head × AreEntries ps under key value rest

  -- fields one behind the other
  pub AreFields : Fields → ℕ → List ℕ → Type 0
  AreFields NoFields depth bytes = bytes ≡ []
  AreFields (Field ty id w v) depth bytes = (head value rest : List ℕ) × (bytes ≡ head ++ (value ++ rest)) × IsField (Some (ty, id)) head × IsWire w depth ty value × AreFields v depth rest

  -- elements of one type
  pub AreElements : Elements → ℕ → ℕ → List ℕ → Type 0
  AreElements NoElements depth ty bytes = bytes ≡ []
  AreElements (Element w es) depth ty bytes = (front rest : List ℕ) × (bytes ≡ front ++ rest) × IsWire w depth ty front × AreElements es depth ty rest

  -- pairs with keys of one type and values of another
  pub AreEntries : Entries → ℕ → ℕ → ℕ → List ℕ → Type 0
  AreEntries NoEntries depth key value bytes = bytes ≡ []
  AreEntries (Entry k w ps) depth key value bytes = (first second rest : List ℕ) × (bytes ≡ first ++ (second ++ rest)) × IsWire k depth key first × IsWire w depth value second × AreEntries ps depth key value rest

-- fields, and the end of their struct
abbrev pub IsStruct : ℕ → Fields → List ℕ → Type 0
IsStruct depth v bytes = (front : List ℕ) × (bytes ≡ front ++ stop_code ∷ []) × AreFields v depth front

-- how many bytes a value of a plain type has
abbrev pub IsWidth : ℕ → ℕ → Type 0
IsWidth ty n = ((ty ≡ bool_code) × (n ≡ 1)) ⊎ ((ty ≡ byte_code) × (n ≡ 1)) ⊎ ((ty ≡ double_code) × (n ≡ 8)) ⊎ ((ty ≡ i16_code) × (n ≡ 2)) ⊎ ((ty ≡ i32_code) × (n ≡ 4)) ⊎ ((ty ≡ i64_code) × (n ≡ 8))

abbrev pub StopsPlain : ℕ → Stop → List ℕ → Type 0
StopsPlain ty stop bytes = ((n : ℕ) × IsWidth ty n × StopsShort n stop bytes) ⊎ ((ty ≡ text_code) × StopsString stop bytes)

-- Stops, in what follows, says where a value of a type stops one deeper.

-- behind some whole fields, in the next one's head or in its value
abbrev pub StopsFieldsBy : (ℕ → Stop → List ℕ → Type 0) → ℕ → Stop → List ℕ → Type 0
StopsFieldsBy Stops depth stop bytes =
    (v : Fields) × (front rest : List ℕ) × (s : Stop) × (bytes ≡ front ++ rest) × AreFields v depth front × (stop ≡ moved (length front) s)
    × StopsThen IsField StopsField (Behind (λ field. Stops field.0)) s rest

-- behind fewer elements than were counted, in the next one
abbrev pub StopsElementsBy : (ℕ → Stop → List ℕ → Type 0) → ℕ → ℕ → ℕ → Stop → List ℕ → Type 0
StopsElementsBy Stops depth ty count stop bytes =
    (es : Elements) × (front rest : List ℕ) × (s : Stop) × (bytes ≡ front ++ rest) × AreElements es depth ty front × (elements_count es < count) × (stop ≡ moved (length front) s) × Stops ty s rest

-- behind fewer pairs than were counted, in the next one's key or value
abbrev pub StopsEntriesBy : (ℕ → Stop → List ℕ → Type 0) → ℕ → ℕ → ℕ → ℕ → Stop → List ℕ → Type 0
StopsEntriesBy Stops depth key value count stop bytes =
    (ps : Entries) × (front rest : List ℕ) × (s : Stop) × (bytes ≡ front ++ rest) × AreEntries ps depth key value front × (entries_count ps < count) × (stop ≡ moved (length front) s)
    × StopsThen (λ (w : Wire). IsWire w depth key) (Stops key) (λ _. Stops value) s rest

abbrev pub StopsListBy : (ℕ → Stop → List ℕ → Type 0) → ℕ → Stop → List ℕ → Type 0
StopsListBy Stops depth = StopsThen {A = ℕ × ℕ} (λ head. IsListHead head.0 head.1) StopsListHead (λ head. StopsElementsBy Stops depth head.0 head.1)

abbrev pub StopsMapBy : (ℕ → Stop → List ℕ → Type 0) → ℕ → Stop → List ℕ → Type 0
StopsMapBy Stops depth = StopsThen {A = ℕ × ℕ × ℕ} (λ head. IsMapHead head.0 head.1 head.2) StopsMapHead (λ head. StopsEntriesBy Stops depth head.0 head.1 head.2)

-- a struct or a collection
abbrev pub IsNested : ℕ → Type 0
IsNested ty = (ty ≡ struct_code) ⊎ (ty ≡ map_code) ⊎ (ty ≡ set_code) ⊎ (ty ≡ list_code)

-- where a value of this type stops, with at most so many structs and collections open; one that is too deep is judged before its first byte
abbrev pub StopsWire : ℕ → ℕ → Stop → List ℕ → Type 0
StopsWire zero ty stop bytes = StopsPlain ty stop bytes ⊎ (IsNested ty × (bytes ≡ []) × (stop ≡ Large 0))
StopsWire (suc under) ty stop bytes =
    StopsPlain ty stop bytes
    ⊎ ((ty ≡ struct_code) × StopsFieldsBy (StopsWire under) under stop bytes)
    ⊎ (((ty ≡ set_code) ⊎ (ty ≡ list_code)) × StopsListBy (StopsWire under) under stop bytes)
    ⊎ ((ty ≡ map_code) × StopsMapBy (StopsWire under) under stop bytes)

-- the same by names: the fields of a struct, the elements of a collection, the pairs of a map
abbrev pub StopsFields : ℕ → Stop → List ℕ → Type 0
StopsFields depth = StopsFieldsBy (StopsWire depth) depth

abbrev pub StopsElements : ℕ → ℕ → ℕ → Stop → List ℕ → Type 0
StopsElements depth = StopsElementsBy (StopsWire depth) depth

abbrev pub StopsEntries : ℕ → ℕ → ℕ → ℕ → Stop → List ℕ → Type 0
StopsEntries depth = StopsEntriesBy (StopsWire depth) depth
