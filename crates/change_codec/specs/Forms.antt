-- How values are spelled in bytes, and read off the front of bytes.
use Rattle.std.specs.Prelude.{◌≡◌, ◌==◌, ℕ, ℤ, zero, suc, ◌-◌, ◌*◌, ◌^◌, ◌<◌, ◌≤◌, nat_lt, Bool, true, false, List, [], ◌∷◌, ◌++◌, length, take, drop, Option, None, Some, IfSome, Result, Ok, Err, FitsSigned, if◌then◌else◌}
use Rattle.std.specs.Int.{Width, byte_len, w32, to_be_bytes, from_be_bytes, cast_signed, cast_unsigned}
use Rattle.std.specs.List.{flat_map, AllByRecursion}
use Rattle.std.specs.List.Sorted.{IsStrictlySortedBy}
use Rattle.std.specs.Map.{keys_of}
use Rattle.std.specs.Ordering.{is_lt}
use Rattle.std.specs.Str.{IsUtf8, is_utf8}
use Rattle.std.specs.declared.cmp.Ordering.{Ordering}
use Rattle.cat_values.specs.declared.list_of.TheConstants.{LIST_END}
use Rattle.cat_values.specs.declared.text.TheConstants.{TEXT_LIMIT}

-- what reading gives: a value and the bytes behind it; or how many bytes are left from the place on at which no spelling goes on
abbrev pub Reading : Type 0 → Type 0
Reading T = Result (T × List ℕ) ℕ

infixl 10 ◌>>=◌
abbrev pub ◌>>=◌ : {A B : Type 0} → Reading A → (A × List ℕ → Reading B) → Reading B
(Ok x) >>= next = next x
(Err left) >>= next = Err left

-- a form: which values it has spellings for, the one spelling of each, and how a value is read
pub record Form (T : Type 0) : Type 1 where
  pub HasCode : T → Type 0
  pub code : T → List ℕ
  pub read : List ℕ → Reading T

-- so many bytes, whatever they are; where there are fewer, the bytes end too soon
abbrev pub front_read : ℕ → List ℕ → Reading (List ℕ)
front_read count bytes = if nat_lt (length bytes) count then Err 0 else Ok (take count bytes, drop count bytes)

abbrev pub bytes_of : ℕ → Form (List ℕ)
bytes_of count = record {
  HasCode = λ bytes. length bytes ≡ count;
  code = λ bytes. bytes;
  read = front_read count;
}

-- a number without a sign, its highest byte first
unfoldable pub number_read : Width → List ℕ → Reading ℕ
number_read w bytes = do
  front ← front_read (byte_len w) bytes
  Ok (from_be_bytes w front.0, front.1)

abbrev pub number : Width → Form ℕ
number w = record {
  HasCode = λ n. n < 2 ^ (8 * byte_len w);
  code = to_be_bytes w;
  read = number_read w;
}

-- a number with a sign, in two's complement
unfoldable pub signed_read : Width → List ℕ → Reading ℤ
signed_read w bytes = do
  n ← number_read w bytes
  Ok (cast_signed w n.0, n.1)

abbrev pub signed : Width → Form ℤ
signed w = record {
  HasCode = FitsSigned w;
  code = λ n. to_be_bytes w (cast_unsigned w n);
  read = signed_read w;
}

-- a flag is one byte, 0 or 1
abbrev pub flag_code : Bool → List ℕ
flag_code false = 0 ∷ []
flag_code true = 1 ∷ []

unfoldable pub flag_read : List ℕ → Reading Bool
flag_read [] = Err 0
flag_read (zero ∷ rest) = Ok (false, rest)
flag_read (suc zero ∷ rest) = Ok (true, rest)
flag_read (suc (suc n) ∷ rest) = Err (length (0 ∷ rest))

abbrev pub flag : Form Bool
flag = record {
  HasCode = λ _. Unit {0};
  code = flag_code;
  read = flag_read;
}

-- a length or a count: a number of four bytes up to a last one that can stand there
unfoldable pub count_read : ℕ → List ℕ → Reading ℕ
count_read last bytes = do
  n ← number_read w32 bytes
  if nat_lt last n.0 then Err (length bytes) else Ok n

-- a text is its length and so many bytes of UTF-8
unfoldable pub text_read : List ℕ → Reading (List ℕ)
text_read bytes = do
  count ← count_read TEXT_LIMIT bytes
  front ← front_read count.0 count.1
  if is_utf8 front.0 then Ok front else Err (length bytes)

abbrev pub text : Form (List ℕ)
text = record {
  HasCode = λ t. IsUtf8 t × (length t ≤ TEXT_LIMIT);
  code = λ t. to_be_bytes w32 (length t) ++ t;
  read = text_read;
}

-- a value behind another
unfoldable pub then_read : {A B : Type 0} → (List ℕ → Reading A) → (List ℕ → Reading B) → List ℕ → Reading (A × B)
then_read first second bytes = do
  a ← first bytes
  b ← second a.1
  Ok ((a.0, b.0), b.1)

infixr 20 ◌⊗◌
abbrev pub ◌⊗◌ : {A B : Type 0} → Form A → Form B → Form (A × B)
first ⊗ second = record {
  HasCode = λ p. first.HasCode p.0 × second.HasCode p.1;
  code = λ p. first.code p.0 ++ second.code p.1;
  read = then_read first.read second.read;
}

-- a value that is made of parts, as a record of its fields
unfoldable pub made_read : {A B : Type 0} → (A → B) → (List ℕ → Reading A) → List ℕ → Reading B
made_read make parts bytes = do
  p ← parts bytes
  Ok (make p.0, p.1)

abbrev pub made : {A B : Type 0} → (A → B) → (B → A) → Form A → Form B
made make parts form = record {
  HasCode = λ x. form.HasCode (parts x);
  code = λ x. form.code (parts x);
  read = made_read make form.read;
}

-- three and four values, one behind the other
unfoldable pub three_read : {A B C : Type 0} → (List ℕ → Reading A) → (List ℕ → Reading B) → (List ℕ → Reading C) → List ℕ → Reading (A × B × C)
three_read first second third bytes = do
  a ← first bytes
  b ← second a.1
  c ← third b.1
  Ok ((a.0, b.0, c.0), c.1)

abbrev pub three : {A B C : Type 0} → Form A → Form B → Form C → Form (A × B × C)
three a b c = record {
  HasCode = λ p. a.HasCode p.0 × b.HasCode p.1 × c.HasCode p.2;
  code = λ p. a.code p.0 ++ b.code p.1 ++ c.code p.2;
  read = three_read a.read b.read c.read;
}

unfoldable pub four_read : {A B C D : Type 0} → (List ℕ → Reading A) → (List ℕ → Reading B) → (List ℕ → Reading C) → (List ℕ → Reading D) → List ℕ → Reading (A × B × C × D)
four_read first second third fourth bytes = do
  a ← first bytes
  b ← second a.1
  c ← third b.1
  d ← fourth c.1
  Ok ((a.0, b.0, c.0, d.0), d.1)

abbrev pub four : {A B C D : Type 0} → Form A → Form B → Form C → Form D → Form (A × B × C × D)
four a b c d = record {
  HasCode = λ p. a.HasCode p.0 × b.HasCode p.1 × c.HasCode p.2 × d.HasCode p.3;
  code = λ p. a.code p.0 ++ b.code p.1 ++ c.code p.2 ++ d.code p.3;
  read = four_read a.read b.read c.read d.read;
}

-- an option is 0, or 1 and the value
abbrev pub option_code : {T : Type 0} → (T → List ℕ) → Option T → List ℕ
option_code code None = 0 ∷ []
option_code code (Some value) = 1 ∷ code value

unfoldable pub option_read : {T : Type 0} → (List ℕ → Reading T) → List ℕ → Reading (Option T)
option_read read [] = Err 0
option_read read (zero ∷ rest) = Ok (None, rest)
option_read read (suc zero ∷ rest) = do
  value ← read rest
  Ok (Some value.0, value.1)
option_read read (suc (suc n) ∷ rest) = Err (length (0 ∷ rest))

abbrev pub optional : {T : Type 0} → Form T → Form (Option T)
optional form = record {
  HasCode = λ o. IfSome o form.HasCode;
  code = option_code form.code;
  read = option_read form.read;
}

-- so many values, one behind the other
unfoldable pub values_read : {T : Type 0} → (List ℕ → Reading T) → ℕ → List ℕ → Reading (List T)
values_read read zero bytes = Ok ([], bytes)
values_read read (suc count) bytes = do
  value ← read bytes
  others ← values_read read count value.1
  Ok (value.0 ∷ others.0, others.1)

-- a list is its count and its values
unfoldable pub list_read : {T : Type 0} → (List ℕ → Reading T) → List ℕ → Reading (List T)
list_read read bytes = do
  count ← count_read (LIST_END - 1) bytes
  values_read read count.0 count.1

abbrev pub list_code : {T : Type 0} → (T → List ℕ) → List T → List ℕ
list_code code values = to_be_bytes w32 (length values) ++ flat_map code values

abbrev pub list_of : {T : Type 0} → Form T → Form (List T)
list_of form = record {
  HasCode = λ values. (length values < LIST_END) × AllByRecursion form.HasCode values;
  code = list_code form.code;
  read = list_read form.read;
}

-- the last key of pairs
abbrev pub last_key : {K V : Type 0} → List (K × V) → Option K
last_key [] = None
last_key (pair ∷ []) = Some pair.0
last_key (pair ∷ next ∷ pairs) = last_key (next ∷ pairs)

-- whether a key is above the one before it
abbrev pub rises : {K : Type 0} → (K → K → Ordering) → Option K → K → Bool
rises cmp None key = true
rises cmp (Some before) key = is_lt (cmp before key)

-- a key above the one before it
unfoldable pub rising_read : {K : Type 0} → (K → K → Ordering) → (List ℕ → Reading K) → Option K → List ℕ → Reading K
rising_read cmp key_read before bytes = do
  key ← key_read bytes
  if rises cmp before key.0 then Ok key else Err (length bytes)

-- so many pairs whose keys rise, also above the key before them
unfoldable pub pairs_read : {K V : Type 0} → (K → K → Ordering) → (List ℕ → Reading K) → (List ℕ → Reading V) → ℕ → Option K → List ℕ → Reading (List (K × V))
pairs_read cmp key_read value_read zero before bytes = Ok ([], bytes)
pairs_read cmp key_read value_read (suc count) before bytes = do
  key ← rising_read cmp key_read before bytes
  value ← value_read key.1
  others ← pairs_read cmp key_read value_read count (Some key.0) value.1
  Ok ((key.0, value.0) ∷ others.0, others.1)

-- a map is its count and its pairs, with strictly rising keys
unfoldable pub map_read : {K V : Type 0} → (K → K → Ordering) → (List ℕ → Reading K) → (List ℕ → Reading V) → List ℕ → Reading (List (K × V))
map_read cmp key_read value_read bytes = do
  count ← count_read (LIST_END - 1) bytes
  pairs_read cmp key_read value_read count.0 None count.1

abbrev pub map_of : {K V : Type 0} → (K → K → Ordering) → Form K → Form V → Form (List (K × V))
map_of cmp key value = record {
  HasCode = λ pairs. (length pairs < LIST_END) × IsStrictlySortedBy cmp (keys_of pairs) × AllByRecursion (key ⊗ value).HasCode pairs;
  code = list_code (key ⊗ value).code;
  read = map_read cmp key.read value.read;
}

-- tags, each with how the value behind it is read
abbrev pub Tags : Type 0 → Type 0
Tags T = List (ℕ × (List ℕ → Reading T))

abbrev pub behind_tag : {T : Type 0} → Tags T → ℕ → List ℕ → Reading T
behind_tag [] tag rest = Err (length (tag ∷ rest))
behind_tag (known ∷ tags) tag rest = if tag == known.0 then known.1 rest else behind_tag tags tag rest

-- a tag, and the value behind it
unfoldable pub tagged_read : {T : Type 0} → Tags T → List ℕ → Reading T
tagged_read tags [] = Err 0
tagged_read tags (tag ∷ rest) = behind_tag tags tag rest

-- a value whose tag says all
abbrev pub alone : {T : Type 0} → T → List ℕ → Reading T
alone value rest = Ok (value, rest)
