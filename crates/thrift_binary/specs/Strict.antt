-- The one strict spelling, which writing uses.
use Rattle.std.specs.Prelude.{◌==◌, ℕ, Bool, true, false, List, [], ◌∷◌, ◌++◌, ℤ, pos, if◌then◌else◌}
use Rattle.thrift_binary.specs.declared.head.Head.{Head}
use Rattle.thrift_binary.specs.Codes.{byte_code, i16_code, i32_code, stop_code, struct_code}
use Rattle.thrift_binary.specs.Tree.{Wire, Flag, Number, Eight, Bytes, Struct, Items, Pairs, Fields, NoFields, Field, Elements, NoElements, Element, Entries, NoEntries, Entry, elements_count, entries_count}
use Rattle.thrift_binary.specs.Wire.{byte_bytes, short_bytes, int_bytes, long_bytes, text_bytes}

-- a bool: 1 is true and 0 is false
abbrev pub flag_bytes : Bool → List ℕ
flag_bytes true = 1 ∷ []
flag_bytes false = 0 ∷ []

-- a field: the code of its type, and its id
abbrev pub field_bytes : ℕ → ℤ → List ℕ
field_bytes ty id = ty ∷ short_bytes id

-- the head of a list or a set, and that of a map
abbrev pub list_bytes : ℕ → ℕ → List ℕ
list_bytes ty count = ty ∷ int_bytes (pos count)

abbrev pub map_bytes : ℕ → ℕ → ℕ → List ℕ
map_bytes key value count = key ∷ value ∷ int_bytes (pos count)

-- the strict head of a message: the version, a byte that nobody looks at, the kind, the name and the sequence id
abbrev pub head_bytes : Head → List ℕ
head_bytes head = (128 ∷ 1 ∷ 0 ∷ head.kind ∷ []) ++ (text_bytes head.name ++ int_bytes head.sequence)

-- a number of this type
abbrev pub number_bytes : ℕ → ℤ → List ℕ
number_bytes ty n = if ty == byte_code then byte_bytes n else (if ty == i16_code then short_bytes n else (if ty == i32_code then int_bytes n else long_bytes n))

-- a value of this type
abbrev mutual
  pub wire_bytes : ℕ → Wire → List ℕ
  wire_bytes ty (Flag value) = flag_bytes value
  wire_bytes ty (Number n) = number_bytes ty n
  wire_bytes ty (Eight eight) = eight
  wire_bytes ty (Bytes body) = text_bytes body
  wire_bytes ty (Struct v) = fields_bytes v ++ stop_code ∷ []
  wire_bytes ty (Items of es) = list_bytes of (elements_count es) ++ elements_bytes of es
  wire_bytes ty (Pairs key value ps) = map_bytes key value (entries_count ps) ++ entries_bytes key value ps

  pub fields_bytes : Fields → List ℕ
  fields_bytes NoFields = []
  fields_bytes (Field ty id w v) = field_bytes ty id ++ (wire_bytes ty w ++ fields_bytes v)

  pub elements_bytes : ℕ → Elements → List ℕ
  elements_bytes ty NoElements = []
  elements_bytes ty (Element w es) = wire_bytes ty w ++ elements_bytes ty es

  pub entries_bytes : ℕ → ℕ → Entries → List ℕ
  entries_bytes key value NoEntries = []
  entries_bytes key value (Entry k w ps) = wire_bytes key k ++ (wire_bytes value w ++ entries_bytes key value ps)

-- a whole message: its head and its struct
abbrev pub message_bytes : Head → Fields → List ℕ
message_bytes head v = head_bytes head ++ wire_bytes struct_code (Struct v)
