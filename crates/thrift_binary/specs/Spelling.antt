-- Which values the wire takes, and that the strict spelling of each of them is read back.
use Rattle.std.specs.Prelude.{◌≡◌, ◌≤◌, ◌⊎◌, ⊤, ℕ, suc, true, [], ◌∷◌, length, ℤ, FitsSigned}
use Rattle.std.specs.Str.{IsUtf8}
use Rattle.std.specs.Int.{w8, w16, w32, w64}
use Rattle.cat_values.specs.declared.text.TheConstants.{TEXT_LIMIT}
use Rattle.thrift_binary.specs.declared.head.Head.{Head}
use Rattle.thrift_binary.specs.declared.limits.TheConstants.{COUNT_LIMIT, DEPTH_LIMIT, MESSAGE_LIMIT}
use Rattle.thrift_binary.specs.Codes.{bool_code, byte_code, double_code, i16_code, i32_code, i64_code, list_code, map_code, set_code, struct_code, text_code}
use Rattle.thrift_binary.specs.Tree.{Wire, Flag, Number, Eight, Bytes, Struct, Items, Pairs, Fields, NoFields, Field, Elements, NoElements, Element, Entries, NoEntries, Entry, elements_count, entries_count}
use Rattle.thrift_binary.specs.Wire.{IsCode, IsElementType, IsWire}
use Rattle.thrift_binary.specs.Messages.{Boundary, SpellsFrom}
use Rattle.thrift_binary.specs.Strict.{wire_bytes, message_bytes}

-- a number has room in the bytes of its type
abbrev pub NumberWithin : ℕ → ℤ → Type 0
NumberWithin ty n = ((ty ≡ byte_code) × FitsSigned w8 n) ⊎ ((ty ≡ i16_code) × FitsSigned w16 n) ⊎ ((ty ≡ i32_code) × FitsSigned w32 n) ⊎ ((ty ≡ i64_code) × FitsSigned w64 n)

-- the value is of this type, within the limits of texts and counts, and at most `depth` structs and collections are open inside one another
abbrev mutual
  pub Within : Wire → ℕ → ℕ → Type 0
  Within (Flag value) depth ty = ty ≡ bool_code
  Within (Number n) depth ty = NumberWithin ty n
  Within (Eight eight) depth ty = (ty ≡ double_code) × (length eight ≡ 8)
  Within (Bytes body) depth ty = (ty ≡ text_code) × (length body ≤ TEXT_LIMIT)
  Within (Struct v) depth ty = (ty ≡ struct_code) × (under : ℕ) × (depth ≡ suc under) × FieldsWithin v under
  Within (Items of es) depth ty = ((ty ≡ set_code) ⊎ (ty ≡ list_code)) × (under : ℕ) × (depth ≡ suc under) × (elements_count es ≤ COUNT_LIMIT) × IsElementType (elements_count es) of × ElementsWithin es under of
  Within (Pairs key value ps) depth ty = (ty ≡ map_code) × (under : ℕ) × (depth ≡ suc under) × (entries_count ps ≤ COUNT_LIMIT) × IsElementType (entries_count ps) key × IsElementType (entries_count ps) value × EntriesWithin ps under key value

  -- each field has the code of a type, an id of two bytes and a value of its type
  pub FieldsWithin : Fields → ℕ → Type 0
  FieldsWithin NoFields depth = ⊤
  FieldsWithin (Field ty id w v) depth = IsCode ty × FitsSigned w16 id × Within w depth ty × FieldsWithin v depth

  -- all elements are of one type
  pub ElementsWithin : Elements → ℕ → ℕ → Type 0
  ElementsWithin NoElements depth ty = ⊤
  ElementsWithin (Element w es) depth ty = Within w depth ty × ElementsWithin es depth ty

  -- all keys are of one type, and all values of another
  pub EntriesWithin : Entries → ℕ → ℕ → ℕ → Type 0
  EntriesWithin NoEntries depth key value = ⊤
  EntriesWithin (Entry k w ps) depth key value = Within k depth key × Within w depth value × EntriesWithin ps depth key value

-- the head of a message that may be sent: its kind is one of these, its name is a text, its sequence id has four bytes
pub record HeadWithin (Kinds : ℕ → Type 0) (head : Head) : Type 0 where
  pub kind : Kinds head.kind
  pub utf8 : IsUtf8 head.name
  pub name : length head.name ≤ TEXT_LIMIT
  pub sequence : FitsSigned w32 head.sequence

-- the strict spelling of a value is one of its spellings
abbrev pub ValuesAreSpelled : Type 0
ValuesAreSpelled = (w : Wire) (depth ty : ℕ) → Within w depth ty → IsWire w depth ty (wire_bytes ty w)

-- where a message of such a kind is within the limits, its strict spelling is the text of a session that has this message alone
abbrev pub MessagesAreSpelled : (ℕ → Type 0) → Type 0
MessagesAreSpelled Kinds = (head : Head) (arguments : Fields) → HeadWithin Kinds head → Within (Struct arguments) DEPTH_LIMIT struct_code
    → length (message_bytes head arguments) ≤ MESSAGE_LIMIT
    → SpellsFrom Kinds 0 (message_bytes head arguments) (record { strict = true; head = head; arguments = arguments } ∷ []) Boundary
