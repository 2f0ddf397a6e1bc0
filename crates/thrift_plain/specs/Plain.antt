-- What the plain decoder gives: each message with the pieces of its argument struct one behind the other.
use Rattle.std.specs.Prelude.{◌≡◌, ◌==◌, ℕ, List, [], ◌∷◌, ◌++◌, map, ℤ, if◌then◌else◌}
use Rattle.thrift_binary.specs.Codes.{byte_code, i16_code, i32_code, struct_code}
use Rattle.thrift_binary.specs.Tree.{Wire, Flag, Number, Eight, Bytes, Struct, Items, Pairs, Fields, NoFields, Field, Elements, NoElements, Element, Entries, NoEntries, Entry, elements_count, entries_count}
use Rattle.thrift_binary.specs.Messages.{Message, Ending, Boundary, Truncated, Bad_at, Large_at, Spells}
use Rattle.thrift_plain.specs.declared.plain_messages.PlainEnd.{PlainEnd}
use Rattle.thrift_plain.specs.declared.plain_messages.PlainEnd.TheVariants as end
use Rattle.thrift_plain.specs.declared.plain_messages.PlainMessage.{PlainMessage}
use Rattle.thrift_plain.specs.declared.plain_messages.Token.{Token}
use Rattle.thrift_plain.specs.declared.plain_messages.Token.TheVariants as token

-- a number, by its type
abbrev pub number_token : ℕ → ℤ → Token
number_token ty n = if ty == byte_code then token.Byte n else (if ty == i16_code then token.Short n else (if ty == i32_code then token.Int n else token.Long n))

-- the pieces of a value of this type
abbrev mutual
  pub wire_tokens : ℕ → Wire → List Token
  wire_tokens ty (Flag value) = token.Flag value ∷ []
  wire_tokens ty (Number n) = number_token ty n ∷ []
  wire_tokens ty (Eight eight) = token.Eight eight ∷ []
  wire_tokens ty (Bytes body) = token.Text body ∷ []
  wire_tokens ty (Struct v) = fields_tokens v ++ token.Stop ∷ []
  wire_tokens ty (Items of es) = token.List of (elements_count es) ∷ elements_tokens of es
  wire_tokens ty (Pairs key value ps) = token.Map key value (entries_count ps) ∷ entries_tokens key value ps

  pub fields_tokens : Fields → List Token
  fields_tokens NoFields = []
  fields_tokens (Field ty id w v) = token.Field ty id ∷ (wire_tokens ty w ++ fields_tokens v)

  pub elements_tokens : ℕ → Elements → List Token
  elements_tokens ty NoElements = []
  elements_tokens ty (Element w es) = wire_tokens ty w ++ elements_tokens ty es

  pub entries_tokens : ℕ → ℕ → Entries → List Token
  entries_tokens key value NoEntries = []
  entries_tokens key value (Entry k w ps) = wire_tokens key k ++ (wire_tokens value w ++ entries_tokens key value ps)

-- a message with its argument struct in pieces
abbrev pub flat : Message → PlainMessage
flat m = record { strict = m.strict; head = m.head; arguments = wire_tokens struct_code (Struct m.arguments) }

-- an end, as the relation has it
abbrev pub ending_of : PlainEnd → Ending
ending_of end.Boundary = Boundary
ending_of (end.Truncated at) = Truncated at
ending_of (end.BadWire code at) = Bad_at code at
ending_of (end.TooLarge at) = Large_at at

-- the text spells some messages; these are their pieces, and this is its end
abbrev pub Decodes : List ℕ → List PlainMessage → PlainEnd → Type 0
Decodes text given end = (messages : List Message) × Spells text messages (ending_of end) × (given ≡ map flat messages)
