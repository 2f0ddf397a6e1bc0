-- How the plain decoder's own functions answer over the bytes that are left.
use Rattle.std.specs.Prelude.{◌≡◌, ℕ, ◌+◌, ◌<◌, ◌≤◌, ◌⊎◌, ⊤, List, [], ◌∷◌, ◌++◌, length, Result, Ok, Err}
use Rattle.thrift_binary.specs.Taking.{Stop, Cut, Bad, Large, room_at}
use Rattle.thrift_binary.specs.Tree.{Wire, Items, Pairs, Fields, Elements, Entries, elements_count, entries_count}
use Rattle.thrift_binary.specs.Wire.{IsThen, StopsShort, IsNoCount, IsListHead, IsMapHead, IsWire, IsStruct, AreElements, AreEntries, StopsListBy, StopsMapBy, StopsWire}
use Rattle.thrift_binary.specs.Messages.{Opening, Strict, Old, Message, IsMessage, Asks, Ends}
use Rattle.thrift_plain.specs.Plain.{wire_tokens, fields_tokens, elements_tokens, entries_tokens, flat, ending_of}
use Rattle.thrift_plain.specs.declared.plain_messages.Token.{Token}
use Rattle.thrift_plain.specs.declared.plain_messages.Token.TheVariants as token
use Rattle.thrift_plain.specs.declared.plain_heads.Opening as first
use Rattle.thrift_plain.specs.declared.plain_heads.Opening.TheVariants as opening
use Rattle.thrift_plain.specs.declared.plain_texts.Next as next
use Rattle.thrift_plain.specs.declared.plain_texts.Next.TheVariants as turn
use Rattle.thrift_plain.specs.declared.plain_reader.Halt.{Halt}
use Rattle.thrift_plain.specs.declared.plain_reader.Halt.TheVariants as told

-- A stop in some bytes, as the decoder tells it: where something can't stand it tells how many bytes are left from there on.
abbrev pub Told : ℕ → List ℕ → Stop → Halt → Type 0
Told size more Cut halt = (halt ≡ told.Cut) × (more ≡ [])
Told size more (Bad code place) halt = (left : ℕ) × (halt ≡ told.Bad code left) × (left + place ≡ size)
Told size more (Large place) halt = (left : ℕ) × (halt ≡ told.Large left) × (left + place ≡ size)

-- the front of the bytes stops to spell a value, and so the decoder tells it
pub record Halted (old : List ℕ) (halt : Halt) (Stopped : Stop → List ℕ → Type 0) : Type 0 where
  pub front : List ℕ
  pub more : List ℕ
  pub stop : Stop
  pub parts : old ≡ front ++ more
  pub holds : Stopped stop front
  pub tells : Told (length old) more stop halt

-- the bytes begin with some that have this property, and the others are left
pub record Passed (old new : List ℕ) (P : List ℕ → Type 0) : Type 0 where
  pub bytes : List ℕ
  pub parts : old ≡ bytes ++ new
  pub holds : P bytes

-- the bytes begin with a spelling of the value, and the others are left; or their front stops to be one; or memory was wanting
abbrev pub Takes : {T : Type 0} → List ℕ → List ℕ → Result T Halt → (T → List ℕ → Type 0) → (Stop → List ℕ → Type 0) → Type 0
Takes old new (Ok value) Spelled Stopped = Passed old new (Spelled value)
Takes old new (Err halt) Spelled Stopped = Halted old halt Stopped ⊎ (halt ≡ told.NoMemory)

-- what the first word of a message tells
abbrev pub opening_of : first.Opening → Opening
opening_of (opening.Strict kind) = Strict kind
opening_of (opening.Old n) = Old n

-- no count: it ends too soon, is negative or is too large
abbrev pub StopsCount : Stop → List ℕ → Type 0
StopsCount stop bytes = StopsShort 4 stop bytes ⊎ IsNoCount stop bytes

-- a value that holds no other, as its one piece
abbrev pub IsPlain : ℕ → Token → List ℕ → Type 0
IsPlain ty piece bytes = (w : Wire) × ((depth : ℕ) → IsWire w depth ty bytes) × (wire_tokens ty w ≡ piece ∷ [])

-- A value was taken, and its pieces were added.
abbrev pub ValueAdded : List Token → List Token → ℕ → ℕ → List ℕ → Type 0
ValueAdded old new depth ty bytes = (w : Wire) × IsWire w depth ty bytes × (new ≡ old ++ wire_tokens ty w)

abbrev pub StructAdded : List Token → List Token → ℕ → List ℕ → Type 0
StructAdded old new depth bytes = (v : Fields) × IsStruct depth v bytes × (new ≡ old ++ (fields_tokens v ++ token.Stop ∷ []))

abbrev pub ElementsAdded : List Token → List Token → ℕ → ℕ → ℕ → List ℕ → Type 0
ElementsAdded old new depth ty count bytes = (es : Elements) × AreElements es depth ty bytes × (elements_count es ≡ count) × (new ≡ old ++ elements_tokens ty es)

abbrev pub ListAdded : List Token → List Token → ℕ → List ℕ → Type 0
ListAdded old new depth bytes = (of : ℕ) × (es : Elements) × IsThen (λ (count : ℕ). IsListHead of count) (λ _ (_ : ⊤). AreElements es depth of) (elements_count es) tt bytes × (new ≡ old ++ wire_tokens 15 (Items of es))

abbrev pub EntriesAdded : List Token → List Token → ℕ → ℕ → ℕ → ℕ → List ℕ → Type 0
EntriesAdded old new depth key value count bytes = (ps : Entries) × AreEntries ps depth key value bytes × (entries_count ps ≡ count) × (new ≡ old ++ entries_tokens key value ps)

abbrev pub MapAdded : List Token → List Token → ℕ → List ℕ → Type 0
MapAdded old new depth bytes = (key value : ℕ) × (ps : Entries) × IsThen (λ (count : ℕ). IsMapHead key value count) (λ _ (_ : ⊤). AreEntries ps depth key value) (entries_count ps) tt bytes × (new ≡ old ++ wire_tokens 13 (Pairs key value ps))

abbrev pub StopsList : ℕ → Stop → List ℕ → Type 0
StopsList depth = StopsListBy (StopsWire depth) depth

abbrev pub StopsMap : ℕ → Stop → List ℕ → Type 0
StopsMap depth = StopsMapBy (StopsWire depth) depth

-- what stands at the front of a text's rest, which begins at this place
abbrev pub Goes : ℕ → List ℕ → next.Next → Type 0
Goes start rest (turn.Message m size) = (t : Message) × (front more : List ℕ) × (m ≡ flat t) × (rest ≡ front ++ more) × (size ≡ length front) × (0 < size) × IsMessage Asks t front × (size ≤ room_at start)
Goes start rest (turn.End end) = Ends Asks start rest (ending_of end)
