-- The text of a session: messages one behind the other, and how it ends. Places count from the session's first byte.
use Rattle.std.specs.Prelude.{◌≡◌, ◌≢◌, ℕ, ◌+◌, ◌≤◌, ◌⊎◌, Bool, true, false, List, [], ◌∷◌, ◌++◌, length, Some, None, ℤ, pos, ◌<ℤ◌}
use Rattle.std.specs.Str.{IsUtf8}
use Rattle.cat_values.specs.declared.text.TheConstants.{TEXT_LIMIT}
use Rattle.thrift_binary.specs.declared.head.Direction.{Direction}
use Rattle.thrift_binary.specs.declared.head.Direction.TheVariants as going
use Rattle.thrift_binary.specs.declared.head.Head.{Head}
use Rattle.thrift_binary.specs.declared.limits.TheConstants.{DEPTH_LIMIT}
use Rattle.thrift_binary.specs.Codes.{bad_kind, bad_name, bad_version, call_kind, exception_kind, oneway_kind, reply_kind, struct_code}
use Rattle.thrift_binary.specs.Taking.{Stop, Cut, Bad, Large, room_at}
use Rattle.thrift_binary.specs.Tree.{Fields, Struct}
use Rattle.thrift_binary.specs.Wire.{IsThen, StopsThen, StopsShort, IsInt, IsLength, IsBody, IsText, StopsString, IsWire, StopsWire}

-- the kinds of messages that ask: a call, and one that wants no reply; and of those that answer: a reply, and an exception
abbrev pub Asks : ℕ → Type 0
Asks kind = (kind ≡ call_kind) ⊎ (kind ≡ oneway_kind)

abbrev pub Replies : ℕ → Type 0
Replies kind = (kind ≡ reply_kind) ⊎ (kind ≡ exception_kind)

-- the kinds of messages that go in this direction
abbrev pub KindsOf : Direction → ℕ → Type 0
KindsOf going.Requests = Asks
KindsOf going.Replies = Replies

-- a message: whether it came in the strict form, its head, and the fields of its argument struct
pub record Message : Type 0 where
  pub strict : Bool
  pub head : Head
  pub arguments : Fields

-- what the first word tells: the kind of a message in the strict form, or the length of a name in the old form
pub data Opening : Type 0 where
  Strict : ℕ → Opening
  Old : ℕ → Opening

-- a word of the strict form, whatever its kind; nobody looks at the third byte
abbrev pub IsStrictWord : ℕ → List ℕ → Type 0
IsStrictWord kind bytes = (third : ℕ) × (bytes ≡ 128 ∷ 1 ∷ third ∷ kind ∷ [])

-- Kinds, in what follows, are the kinds that a message may have.

abbrev pub IsOpening : (ℕ → Type 0) → Opening → List ℕ → Type 0
IsOpening Kinds (Strict kind) bytes = IsStrictWord kind bytes × Kinds kind
IsOpening Kinds (Old n) bytes = IsLength n bytes

-- the word is negative and no strict one, or its kind is none of these, or the name is too long
abbrev pub StopsOpening : (ℕ → Type 0) → Stop → List ℕ → Type 0
StopsOpening Kinds stop bytes =
    StopsShort 4 stop bytes
    ⊎ ((n : ℤ) × IsInt n bytes × (n <ℤ pos 0) × ((kind : ℕ) → IsStrictWord kind bytes → ⊥) × (stop ≡ Bad bad_version 0))
    ⊎ ((kind : ℕ) × IsStrictWord kind bytes × (Kinds kind → ⊥) × (stop ≡ Bad bad_kind 3))
    ⊎ ((n : ℤ) × IsInt n bytes × (pos TEXT_LIMIT <ℤ n) × (stop ≡ Large 0))

-- in the strict form: the name, a text in UTF-8, and the sequence id
abbrev pub IsName : List ℕ → List ℕ → Type 0
IsName name bytes = IsText (Some name) bytes

abbrev pub StopsName : Stop → List ℕ → Type 0
StopsName stop bytes = StopsString stop bytes ⊎ (IsText None bytes × (stop ≡ Bad bad_name 4))

abbrev pub IsNamed : List ℕ × ℤ → List ℕ → Type 0
IsNamed named bytes = IsThen IsName (λ _. IsInt) named.0 named.1 bytes

abbrev pub StopsNamed : Stop → List ℕ → Type 0
StopsNamed = StopsThen IsName StopsName (λ _. StopsShort 4)

-- in the old form: the name's bytes, the kind, and the sequence id
abbrev pub IsOldName : ℕ → List ℕ → List ℕ → Type 0
IsOldName n name bytes = IsBody n name bytes × IsUtf8 name

abbrev pub StopsOldName : ℕ → Stop → List ℕ → Type 0
StopsOldName n stop bytes = StopsShort n stop bytes ⊎ ((name : List ℕ) × IsBody n name bytes × (IsUtf8 name → ⊥) × (stop ≡ Bad bad_name 0))

abbrev pub IsKind : (ℕ → Type 0) → ℕ → List ℕ → Type 0
IsKind Kinds kind bytes = (bytes ≡ kind ∷ []) × Kinds kind

abbrev pub StopsKind : (ℕ → Type 0) → Stop → List ℕ → Type 0
StopsKind Kinds stop bytes = StopsShort 1 stop bytes ⊎ ((kind : ℕ) × (bytes ≡ kind ∷ []) × (Kinds kind → ⊥) × (stop ≡ Bad bad_kind 0))

abbrev pub IsKinded : (ℕ → Type 0) → ℕ × ℤ → List ℕ → Type 0
IsKinded Kinds kinded bytes = IsThen (IsKind Kinds) (λ _. IsInt) kinded.0 kinded.1 bytes

abbrev pub StopsKinded : (ℕ → Type 0) → Stop → List ℕ → Type 0
StopsKinded Kinds = StopsThen (IsKind Kinds) (StopsKind Kinds) (λ _. StopsShort 4)

abbrev pub IsOldRest : (ℕ → Type 0) → ℕ → Head → List ℕ → Type 0
IsOldRest Kinds n head bytes = IsThen (IsOldName n) (λ _. IsKinded Kinds) head.name (head.kind, head.sequence) bytes

abbrev pub StopsOldRest : (ℕ → Type 0) → ℕ → Stop → List ℕ → Type 0
StopsOldRest Kinds n = StopsThen (IsOldName n) (StopsOldName n) (λ _. StopsKinded Kinds)

-- what stands behind the first word
abbrev pub IsHeadRest : (ℕ → Type 0) → Opening → Head → List ℕ → Type 0
IsHeadRest Kinds (Strict kind) head bytes = (kind ≡ head.kind) × IsNamed (head.name, head.sequence) bytes
IsHeadRest Kinds (Old n) head bytes = IsOldRest Kinds n head bytes

abbrev pub StopsHeadRest : (ℕ → Type 0) → Opening → Stop → List ℕ → Type 0
StopsHeadRest Kinds (Strict kind) = StopsNamed
StopsHeadRest Kinds (Old n) = StopsOldRest Kinds n

abbrev pub is_strict : Opening → Bool
is_strict (Strict kind) = true
is_strict (Old n) = false

-- the head of a message, in the strict form or in the old one
abbrev pub IsHead : (ℕ → Type 0) → Bool × Head → List ℕ → Type 0
IsHead Kinds formed bytes = (opening : Opening) × (formed.0 ≡ is_strict opening) × IsThen (IsOpening Kinds) (IsHeadRest Kinds) opening formed.1 bytes

abbrev pub StopsHead : (ℕ → Type 0) → Stop → List ℕ → Type 0
StopsHead Kinds = StopsThen (IsOpening Kinds) (StopsOpening Kinds) (StopsHeadRest Kinds)

-- a message: its head, and its argument struct, which is the first that is open
abbrev pub IsMessage : (ℕ → Type 0) → Message → List ℕ → Type 0
IsMessage Kinds m bytes = IsThen (IsHead Kinds) (λ _ (arguments : Fields). IsWire (Struct arguments) DEPTH_LIMIT struct_code) (m.strict, m.head) m.arguments bytes

abbrev pub StopsMessage : (ℕ → Type 0) → Stop → List ℕ → Type 0
StopsMessage Kinds = StopsThen (IsHead Kinds) (StopsHead Kinds) (λ _. StopsWire DEPTH_LIMIT struct_code)

-- ---- whole texts

-- messages one behind the other, the first of them at this place; none passes the limit of its bytes
abbrev pub AreMessages : (ℕ → Type 0) → ℕ → List Message → List ℕ → Type 0
AreMessages Kinds start [] bytes = bytes ≡ []
AreMessages Kinds start (m ∷ ms) bytes = (front rest : List ℕ) × (bytes ≡ front ++ rest) × IsMessage Kinds m front × (length front ≤ room_at start) × AreMessages Kinds (start + length front) ms rest

-- how a text ends: at a message's boundary, inside a message, or with what can't stand there or is too large
pub data Ending : Type 0 where
  Boundary : Ending
  Truncated : ℕ → Ending
  Bad_at : ℕ → ℕ → Ending
  Large_at : ℕ → Ending

-- these bytes behind whole messages, from this place on, are no further whole message, and so the text ends
abbrev pub Ends : (ℕ → Type 0) → ℕ → List ℕ → Ending → Type 0
Ends Kinds start rest Boundary = rest ≡ []
Ends Kinds start rest (Truncated at) = (rest ≢ []) × StopsMessage Kinds Cut rest × (length rest ≤ room_at start) × (at ≡ start + length rest)
Ends Kinds start rest (Bad_at code at) = (front more : List ℕ) × (q : ℕ) × (rest ≡ front ++ more) × StopsMessage Kinds (Bad code q) front × (length front ≤ room_at start) × (at ≡ start + q)
Ends Kinds start rest (Large_at at) =
    ((front more : List ℕ) × (q : ℕ) × (rest ≡ front ++ more) × StopsMessage Kinds (Large q) front × (length front ≤ room_at start) × (at ≡ start + q))
    -- a byte past the limit of a message's bytes, or of the session's
    ⊎ ((front more : List ℕ) × (byte : ℕ) × (rest ≡ front ++ byte ∷ more) × StopsMessage Kinds Cut front × (length front ≡ room_at start) × (at ≡ start + length front))

-- the text is these messages from this place on, and ends so
pub record SpellsFrom (Kinds : ℕ → Type 0) (start : ℕ) (text : List ℕ) (messages : List Message) (end : Ending) : Type 0 where
  pub whole : List ℕ
  pub rest : List ℕ
  pub parts : text ≡ whole ++ rest
  pub spelled : AreMessages Kinds start messages whole
  pub ends : Ends Kinds (start + length whole) rest end

-- the text of a session spells these messages, and ends so
abbrev pub Spells : List ℕ → List Message → Ending → Type 0
Spells text messages end = SpellsFrom Asks 0 text messages end
