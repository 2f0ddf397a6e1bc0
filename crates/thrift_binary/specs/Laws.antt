-- Laws of the wire. Each holds of messages that ask, and of those that answer.
use Rattle.std.specs.Prelude.{◌≡◌, ℕ, ◌+◌, ◌<◌, List, [], ◌++◌, length, get_or}
use Rattle.thrift_binary.specs.Tree.{Wire}
use Rattle.thrift_binary.specs.Wire.{IsWire}
use Rattle.thrift_binary.specs.Messages.{Asks, Replies, Message, IsMessage, Ending, Boundary, Truncated, Bad_at, Large_at, SpellsFrom}

abbrev pub OfBothKinds : ((ℕ → Type 0) → Type 0) → Type 0
OfBothKinds Law = Law Asks × Law Replies

-- no spelling of a value begins another of its type, however deep the two stand, and none spells two values
abbrev pub NoSpellingBeginsAnother : Type 0
NoSpellingBeginsAnother = (v w : Wire) (depth other ty : ℕ) (x more : List ℕ) → IsWire v depth ty x → IsWire w other ty (x ++ more) → (more ≡ []) × (v ≡ w)

-- no message begins another, and no bytes spell two
abbrev pub NoMessageBeginsAnother : (ℕ → Type 0) → Type 0
NoMessageBeginsAnother Kinds = (m o : Message) (x more : List ℕ) → IsMessage Kinds m x → IsMessage Kinds o (x ++ more) → (more ≡ []) × (m ≡ o)

-- from any place on, a text spells one list of messages at most, and ends in one way
abbrev pub ReadsOneWay : (ℕ → Type 0) → Type 0
ReadsOneWay Kinds = (start : ℕ) (text : List ℕ) (ms os : List Message) (end other : Ending) → SpellsFrom Kinds start text ms end → SpellsFrom Kinds start text os other → (ms ≡ os) × (end ≡ other)

-- Where a text is cut, its whole messages are taken off, and what was left goes on with what comes: that reads as the uncut text does.
abbrev pub GoesOn : (ℕ → Type 0) → Type 0
GoesOn Kinds =
    (start : ℕ) (before after : List ℕ) (ms os : List Message) (end last : Ending) (cut : SpellsFrom Kinds start before ms end)
    → SpellsFrom Kinds (start + length cut.whole) (cut.rest ++ after) os last → SpellsFrom Kinds start (before ++ after) (ms ++ os) last

-- and the other way: the messages of the front are the first ones of the whole, and the others are read off what was left
abbrev pub IsCutAnywhere : (ℕ → Type 0) → Type 0
IsCutAnywhere Kinds =
    (start : ℕ) (before after : List ℕ) (ms all : List Message) (end last : Ending) (cut : SpellsFrom Kinds start before ms end)
    → SpellsFrom Kinds start (before ++ after) all last → (os : List Message) × (all ≡ ms ++ os) × SpellsFrom Kinds (start + length cut.whole) (cut.rest ++ after) os last

-- what can't stand there, or is too large, ends a text for good
abbrev pub IsFinal : Ending → Type 0
IsFinal Boundary = ⊥
IsFinal (Truncated at) = ⊥
IsFinal (Bad_at code at) = Unit {0}
IsFinal (Large_at at) = Unit {0}

-- whatever comes behind it
abbrev pub StaysSo : (ℕ → Type 0) → Type 0
StaysSo Kinds = (start : ℕ) (text more : List ℕ) (ms : List Message) (end : Ending) → IsFinal end → SpellsFrom Kinds start text ms end → SpellsFrom Kinds start (text ++ more) ms end

-- each is a byte
abbrev pub AreBytes : List ℕ → Type 0
AreBytes bytes = (i : ℕ) → get_or bytes i 0 < 256

-- from any place on, every text of bytes spells some messages, and ends in some way
abbrev pub HasAnEnding : (ℕ → Type 0) → Type 0
HasAnEnding Kinds = (start : ℕ) (text : List ℕ) → AreBytes text → (ms : List Message) × (end : Ending) × SpellsFrom Kinds start text ms end
