-- What a session took off its source, gave to its sink, and did at its desk.
use Rattle.std.specs.Prelude.{◌≡◌, ◌≢◌, ℕ, ◌+◌, ◌≤◌, ◌⊎◌, List, [], ◌∷◌, ◌++◌, length, Option}
use Rattle.std.specs.Io.KnownBytes.{Consumes, IsAtEnd}
use Rattle.hms_outside.specs.Told.{Goes, Held}
use Rattle.desk.specs.History.{Entry}
use Rattle.thrift_binary.specs.declared.fault.WireFault.{WireFault}
use Rattle.thrift_binary.specs.declared.fault.WireFault.TheVariants as fault
use Rattle.thrift_binary.specs.Codes.{oneway_kind}
use Rattle.thrift_binary.specs.Messages.{Message, Asks, IsMessage, StopsMessage, Ends, Truncated as TruncatedAt}
use Rattle.thrift_binary.specs.Taking.{Stop, Cut, Bad, Large, room_at}
use Rattle.ms_calls.specs.declared.request.Asked.TheVariants as ask
use Rattle.ms_session.specs.Requests.{asks}
use Rattle.ms_session.specs.Turns.{Carried, Replied, RepliedPart, Shelf, Turn, replies_of, turn_bytes}
use Rattle.ms_session.specs.declared.end.End.{End}
use Rattle.ms_session.specs.declared.end.End.TheVariants.{Done, Shutdown, Truncated, BadWire, TooLarge, ReadFault, WriteFault, NoMemory}

-- what a session meets outside, at its beginning and at its end: what its source has left, what its sink holds, the moments that its clock will answer, as far as each is known, and what is told of its folder
pub record Met : Type 0 where
  pub left : Option (List ℕ)
  pub held : Option Held
  pub clock : Option (List ℕ)
  pub shelf : Shelf

-- what the source lost is messages that were carried out and answered whole, and a rest, which begins at this place; nothing else was written
pub record Served (old new : Met) (entries : List Entry) (Rest : ℕ → List ℕ → Type 0) : Type 0 where
  pub turns : List Turn
  pub taken : List ℕ
  pub rest : List ℕ
  pub lost : Consumes old.left new.left (taken ++ rest)
  pub carried : Carried turns taken old.clock new.clock old.shelf new.shelf entries
  pub replied : Goes (Replied (replies_of turns)) old.held new.held
  pub behind : Rest (length taken) rest

-- what the source lost is messages that were carried out; the last of them wants a reply and was not answered whole, and all before it were
pub record Interrupted (old new : Met) (entries : List Entry) : Type 0 where
  pub turns : List Turn
  pub last : Turn
  pub taken : List ℕ
  pub lost : Consumes old.left new.left taken
  pub carried : Carried (turns ++ last ∷ []) taken old.clock new.clock old.shelf new.shelf entries
  pub wanted : last.message.head.kind ≢ oneway_kind
  pub replied : Goes (RepliedPart (replies_of turns) (turn_bytes last)) old.held new.held

-- the rest is a front of a message, or empty, and within the bytes that a message may have at this place
abbrev pub IsFront : ℕ → List ℕ → Type 0
IsFront at rest = StopsMessage Asks Cut rest × (length rest ≤ room_at at)

-- the rest is one message, which asks for the end of the session
abbrev pub IsShutdown : ℕ → List ℕ → Type 0
IsShutdown at rest = (message : Message) × IsMessage Asks message rest × (asks message ≡ ask.Shutdown) × (length rest ≤ room_at at)

-- the rest is what came of a message that was not carried out: up to where it stops to be one, or all of it
abbrev pub IsPart : ℕ → List ℕ → Type 0
IsPart at rest = (((stop : Stop) × StopsMessage Asks stop rest) ⊎ ((message : Message) × IsMessage Asks message rest)) × (length rest ≤ room_at at)

-- the rest is exactly the bytes that were judged: up to where they go on as no message does, for the cause with this code, at this place
abbrev pub IsBad : ℕ → ℕ → ℕ → List ℕ → Type 0
IsBad code place at rest = (q : ℕ) × StopsMessage Asks (Bad code q) rest × (length rest ≤ room_at at) × (place ≡ at + q)

-- the rest is exactly the bytes that were judged, where what begins at this place is too large: up to there, or one byte past the limit
abbrev pub IsLarge : ℕ → ℕ → List ℕ → Type 0
IsLarge place at rest =
    ((q : ℕ) × StopsMessage Asks (Large q) rest × (length rest ≤ room_at at) × (place ≡ at + q))
    ⊎ ((front : List ℕ) × (byte : ℕ) × (rest ≡ front ++ byte ∷ []) × StopsMessage Asks Cut front × (length front ≡ room_at at) × (place ≡ at + length front))

-- how a session ended that had these entries of its caller
abbrev pub Session : Met → Met → List Entry → End → Type 0
-- the whole input is messages
Session old new entries Done = Served old new entries (λ _ rest. (rest ≡ []) × IsAtEnd new.left)
-- behind the messages stands the one that ends the session, and nothing was taken behind it
Session old new entries Shutdown = Served old new entries IsShutdown
-- the input ends behind the messages, inside another, at this place
Session old new entries (Truncated place) = Served old new entries (λ at rest. Ends Asks at rest (TruncatedAt place) × IsAtEnd new.left)
-- behind the messages the input goes on as no message does, for the cause with this code, at this place; nothing was taken behind what shows it, and whatever follows changes nothing
Session old new entries (BadWire code place) = Served old new entries (IsBad code place)
-- what begins at this place is too large; nothing was taken behind what shows it
Session old new entries (TooLarge place) = Served old new entries (IsLarge place)
-- no message that was taken whole was left unanswered
Session old new entries ReadFault = Served old new entries IsFront
-- nothing was carried out behind the reply that could not be written
Session old new entries WriteFault = Interrupted old new entries
-- memory was refused while at most one message more was read, or for a reply
Session old new entries NoMemory = Served old new entries IsPart ⊎ Interrupted old new entries

-- the end that a fault of the reader makes
abbrev pub end_of_fault : WireFault → End
end_of_fault (fault.Truncated place) = Truncated place
end_of_fault (fault.BadWire code place) = BadWire code place
end_of_fault (fault.TooLarge place) = TooLarge place
end_of_fault fault.ReadFault = ReadFault
end_of_fault fault.NoMemory = NoMemory
