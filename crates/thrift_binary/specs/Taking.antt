-- What a reader takes off a source, and what it answers then.
use Rattle.std.specs.Prelude.{◌≡◌, ℕ, ◌+◌, ◌-◌, ◌≤◌, ◌⊎◌, List, [], ◌∷◌, ◌++◌, length, min, Option, None, Some, Result, Ok, Err}
use Rattle.std.specs.Io.KnownBytes.{Consumes, IsAtEnd}
use Rattle.thrift_binary.specs.declared.fault.WireFault.{WireFault}
use Rattle.thrift_binary.specs.declared.fault.WireFault.TheVariants.{Truncated, BadWire, TooLarge, ReadFault, NoMemory}
use Rattle.thrift_binary.specs.declared.limits.TheConstants.{DEPTH_LIMIT, MESSAGE_LIMIT, SESSION_END}
use Rattle.thrift_binary.specs.declared.progress.Progress.{Progress}

-- why bytes stop to spell a value: they end too soon, or something can't stand where it does; places count from the value's first byte
pub data Stop : Type 0 where
  Cut : Stop
  Bad : ℕ → ℕ → Stop
  Large : ℕ → Stop

-- a stop whose place is counted from an earlier byte on
abbrev pub moved : ℕ → Stop → Stop
moved n Cut = Cut
moved n (Bad code place) = Bad code (n + place)
moved n (Large place) = Large (n + place)

-- how many bytes a message may have that begins at this place of the session
abbrev pub room_at : ℕ → ℕ
room_at start = min MESSAGE_LIMIT (SESSION_END - start)

-- a reader in front of a message: the message's bytes are counted from here, and nothing is open
abbrev pub fresh : Progress → Progress
fresh p = record { place = p.place; limit = p.place + room_at p.place; room = DEPTH_LIMIT; fault = p.fault }

-- a reader that has taken so many bytes more
abbrev pub advanced : ℕ → Progress → Progress
advanced n p = record { place = p.place + n; limit = p.limit; room = p.room; fault = p.fault }

-- Bytes with this property were taken, by a reader that had no fault and has none.
pub record Took (left left' : Option (List ℕ)) (old new : Progress) (P : List ℕ → Type 0) : Type 0 where
  pub bytes : List ℕ
  pub consumed : Consumes left left' bytes
  pub unspent : old.fault ≡ None
  pub progress : new ≡ advanced (length bytes) old
  pub within : old.place + length bytes ≤ old.limit
  pub holds : P bytes

-- A reader at this place, which may go up to the limit, judged these bytes, and so tells the fault for this stop.
abbrev pub Tells : Option (List ℕ) → Option (List ℕ) → ℕ → ℕ → List ℕ → Stop → WireFault → Type 0
-- the input ends behind the bytes
Tells left left' place limit bytes stop (Truncated at) = (stop ≡ Cut) × Consumes left left' bytes × IsAtEnd left' × (place + length bytes ≤ limit) × (at ≡ place + length bytes)
Tells left left' place limit bytes stop (BadWire code at) = (q : ℕ) × (stop ≡ Bad code q) × Consumes left left' bytes × (place + length bytes ≤ limit) × (at ≡ place + q)
-- something is too large; or there is a byte behind them, past the limit
Tells left left' place limit bytes stop (TooLarge at) =
    ((q : ℕ) × (stop ≡ Large q) × Consumes left left' bytes × (place + length bytes ≤ limit) × (at ≡ place + q))
    ⊎ ((byte : ℕ) × (stop ≡ Cut) × Consumes left left' (bytes ++ byte ∷ []) × (place + length bytes ≡ limit) × (at ≡ limit))
-- no more could be read, or kept
Tells left left' place limit bytes stop ReadFault = (stop ≡ Cut) × Consumes left left' bytes × (place + length bytes ≤ limit)
Tells left left' place limit bytes stop NoMemory = (stop ≡ Cut) × Consumes left left' bytes × (place + length bytes ≤ limit)

-- The bytes stopped to spell a value, and the reader told the fault, and keeps it.
pub record Halted (left left' : Option (List ℕ)) (old new : Progress) (fault : WireFault) (Stopped : Stop → List ℕ → Type 0) : Type 0 where
  pub bytes : List ℕ
  pub stop : Stop
  pub unspent : old.fault ≡ None
  pub spent : new.fault ≡ Some fault
  pub holds : Stopped stop bytes
  pub tells : Tells left left' old.place old.limit bytes stop fault

-- The reader had its fault before: it tells it again, and takes nothing.
pub record Again (left left' : Option (List ℕ)) (old new : Progress) (fault : WireFault) : Type 0 where
  pub before : old.fault ≡ Some fault
  pub nothing : Consumes left left' []
  pub stays : new ≡ old

-- What was taken is a spelling of the value; or the bytes stop to be one, for the fault that is told; or the reader was spent.
abbrev pub Reads : {T : Type 0} → Option (List ℕ) → Option (List ℕ) → Progress → Progress → Result T WireFault → (T → List ℕ → Type 0) → (Stop → List ℕ → Type 0) → Type 0
Reads left left' old new (Ok value) Spelled Stopped = Took left left' old new (Spelled value)
Reads left left' old new (Err fault) Spelled Stopped = Halted left left' old new fault Stopped ⊎ Again left left' old new fault

-- ---- what a reader's own parts do

-- a reader of a session's first byte
abbrev pub start : Progress
start = record { place = 0; limit = MESSAGE_LIMIT; room = DEPTH_LIMIT; fault = None }

-- a reader inside one struct or collection more, and one behind its end
abbrev pub opened : Progress → Progress
opened p = record { place = p.place; limit = p.limit; room = p.room - 1; fault = p.fault }

abbrev pub closed : Progress → Progress
closed p = record { place = p.place; limit = p.limit; room = p.room + 1; fault = p.fault }

-- A struct or a collection begins: one more is open, and nothing was taken. Where none may open that is told at the place of its first byte.
abbrev pub Opens : {T : Type 0} → Option (List ℕ) → Option (List ℕ) → Progress → Progress → Result T WireFault → Type 0
Opens left left' old new (Ok _) = Consumes left left' [] × (old.fault ≡ None) × (1 ≤ old.room) × (new ≡ opened old)
Opens left left' old new (Err fault) = Halted left left' old new fault (λ stop bytes. (old.room ≡ 0) × (stop ≡ Large 0) × (bytes ≡ [])) ⊎ Again left left' old new fault

-- the fault of this stop, for bytes that begin at this place
abbrev pub IsFaultOf : ℕ → Stop → WireFault → Type 0
IsFaultOf place Cut fault = ⊥
IsFaultOf place (Bad code q) fault = fault ≡ BadWire code (place + q)
IsFaultOf place (Large q) fault = fault ≡ TooLarge (place + q)

-- whole bytes, which begin at this place, are judged: they spell a value, or stop to
abbrev pub Judges : {T : Type 0} → ℕ → List ℕ → Result T WireFault → (T → List ℕ → Type 0) → (Stop → List ℕ → Type 0) → Type 0
Judges place bytes (Ok value) Spelled Stopped = Spelled value bytes
Judges place bytes (Err fault) Spelled Stopped = (stop : Stop) × Stopped stop bytes × IsFaultOf place stop fault
