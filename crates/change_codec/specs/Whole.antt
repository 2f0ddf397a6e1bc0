-- What calls answer, and the laws of forms.
use Rattle.std.specs.Prelude.{◌≡◌, ◌≢◌, ℕ, ◌-◌, ◌<◌, ◌≤◌, get_or, List, [], ◌∷◌, ◌++◌, length, drop, Result, Ok, Err, IfOk}
use Rattle.change_codec.specs.declared.fault.CodecFault.{CodecFault}
use Rattle.change_codec.specs.declared.fault.CodecFault.TheVariants as fault
use Rattle.change_codec.specs.declared.fault.Stop.{Stop}
use Rattle.change_codec.specs.declared.fault.Stop.TheVariants as stop
use Rattle.change_codec.specs.Forms.{Form, Reading}

-- a call answers what reading gives, unless memory was refused
abbrev pub StopsAs : {T : Type 0} → Stop → Reading T → Type 0
StopsAs stop.NoMemory reading = Unit {0}
StopsAs (stop.Left left) reading = reading ≡ Err left

abbrev pub Gives : {X T : Type 0} → (X → T × List ℕ) → Result X Stop → Reading T → Type 0
Gives seen (Ok x) reading = reading ≡ Ok (seen x)
Gives seen (Err s) reading = StopsAs s reading

-- what all of the bytes spell: the value; or the offset at which no spelling goes on, which is the first byte left over where bytes follow
abbrev pub whole_by : {T : Type 0} → ℕ → Reading T → Result T ℕ
whole_by count (Ok (value, [])) = Ok value
whole_by count (Ok (value, b ∷ rest)) = Err (count - length (b ∷ rest))
whole_by count (Err left) = Err (count - left)

abbrev pub whole : {T : Type 0} → Form T → List ℕ → Result T ℕ
whole form bytes = whole_by (length bytes) (form.read bytes)

-- the fault where so many bytes were handed in: left counts from their end, an offset from their front
abbrev pub fault_by : ℕ → Stop → CodecFault
fault_by count stop.NoMemory = fault.NoMemory
fault_by count (stop.Left left) = fault.BadRecord (count - left)

abbrev pub FaultIs : {T : Type 0} → CodecFault → Result T ℕ → Type 0
FaultIs fault.NoMemory spelled = Unit {0}
FaultIs (fault.BadRecord offset) spelled = spelled ≡ Err offset

-- a call answers the value that the bytes spell, or where they stop to spell one, unless memory was refused
abbrev pub Answers : {T : Type 0} → Result T CodecFault → Result T ℕ → Type 0
Answers (Ok value) spelled = spelled ≡ Ok value
Answers (Err f) spelled = FaultIs f spelled

-- all that a call answers about the value that all of the bytes spell
pub record AnswersWhole {T : Type 0} (form : Form T) (bytes : List ℕ) (result : Result T CodecFault) : Type 0 where
  -- what is answered is spelled so
  pub found : IfOk result (λ value. form.HasCode value × (bytes ≡ form.code value))
  -- what is spelled so is answered
  pub only : (value : T) → form.HasCode value → bytes ≡ form.code value → Answers result (Ok value)
  -- which fault it is
  pub exact : Answers result (whole form bytes)

-- what is read from an offset on: the value and the offset behind it; or the offset at which no spelling goes on
abbrev pub at_by : {T : Type 0} → ℕ → Reading T → Result (T × ℕ) ℕ
at_by count (Ok (value, rest)) = Ok (value, count - length rest)
at_by count (Err left) = Err (count - left)

abbrev pub read_at : {T : Type 0} → (List ℕ → Reading T) → ℕ → List ℕ → Result (T × ℕ) ℕ
read_at read at bytes = at_by (length bytes) (read (drop at bytes))

-- among so many bytes, the offset behind what was read is behind this one, and that of a refusal is not before it
abbrev pub GoesForward : {T : Type 0} → ℕ → ℕ → Result (T × ℕ) CodecFault → Type 0
GoesForward at count (Ok (value, behind)) = (at < behind) × (behind ≤ count)
GoesForward at count (Err fault.NoMemory) = Unit {0}
GoesForward at count (Err (fault.BadRecord offset)) = (at ≤ offset) × (offset ≤ count)

-- what was written is read again, whatever follows it
abbrev pub IsReadAgain : {T : Type 0} → Form T → Type 0
IsReadAgain {T} form = (value : T) (rest : List ℕ) → form.HasCode value → form.read (form.code value ++ rest) ≡ Ok (value, rest)

-- each is a byte
abbrev pub AreBytes : List ℕ → Type 0
AreBytes bytes = (i : ℕ) → get_or bytes i 0 < 256

-- what is read is spelled by the bytes that were taken
abbrev pub IsSpelled : {T : Type 0} → Form T → Type 0
IsSpelled {T} form = (bytes : List ℕ) (value : T) (rest : List ℕ) → AreBytes bytes → form.read bytes ≡ Ok (value, rest) → (bytes ≡ form.code value ++ rest) × form.HasCode value

-- no spelling begins another: two values whose spellings stand at the front of the same bytes are one
abbrev pub HasOneSpelling : {T : Type 0} → Form T → Type 0
HasOneSpelling {T} form = (a b : T) (x y : List ℕ) → form.HasCode a → form.HasCode b → form.code a ++ x ≡ form.code b ++ y → (a ≡ b) × (x ≡ y)

-- The place at which reading stops, with so many bytes left behind it.
pub record Refuses {T : Type 0} (form : Form T) (bytes : List ℕ) (left : ℕ) : Type 0 where
  pub before : List ℕ
  pub behind : List ℕ
  pub parts : bytes ≡ before ++ behind
  pub place : left ≡ length behind
  -- the bytes before it, by themselves, only end too soon
  pub early : form.read before ≡ Err 0
  -- no spelling stands at the front of the bytes
  pub none : (value : T) (rest : List ℕ) → form.HasCode value → bytes ≡ form.code value ++ rest → ⊥
  -- where bytes are left, none begins with the bytes either
  pub final : behind ≢ [] → (value : T) (more : List ℕ) → form.HasCode value → form.code value ≡ bytes ++ more → ⊥
  -- and whatever follows them, reading stops at this place
  pub stays : behind ≢ [] → (more : List ℕ) → form.read (bytes ++ more) ≡ Err (length (behind ++ more))

-- so of all bytes that are refused
abbrev pub IsRefusedInPlace : {T : Type 0} → Form T → Type 0
IsRefusedInPlace {T} form = (bytes : List ℕ) (left : ℕ) → form.read bytes ≡ Err left → Refuses form bytes left

-- a spelling that is cut before its end is refused where it ends
abbrev pub IsCutAtItsEnd : {T : Type 0} → Form T → Type 0
IsCutAtItsEnd {T} form = (value : T) (front more : List ℕ) → form.HasCode value → form.code value ≡ front ++ more → more ≢ [] → form.read front ≡ Err 0
