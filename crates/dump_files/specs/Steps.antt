-- What the crate's own functions answer, from an offset among a file's bytes on.
use Rattle.std.specs.Prelude.{◌≡◌, ◌-◌, ◌≤◌, ℕ, List, [], ◌∷◌, ◌++◌, length, drop, Result, Ok, Err}
use Rattle.change_codec.specs.Forms.{Reading}
use Rattle.change_codec.specs.declared.fault.CodecFault.{CodecFault}
use Rattle.change_codec.specs.declared.fault.CodecFault.TheVariants as codec
use Rattle.dump_files.specs.declared.fault.FileFault.{FileFault}
use Rattle.dump_files.specs.declared.fault.FileFault.TheVariants as fault

-- the same fault, of a file
abbrev pub fault_of : CodecFault → FileFault
fault_of (codec.BadRecord offset) = fault.Grammar offset
fault_of codec.NoMemory = fault.NoMemory

-- reading stops at this offset, unless memory was refused
abbrev pub StopsAt : {T : Type 0} → List ℕ → Reading T → FileFault → Type 0
StopsAt bytes reading (fault.Grammar offset) = (left : ℕ) × (reading ≡ Err left) × (offset ≡ length bytes - left)
StopsAt bytes reading fault.NoMemory = Unit {0}

-- a value was read, and this is the offset behind it
abbrev pub GoesOnAt : {T : Type 0} → List ℕ → Reading T → T → ℕ → Type 0
GoesOnAt bytes reading value behind = (reading ≡ Ok (value, drop behind bytes)) × (behind ≤ length bytes)

-- a value is answered with the offset behind it, or where reading stops
abbrev pub Comes : {T : Type 0} → List ℕ → Reading T → Result (T × ℕ) FileFault → Type 0
Comes bytes reading (Ok (value, behind)) = GoesOnAt bytes reading value behind
Comes bytes reading (Err f) = StopsAt bytes reading f

-- a list gains an element, and the offset behind it is answered, or where reading stops
abbrev pub GrowsByOne : {T : Type 0} → List ℕ → Reading T → List T → List T → Result ℕ FileFault → Type 0
GrowsByOne {T} bytes reading old new (Ok behind) = (element : T) × (new ≡ old ++ element ∷ []) × GoesOnAt bytes reading element behind
GrowsByOne bytes reading old new (Err f) = StopsAt bytes reading f

-- a list gains what was read, and the offset behind that is answered, or where reading stops
abbrev pub Grows : {T : Type 0} → List ℕ → Reading (List T) → List T → List T → Result ℕ FileFault → Type 0
Grows {T} bytes reading old new (Ok behind) = (more : List T) × (new ≡ old ++ more) × GoesOnAt bytes reading more behind
Grows bytes reading old new (Err f) = StopsAt bytes reading f
