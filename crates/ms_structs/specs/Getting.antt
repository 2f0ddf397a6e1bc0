-- Reading a value and keeping what it says.
use Rattle.std.specs.Prelude.{◌≡◌, ℕ, ◌+◌, ◌≤◌, ◌⊎◌, List, length, Option, Some, None, Result, Ok, Err, ⊤}
use Rattle.std.specs.Io.KnownBytes.{Consumes}
use Rattle.thrift_binary.specs.Codes.{struct_code}
use Rattle.thrift_binary.specs.declared.fault.WireFault.{WireFault}
use Rattle.thrift_binary.specs.declared.fault.WireFault.TheVariants.{NoMemory}
use Rattle.thrift_binary.specs.declared.progress.Progress.{Progress}
use Rattle.ms_structs.specs.declared.struct_fault.StructFault.{StructFault}
use Rattle.ms_structs.specs.declared.struct_fault.StructFault.TheVariants as told
use Rattle.ms_structs.specs.declared.struct_fault.StructFault.TheVariants.{BadText}
use Rattle.thrift_binary.specs.Tree.{Fields, Struct}
use Rattle.thrift_binary.specs.Wire.{IsWire, StopsWire}
use Rattle.thrift_binary.specs.Taking.{Stop, Took, Reads}

-- The bytes stop to spell a tree, or spell a whole one: so no more than one tree was begun.
abbrev pub Begun : {W : Type 0} → (W → List ℕ → Type 0) → (Stop → List ℕ → Type 0) → List ℕ → Type 0
Begun {W} Is Stopped bytes = ((stop : Stop) × Stopped stop bytes) ⊎ ((w : W) × Is w bytes)

-- Some bytes with this property were taken, and there was no memory to keep what they say: the reader is spent.
pub record MemoryRefused (left left' : Option (List ℕ)) (old new : Progress) (fault : WireFault) (P : List ℕ → Type 0) : Type 0 where
  pub bytes : List ℕ
  pub consumed : Consumes left left' bytes
  pub unspent : old.fault ≡ None
  pub within : old.place + length bytes ≤ old.limit
  pub memory : fault ≡ NoMemory
  pub spent : new.fault ≡ Some NoMemory
  pub holds : P bytes

-- As `Reads`, where `Is` tells what spells a tree, and `Says` what the tree says; but memory may be refused at any byte. Then what was taken begins a tree: it is a front of one, or the whole.
abbrev pub ReadsTree : {W T : Type 0} → Option (List ℕ) → Option (List ℕ) → Progress → Progress → Result T WireFault → (W → List ℕ → Type 0) → (W → T → Type 0) → (Stop → List ℕ → Type 0) → Type 0
ReadsTree {W} left left' old new (Ok value) Is Says Stopped = Took left left' old new (λ bytes. (w : W) × Is w bytes × Says w value)
ReadsTree {W} {T} left left' old new (Err fault) Is Says Stopped = Reads {T = T} left left' old new (Err fault) (λ value bytes. (w : W) × Is w bytes × Says w value) Stopped ⊎ MemoryRefused left left' old new fault (Begun Is Stopped)

-- What a reading of a struct by itself answers: what its fields make, or that they make nothing, since a text that counts isn't UTF-8; then the struct was read to its end. Where memory is refused it was begun, or read to its end.
abbrev pub Makes : {T : Type 0} → Option (List ℕ) → Option (List ℕ) → Progress → Progress → Result T StructFault → (Fields → Option T) → Type 0
Makes left left' old new (Ok value) made = Took left left' old new (λ bytes. (v : Fields) × IsWire (Struct v) old.room struct_code bytes × (made v ≡ Some value))
Makes left left' old new (Err BadText) made = Took left left' old new (λ bytes. (v : Fields) × IsWire (Struct v) old.room struct_code bytes × (made v ≡ None))
Makes {T = T} left left' old new (Err (told.Wire fault)) made =
    Reads {T = T} left left' old new (Err fault) (λ _ _. ⊤) (StopsWire old.room struct_code)
    ⊎ MemoryRefused left left' old new fault (Begun (λ v. IsWire (Struct v) old.room struct_code) (StopsWire old.room struct_code))
