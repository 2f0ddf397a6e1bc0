-- What was read of a journal's bytes.
use Rattle.std.specs.Prelude.{◌≡◌, ◌<◌, ◌≤◌, ℕ, ◌+◌, ◌^◌, ⊤, Bool, false, List, [], ◌∷◌, ◌++◌, length, take, drop}
use Rattle.ms_journal.specs.Files.{block, front, AllFit, IsCut, IsFile, placed}
use Rattle.ms_journal.specs.Books.{logged}
use Rattle.ms_journal.specs.declared.reading.Payload.{Payload}
use Rattle.ms_journal.specs.declared.fault.OpenFault.{OpenFault}
use Rattle.ms_journal.specs.declared.fault.OpenFault.TheVariants as opening

-- an entry with an open gate stands at this place, and the next gate there
pub record IsEntryAt (bytes : List ℕ) (at : ℕ) (payload : List ℕ) (next : ℕ) : Type 0 where
  pub stands : drop at bytes ≡ 1 ∷ (block payload ++ drop next bytes)
  pub next_is : next ≡ at + (length payload + 9)
  pub within : next < length bytes
  pub fits : length payload < 2 ^ 64

-- why no entry could be read behind the open gate at this place
abbrev pub CutAt : List ℕ → ℕ → OpenFault → Type 0
CutAt bytes at opening.NotEmpty = ⊥
CutAt bytes at opening.Foreign = ⊥
CutAt bytes at (opening.Broken n) = (n ≡ at) × ((rest : List ℕ) × (drop at bytes ≡ 1 ∷ rest) × IsCut rest)
CutAt bytes at opening.DiskFault = ⊥
CutAt bytes at opening.NoMemory = ⊤

-- the offsets and bytes of payloads
abbrev pub pairs_of : List Payload → List (ℕ × List ℕ)
pairs_of [] = []
pairs_of (p ∷ ps) = (p.at, p.bytes) ∷ pairs_of ps

-- the file that the bytes are, with its payloads and their places
pub record IsRead (bytes head : List ℕ) (payloads : List Payload) (log : List (List ℕ × Unit {0})) (end : ℕ) : Type 0 where
  pub file : IsFile head (logged log) bytes
  pub place : end ≡ length (front head (logged log))
  pub room : end < length bytes
  pub listed : pairs_of payloads ≡ placed 40 (logged log)

-- the payloads before a gate
pub record SoFar (bytes : List ℕ) (at : ℕ) (payloads : List Payload) (log : List (List ℕ × Unit {0})) : Type 0 where
  pub within : at < length bytes
  pub fit : AllFit (logged log)
  pub before : take at bytes ≡ front (take 40 bytes) (logged log)
  pub listed : pairs_of payloads ≡ placed 40 (logged log)

-- of the bytes that are held a piece was added to those that were read before, or all had been read
pub record ReadsOn (more : Bool) (old new held : List ℕ) : Type 0 where
  pub count : ℕ
  pub added : new ≡ old ++ take count (drop (length old) held)
  pub all : more ≡ false → (length held ≤ length old) × (new ≡ old)
