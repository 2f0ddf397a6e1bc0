-- How a journal's disk lies, and what contracts see of a journal.
use Rattle.std.specs.Prelude.{◌≡◌, ◌⊎◌, ◌<◌, ℕ, ◌+◌, ◌^◌, Bool, List, [], ◌∷◌, ◌++◌, length, Option, None, Some, is_some, IfSome, Result, MatchResult}
use Rattle.hms_outside.specs.Disks.{AllFrom, AllOne, Lies, IsImage}
use Rattle.ms_journal.specs.Files.{block, front, AllFit, IsHead, IsFile}

-- behind this front a gate that isn't open stands, on the disk and in what a read gives; all that was written since lies behind it
pub record IsClosed (before : List ℕ) (d : Lies) : Type 0 where
  pub held_gate : ℕ
  pub held_rest : List ℕ
  pub synced_gate : ℕ
  pub synced_rest : List ℕ
  pub held_shut : held_gate ≡ 1 → ⊥
  pub synced_shut : synced_gate ≡ 1 → ⊥
  pub held : d.held ≡ before ++ held_gate ∷ held_rest
  pub synced : d.synced ≡ before ++ synced_gate ∷ synced_rest
  pub behind : AllFrom (length before + 1) d.dirty

-- behind this front a gate stands of which nothing is known, then a block and a closed gate; nothing but that gate was written since
pub record IsDoubtful (before bytes : List ℕ) (d : Lies) : Type 0 where
  pub held_gate : ℕ
  pub synced_gate : ℕ
  pub rest : List ℕ
  pub held : d.held ≡ before ++ held_gate ∷ (bytes ++ 0 ∷ rest)
  pub synced : d.synced ≡ before ++ synced_gate ∷ (bytes ++ 0 ∷ rest)
  pub within : AllOne (length before) d.dirty

-- these bytes are followed by a closed gate
abbrev pub ShutAt : List ℕ → List ℕ → Type 0
ShutAt before c = (gate : ℕ) × (rest : List ℕ) × (gate ≡ 1 → ⊥) × (c ≡ before ++ gate ∷ rest)

-- these bytes are followed by some gate, the block and a closed gate
abbrev pub EitherAt : List ℕ → List ℕ → List ℕ → Type 0
EitherAt before bytes c = (gate : ℕ) × (rest : List ℕ) × (c ≡ before ++ gate ∷ (bytes ++ 0 ∷ rest))

-- what writing a block behind a closed gate leaves
abbrev pub Staged : {T E : Type 0} → List ℕ → List ℕ → Result T E → Lies → Type 0
Staged before bytes result d = MatchResult result (λ _. IsDoubtful before bytes d) (λ _. IsClosed before d)

-- what opening the gate leaves
abbrev pub Opened : {T E : Type 0} → List ℕ → List ℕ → Result T E → Lies → Type 0
Opened before bytes result d = MatchResult result (λ _. IsClosed (before ++ 1 ∷ bytes) d) (λ _. IsDoubtful before bytes d)

-- what closing it again leaves
abbrev pub Withdrawn : {T E : Type 0} → List ℕ → List ℕ → Result T E → Lies → Type 0
Withdrawn before bytes result d = MatchResult result (λ _. IsClosed before d) (λ _. IsDoubtful before bytes d)

-- how the disk of a journal with these payloads lies; one more may be in doubt
abbrev pub Stands : List ℕ → List (List ℕ) → Option (List ℕ) → Lies → Type 0
Stands head payloads None d = IsClosed (front head payloads) d
Stands head payloads (Some payload) d = IsDoubtful (front head payloads) (block payload) d

-- a file that opens to these payloads, or to them and the one in doubt
abbrev pub OpensTo : List ℕ → List (List ℕ) → Option (List ℕ) → List ℕ → Type 0
OpensTo head payloads None c = IsFile head payloads c
OpensTo head payloads (Some payload) c = IsFile head payloads c ⊎ IsFile head (payloads ++ payload ∷ []) c

-- a crash now leaves a file that opens so
abbrev pub LeavesOpen : List ℕ → List (List ℕ) → Option (List ℕ) → Lies → Type 0
LeavesOpen head payloads doubt d = (c : List ℕ) → IsImage d c → OpensTo head payloads doubt c

-- what contracts see of a journal: its disk, its head, its payloads, and the one whose gate is in doubt
pub record Book (D : Type 0) : Type 0 where
  pub disk : D
  pub head : List ℕ
  pub payloads : List (List ℕ)
  pub doubt : Option (List ℕ)

-- the payloads that a log lists
abbrev pub logged : List (List ℕ × Unit {0}) → List (List ℕ)
logged [] = []
logged (x ∷ xs) = x.0 ∷ logged xs

-- the first payload of a log, where it has one
abbrev pub first_logged : List (List ℕ × Unit {0}) → Option (List ℕ)
first_logged [] = None
first_logged (x ∷ xs) = Some x.0

-- a journal's fields say of its disk what is true
pub record Keeps (lies : Option Lies) (head : List ℕ) (end : ℕ) (is_doubtful : Bool) (payloads : List (List ℕ)) (doubt : Option (List ℕ)) : Type 0 where
  pub headed : IsHead head
  pub fit : AllFit payloads
  pub doubt_fits : IfSome doubt (λ payload. length payload < 2 ^ 64)
  pub room : end + 1 < 2 ^ 64
  pub place : end ≡ length (front head payloads)
  pub known : is_doubtful ≡ is_some doubt
  pub stands : IfSome lies (Stands head payloads doubt)
