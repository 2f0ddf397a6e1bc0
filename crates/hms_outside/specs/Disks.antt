-- How a disk lies, what a crash may leave of it, and what its calls do to that.
use Rattle.std.specs.Prelude.{◌≡◌, ◌⊎◌, ◌<◌, ◌≤◌, ℕ, ◌+◌, ◌-◌, ⊤, min, max, List, [], ◌∷◌, ◌++◌, length, take, drop, get_or, Option, None, Some, IfSome, Result, MatchResult}
use Rattle.hms_outside.specs.declared.outage.Outage.{Outage}
use Rattle.hms_outside.specs.declared.outage.Outage.TheVariants.{Failed, NoMemory}

-- what a read gives, what stood there at the last sync, and the ranges that were written since, by place and length
pub record Lies : Type 0 where
  pub held : List ℕ
  pub synced : List ℕ
  pub dirty : List (ℕ × ℕ)

-- none of these ranges covers this place
abbrev pub Untouched : ℕ → List (ℕ × ℕ) → Type 0
Untouched i [] = ⊤
Untouched i (r ∷ rs) = ((i < r.0) ⊎ (r.0 + r.1 ≤ i)) × Untouched i rs

-- each range begins there or behind
abbrev pub AllFrom : ℕ → List (ℕ × ℕ) → Type 0
AllFrom n [] = ⊤
AllFrom n (r ∷ rs) = (n ≤ r.0) × AllFrom n rs

-- each range is that one byte
abbrev pub AllOne : ℕ → List (ℕ × ℕ) → Type 0
AllOne n [] = ⊤
AllOne n (r ∷ rs) = (r ≡ (n, 1)) × AllOne n rs

-- how far a disk of n bytes may reach after these ranges were written
abbrev pub reach : ℕ → List (ℕ × ℕ) → ℕ
reach n [] = n
reach n (r ∷ rs) = max (r.0 + r.1) (reach n rs)

-- what a crash may leave: any bytes in the ranges and past the end that was synced, and elsewhere what was synced
pub record IsImage (d : Lies) (c : List ℕ) : Type 0 where
  pub no_shorter : length d.synced ≤ length c
  pub no_longer : length c ≤ reach (length d.synced) d.dirty
  pub stays : (i : ℕ) → i < length d.synced → Untouched i d.dirty → get_or c i 0 ≡ get_or d.synced i 0

-- a disk that tells how it lies goes from one to the other in this way; one that doesn't goes on telling nothing
abbrev pub Lay : (Lies → Lies → Type 0) → Option Lies → Option Lies → Type 0
Lay step None None = ⊤
Lay step (Some old) (Some new) = step old new
Lay step None (Some new) = ⊥
Lay step (Some old) None = ⊥

-- it tells how many bytes a read of it gives
abbrev pub TellsLength : Option Lies → Result ℕ Outage → Type 0
TellsLength lies result = IfSome lies (λ d. MatchResult result (λ n. n ≡ length d.held) (λ _. ⊤))

-- the buffer was filled as far as the disk reaches
abbrev pub ReadsAt : Option Lies → ℕ → List ℕ → Result ℕ Outage → Type 0
ReadsAt lies at buf result = IfSome lies (λ d. MatchResult result (λ n. (n ≡ min (length buf) (length d.held - at)) × (take n buf ≡ take n (drop at d.held))) (λ _. ⊤))

-- these bytes over what stood there
abbrev pub written : List ℕ → ℕ → List ℕ → List ℕ
written held at bytes = take at held ++ bytes ++ drop (at + length bytes) held

-- a write of a range of n bytes, of which these came to be held
pub record HasWritten (at n : ℕ) (bytes : List ℕ) (old new : Lies) : Type 0 where
  pub held : new.held ≡ written old.held at bytes
  pub synced : new.synced ≡ old.synced
  pub dirty : new.dirty ≡ old.dirty ++ (at, n) ∷ []

-- a write; after a fault some front of the bytes may be held, and after want of memory nothing changed
abbrev pub WritesAt : {T : Type 0} → ℕ → List ℕ → Result T Outage → Lies → Lies → Type 0
WritesAt at bytes result old new = MatchResult result
    (λ _. HasWritten at (length bytes) bytes old new)
    (λ fault. elim fault [
      | Failed ↦ (new ≡ old) ⊎ ((n : ℕ) × HasWritten at (length bytes) (take n bytes) old new)
      | NoMemory ↦ new ≡ old
    ])

-- a sync: what a read gives is what a crash leaves
pub record HasSynced (old new : Lies) : Type 0 where
  pub held : new.held ≡ old.held
  pub synced : new.synced ≡ old.held
  pub dirty : new.dirty ≡ []

-- a sync; after a refusal the disk lies as before
abbrev pub Syncs : {T : Type 0} → Result T Outage → Lies → Lies → Type 0
Syncs result old new = MatchResult result (λ _. HasSynced old new) (λ _. new ≡ old)

-- in each of these states each image has P
abbrev pub EachImage : List Lies → (List ℕ → Type 0) → Type 0
EachImage [] P = ⊤
EachImage (d ∷ ds) P = ((c : List ℕ) → IsImage d c → P c) × EachImage ds P

-- A run of calls: a crash at any moment of it leaves what has P, and where the disk tells, it lies as Q says at the end.
pub record Went (before now : List Lies) (new : Option Lies) (Q : Lies → Type 0) (P : List ℕ → Type 0) : Type 0 where
  pub more : List Lies
  pub time : now ≡ before ++ more
  pub moments : EachImage more P
  pub after : IfSome new Q
