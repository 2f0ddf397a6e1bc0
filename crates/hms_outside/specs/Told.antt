-- What an outside object tells of itself, and how calls change it.
use Rattle.std.specs.Prelude.{◌≡◌, ℕ, ◌+◌, ⊤, List, [], ◌∷◌, ◌++◌, length, take, Option, None, Some, Result, MatchResult}

-- an object that tells goes from one to the other in this way, and goes on telling
abbrev pub Goes : {X : Type 0} → (X → X → Type 0) → Option X → Option X → Type 0
Goes step None new = ⊤
Goes step (Some old) None = ⊥
Goes step (Some old) (Some new) = step old new

-- nothing changed
abbrev pub Same : {X : Type 0} → X → X → Type 0
Same old new = new ≡ old

-- the bytes that a sink holds, and how many it held at each flush
pub record Held : Type 0 where
  pub bytes : List ℕ
  pub flushes : List ℕ

-- these bytes were added, and nothing was flushed
pub record Grew (bytes : List ℕ) (old new : Held) : Type 0 where
  pub bytes_grew : new.bytes ≡ old.bytes ++ bytes
  pub flushes_stay : new.flushes ≡ old.flushes

-- a flush was counted
pub record Flushed (old new : Held) : Type 0 where
  pub bytes_stay : new.bytes ≡ old.bytes
  pub flushes_grew : new.flushes ≡ old.flushes ++ length old.bytes ∷ []

-- these bytes were added whole, and flushed
pub record Sent (bytes : List ℕ) (old new : Held) : Type 0 where
  pub bytes_grew : new.bytes ≡ old.bytes ++ bytes
  pub flushes_grew : new.flushes ≡ old.flushes ++ (length old.bytes + length bytes) ∷ []

-- what a write answered and did
abbrev pub Writes : {E : Type 0} → Option Held → Option Held → Result ℕ E → List ℕ → Type 0
Writes old new result bytes = MatchResult result (λ n. Goes (Grew (take n bytes)) old new) (λ _. Goes (Grew []) old new)

-- what a flush answered and did
abbrev pub Flushes : {T E : Type 0} → Option Held → Option Held → Result T E → Type 0
Flushes old new result = MatchResult result (λ _. Goes Flushed old new) (λ _. Goes (Grew []) old new)
