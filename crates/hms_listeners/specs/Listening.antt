-- What a listener hands out and takes back.
use Rattle.std.specs.Prelude.{◌≡◌, ℕ, List, [], ◌∷◌, ◌++◌, Option, Some, IfSome}
use Rattle.hms_outside.specs.Told.{Goes, Held}

-- a connection that was handed back: what its sink held, where that is known, and how often its source and its sink had failed
pub record Returned : Type 0 where
  pub held : Option Held
  pub source_faults : ℕ
  pub sink_faults : ℕ

-- a connection that was handed back, of its parts
abbrev pub as_returned : Option Held → ℕ → ℕ → Returned
as_returned held source_faults sink_faults = record { held = held; source_faults = source_faults; sink_faults = sink_faults }

-- this one was added behind those before it
abbrev pub Appended : Returned → List Returned → List Returned → Type 0
Appended last old new = new ≡ old ++ last ∷ []

-- a listener that tells its inputs took the first of them off, and that is what the source has left
abbrev pub HandsOut : Option (List (List ℕ)) → Option (List (List ℕ)) → Option (List ℕ) → Type 0
HandsOut old new left = Goes (λ inputs after. (first : List ℕ) × (inputs ≡ first ∷ after) × (left ≡ Some first)) old new

-- a sink that tells holds no byte, and wasn't flushed
abbrev pub HoldsNothing : Option Held → Type 0
HoldsNothing held = IfSome held (λ h. h ≡ record { bytes = []; flushes = [] })
