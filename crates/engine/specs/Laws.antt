-- What follows of opening stores.
use Rattle.std.specs.Prelude.{◌≡◌, ℕ, true, false, List}
use Rattle.desk.specs.History.{Entry, Point, next, took}
use Rattle.desk.specs.State.{State, due, durable, is_refused, writes}
use Rattle.engine.specs.Keeping.{Kept}
use Rattle.engine.specs.Opening.{IsBrokenStore, Opens}
use Rattle.ms_journal.specs.Files.{IsForeign}

-- A file opens to one state.
abbrev pub StoresOpenOneWay : Type 0
StoresOpenOneWay = (c : List ℕ) (s t : State) → Opens c s → Opens c t → s ≡ t

-- A file that opens is neither foreign nor broken.
abbrev pub StoresOpen : Type 0
StoresOpen = (c : List ℕ) (s : State) (at : ℕ) → Opens c s → (IsForeign c → ⊥) × (IsBrokenStore at c → ⊥)

-- A file is broken at one place.
abbrev pub StoresBreakAtOnePlace : Type 0
StoresBreakAtOnePlace = (c : List ℕ) (at at2 : ℕ) → IsBrokenStore at c → IsBrokenStore at2 c → at ≡ at2

-- A file that is kept where a writing step was just accepted opens to what that step made.
abbrev pub AcceptedStepsAreKept : Type 0
AcceptedStepsAreKept = (p : Point) (e : Entry) (c : List ℕ) → writes p.state e.0.step ≡ true → is_refused e.1.answer ≡ false → Kept (next p (took e)) c → Opens c (durable (due p.state e.0.caller e.0.step).state)
