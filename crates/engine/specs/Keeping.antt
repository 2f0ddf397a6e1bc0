-- Which bytes are kept for a history, and what a crash may leave of a run.
use Rattle.std.specs.Prelude.{◌≡◌, ◌⊎◌, ℕ, List, [], ◌∷◌, ◌++◌, map, Option, IfSome}
use Rattle.desk.specs.History.{Entry, MayReopen, Point, Start, found_done, next, point_after, point_of, reopened, state_found, took}
use Rattle.desk.specs.State.{State}
use Rattle.engine.specs.Opening.{Opens}
use Rattle.hms_outside.specs.Disks.{EachImage, IsImage, Lies}

-- a file is kept for a history that stands at this point: it opens to what is on the disks there, or to what a step that may yet be found done makes of it
pub record Kept (p : Point) (c : List ℕ) : Type 0 where
  pub done : Option ℕ
  pub may : MayReopen done p.pending
  pub opens : Opens c (state_found p.state (found_done done p.pending))

-- while a step runs: kept without its entry, or with it
abbrev pub KeptMeanwhile : Point → Entry → List ℕ → Type 0
KeptMeanwhile p e c = Kept p c ⊎ Kept (next p (took e)) c

-- a crash now leaves what is kept
abbrev pub LeavesKept : Point → Lies → Type 0
LeavesKept p d = (c : List ℕ) → IsImage d c → Kept p c

-- a crash now leaves what opens to this state
abbrev pub LeavesState : State → Lies → Type 0
LeavesState state d = (c : List ℕ) → IsImage d c → Opens c state

-- a start is where a history stands behind one opening more
pub record IsReopened (p : Point) (s : Start) : Type 0 where
  pub done : Option ℕ
  pub may : MayReopen done p.pending
  pub point : point_of s ≡ next p (reopened done s.fault)

-- what a disk went through while these entries came, in order: while a step ran, each image was kept for the entries before it, without its own or with it
abbrev pub KeptInTurn : Point → List Entry → List Lies → Type 0
KeptInTurn p [] more = more ≡ []
KeptInTurn p (e ∷ es) more = (its : List Lies) × (later : List Lies) × (more ≡ its ++ later) × EachImage its (KeptMeanwhile p e) × KeptInTurn (next p (took e)) es later

-- A run with these entries, over a disk that had gone through `past` before: a crash at any moment of it leaves what is kept for the entries before that moment, without the running one or with it; and a crash now leaves what is kept for them all.
pub record KeptSince (p : Point) (es : List Entry) (past now : List Lies) (lies : Option Lies) : Type 0 where
  pub more : List Lies
  pub time : now ≡ past ++ more
  pub in_turn : KeptInTurn p es more
  pub after : IfSome lies (LeavesKept (point_after p (map took es)))
