-- What the lock keeps. One word counts the turn numbers that were drawn, the other those that were served, both modulo 2^64. The one slot has the value, or nothing while a pass holds it.
use Rattle.std.specs.Prelude.{◌≡◌, ◌≢◌, ◌⊎◌, ℕ, ◌+◌, ◌<◌, ◌≤◌, ◌%◌, ◌^◌, List, [], ◌∷◌, ◌++◌, length, Option, Some}
use mathlib.Core.Option.{some, none}
use mathlib.Core.Option as Homed
use lib.ListN.{get_elem?}
use Rattle.atomic_table.specs.Table.{State}
use Rattle.turn_lock.specs.Histories.{own, Fits}
use Rattle.turn_lock.specs.declared.view.Past.{Past}
use Rattle.turn_lock.specs.declared.view.Stage.{Stage}
use Rattle.turn_lock.specs.declared.view.Stage.TheVariants.{Spent, Idle, Waits, Holds, Leaves}
use Rattle.turn_lock.specs.declared.view.View.{View}

-- where the value is: in the slot; with a pass; in the slot again, with one entry that is published next
pub data Place (E : Type 0) : Type 0 where
  at_home : Place E
  away : Place E
  settled : E → Place E

module _ {E : Type 0} where
  -- the turn number that a pass has, which is its turn's place in the history
  abbrev pub number_of : Stage E → Homed.Option ℕ
  number_of Spent = none
  number_of Idle = none
  number_of (Waits n) = some n
  number_of (Holds n) = some n
  number_of (Leaves n e) = some n

  -- 1 for a pass that has a turn number
  abbrev pub out_of : Stage E → ℕ
  out_of Spent = 0
  out_of Idle = 0
  out_of (Waits n) = 1
  out_of (Holds n) = 1
  out_of (Leaves n e) = 1

  -- 1 for a pass that was not joined
  abbrev pub live_of : Stage E → ℕ
  live_of Spent = 0
  live_of Idle = 1
  live_of (Waits n) = 1
  live_of (Holds n) = 1
  live_of (Leaves n e) = 1

  -- a pass that waits is served later, or now while the value is at home; one that holds the value or leaves is served now and has seen all
  abbrev pub StageFits : (E → ℕ) → List E → ℕ → Place E → Past E → Stage E → Type 0
  StageFits by log drawn place past Spent = Unit {0}
  StageFits by log drawn place past Idle = Unit {0}
  StageFits by log drawn place past (Waits n) = (length log ≤ n) × (n < drawn) × ((place ≡ at_home) ⊎ (length log < n))
  StageFits by log drawn place past (Holds n) = (n ≡ length log) × (n < drawn) × (place ≡ away) × (past.seen ≡ log)
  StageFits by log drawn place past (Leaves n e) = (n ≡ length log) × (n < drawn) × (place ≡ settled e) × (past.seen ≡ log) × (by e ≡ past.caller)

module _ {E S : Type 0} where
  -- a weight of each pass, added up
  abbrev pub tally : (Stage E → ℕ) → List (View E S) → ℕ
  tally f [] = 0
  tally f (v ∷ vs) = f v.stage + tally f vs

-- a pass fits the history, and its caller number was given out
pub record Told {E : Type 0} (by : E → ℕ) (log : List E) (splits : ℕ) (past : Past E) : Type 0 where
  pub fits : Fits by log past
  pub known : past.caller ≤ splits

-- a pass that was not joined knows the start, and its past and its stage fit
pub record ViewFits {E S : Type 0} (by : E → ℕ) (start : Option S) (log : List E) (drawn splits : ℕ) (place : Place E) (v : View E S) : Type 0 where
  pub start_known : v.start ≡ start
  pub past : Told by log splits v.past
  pub stage : StageFits by log drawn place v.past v.stage

-- what all passes know
pub record Passes {E S : Type 0} (by : E → ℕ) (start : Option S) (log : List E) (drawn splits : ℕ) (joined : List (Past E)) (place : Place E) (views : List (View E S)) : Type 0 where
  -- the first pass counts the splits and keeps the passes that were joined
  pub first : (v : View E S) → get_elem? views 0 ≡ some v → (v.splits ≡ splits) × (v.joined ≡ joined)
  -- each pass that was not joined fits, and so does each joined one
  pub fits : (i : ℕ) (v : View E S) → get_elem? views i ≡ some v → live_of v.stage ≡ 1 → ViewFits by start log drawn splits place v
  pub told : (j : ℕ) (p : Past E) → get_elem? joined j ≡ some p → Told by log splits p
  -- no two of these have one caller number, and no two passes one turn number
  pub callers : (i j : ℕ) (v w : View E S) → get_elem? views i ≡ some v → get_elem? views j ≡ some w → live_of v.stage ≡ 1 → live_of w.stage ≡ 1 → v.past.caller ≡ w.past.caller → i ≡ j
  pub strange : (i j : ℕ) (p : Past E) (v : View E S) → get_elem? joined i ≡ some p → get_elem? views j ≡ some v → live_of v.stage ≡ 1 → p.caller ≢ v.past.caller
  pub once : (i j : ℕ) (p q : Past E) → get_elem? joined i ≡ some p → get_elem? joined j ≡ some q → p.caller ≡ q.caller → i ≡ j
  pub numbers : (i j n : ℕ) (v w : View E S) → get_elem? views i ≡ some v → get_elem? views j ≡ some w → number_of v.stage ≡ some n → number_of w.stage ≡ some n → i ≡ j
  -- no entry of a caller number that was not given out
  pub none_later : (caller : ℕ) → splits < caller → own by caller log ≡ []

module _ {T E S : Type 0} where
  -- the value stands for this history from this start
  abbrev pub HasHistory : (T → List E) → (T → S) → Option S → T → List E → Type 0
  HasHistory history start from x log = (history x ≡ log) × (Some (start x) ≡ from)

module _ {T E : Type 0} where
  -- what the slot has: the value that stands for the history, nothing, or the value with the entry that is published next
  abbrev pub Lies : (T → List E → Type 0) → List E → Place E → List (Homed.Option (Option T)) → Type 0
  Lies stands log at_home homes = (x : T) × (homes ≡ some (Some x) ∷ []) × stands x log
  Lies stands log away homes = homes ≡ none ∷ []
  Lies stands log (settled e) homes = (x : T) × (homes ≡ some (Some x) ∷ []) × stands x (log ++ e ∷ [])

-- the rule of the lock, which holds between any two steps
pub record Kept {T E S : Type 0} (by : E → ℕ) (stands : Option S → T → List E → Type 0) (start : Option S) (s : State (Option T) (View E S)) : Type 0 where
  pub log : List E
  pub drawn : ℕ
  pub splits : ℕ
  pub joined : List (Past E)
  pub place : Place E
  -- the numbers drawn, and the length of the history, modulo 2^64
  pub words : s.words ≡ drawn % 2 ^ 64 ∷ length log % 2 ^ 64 ∷ []
  pub lies : Lies (stands start) log place s.homes
  -- the numbers that were drawn and not served are with the passes that have one
  pub out : drawn ≡ length log + tally out_of s.views
  -- the value is out of its place only while a number is served
  pub due : (place ≡ at_home) ⊎ (length log < drawn)
  -- the passes that were not joined are those that were split off and the first, less those that were joined
  pub live : tally live_of s.views + length joined ≡ splits + 1
  pub few : splits < 4294967295
  pub passes : Passes by start log drawn splits joined place s.views
