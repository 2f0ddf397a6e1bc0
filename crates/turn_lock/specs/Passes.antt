-- What clauses say of a pass, of its lock and of a turn.
use Rattle.std.specs.Prelude.{◌≡◌, ℕ, Bool, false, List, []}
use Rattle.atomic_table.specs.Seated.{TableId}
use Rattle.turn_lock.specs.Rests.{turn_out, given}
use Rattle.turn_lock.specs.declared.view.Past.{Past}
use Rattle.turn_lock.specs.declared.pass.Pass.{Pass}
use Rattle.turn_lock.specs.declared.turn.Turn.{Turn}
use Rattle.turn_lock.specs.declared.turns.Turns.{Turns}
use Rattle.turn_lock.specs.declared.standing.Standing.{Ghosts}

module _ {T E S : Type 0} {g : Ghosts T E S} where
  -- which lock it is of
  abbrev pub lock_of : Pass T E S g → TableId
  lock_of p = p.seat.table_id

  -- its caller number, what it has seen, and its own entries
  abbrev pub past_of : Pass T E S g → Past E
  past_of p = p.seat.me.0.past

  -- its caller number
  abbrev pub caller_of : Pass T E S g → ℕ
  caller_of p = p.caller

  -- the list that it has seen
  abbrev pub seen_of : Pass T E S g → List E
  seen_of p = (past_of p).seen

  -- its own entries in that list
  abbrev pub calls_of : Pass T E S g → List E
  calls_of p = (past_of p).mine

  -- the start of the list
  abbrev pub start_of : Pass T E S g → S
  start_of p = given p.seat.me.0.start p.started

  -- how many passes were split off it
  abbrev pub splits_of : Pass T E S g → ℕ
  splits_of p = p.splits

  -- how many passes joined it
  abbrev pub joins_of : Pass T E S g → ℕ
  joins_of p = p.joins

  -- what the passes that joined it had seen and done, the earliest first
  abbrev pub joined_of : Pass T E S g → List (Past E)
  joined_of p = p.seat.me.0.joined

  -- whether a turn of it is out
  abbrev pub is_out : Pass T E S g → Bool
  is_out p = turn_out p.seat.me.0.stage

  -- it is the pass that came with the lock
  abbrev pub IsFirst : Pass T E S g → Type 0
  IsFirst p = p.seat.id ≡ 0

  -- it is a pass of this lock
  abbrev pub IsPassOf : Turns T E S → Pass T E S g → Type 0
  IsPassOf turns p = lock_of p ≡ turns.table.shared.table_id

module _ {T : Type 0} where
  -- the value that a turn lends
  abbrev pub value_of : Turn T → T
  value_of turn = turn.value

-- it is the same pass: of the same lock, with the same caller number and the same start, and the first one or not, as it was
pub record IsSamePass {T E S : Type 0} {g : Ghosts T E S} (old new : Pass T E S g) : Type 0 where
  pub lock : lock_of new ≡ lock_of old
  pub first : new.seat.id ≡ old.seat.id
  pub caller : caller_of new ≡ caller_of old
  pub start : start_of new ≡ start_of old

-- nothing was split off it, and nothing joined it
pub record HasSameJoins {T E S : Type 0} {g : Ghosts T E S} (old new : Pass T E S g) : Type 0 where
  pub splits : splits_of new ≡ splits_of old
  pub joins : joins_of new ≡ joins_of old
  pub joined : joined_of new ≡ joined_of old

-- it has this caller number and has seen this list, has no entry and no turn out, and nothing was split off it or joined it
pub record IsNewcomer {T E S : Type 0} {g : Ghosts T E S} (caller : ℕ) (seen : List E) (p : Pass T E S g) : Type 0 where
  pub caller_is : caller_of p ≡ caller
  pub past_is : past_of p ≡ record { caller = caller; seen = seen; mine = [] }
  pub inside : is_out p ≡ false
  pub splits : splits_of p ≡ 0
  pub joins : joins_of p ≡ 0
  pub joined : joined_of p ≡ []
