-- What each step of the lock tells the pass that does it.
use Rattle.std.specs.Prelude.{◌≡◌, ℕ, ◌+◌, ◌≤◌, ◌%◌, ◌^◌, ◌==◌, List, [], ◌∷◌, ◌++◌, length, MatchBool, Option, Some, None}
use Rattle.atomic_table.specs.Table.{Step, Me}
use Rattle.turn_lock.specs.Histories.{own, Begins}
use Rattle.turn_lock.specs.declared.view.Stage.{Stage}
use Rattle.turn_lock.specs.declared.view.Stage.TheVariants.{Spent, Idle, Waits, Holds, Leaves}
use Rattle.turn_lock.specs.declared.view.View.{View}

module _ {E S : Type 0} where
  -- the view at another stage
  abbrev pub staged : View E S → Stage E → View E S
  staged v stage = record { start = v.start; past = v.past; stage = stage; splits = v.splits; joined = v.joined }

  -- the view of a pass that holds the value and has seen the whole history
  abbrev pub holding : View E S → ℕ → List E → View E S
  holding v n log = record { start = v.start; past = record { caller = v.past.caller; seen = log; mine = v.past.mine }; stage = Holds n; splits = v.splits; joined = v.joined }

  -- the view with one entry more, seen and its own
  abbrev pub with_entry : View E S → E → View E S
  with_entry v e = record { start = v.start; past = record { caller = v.past.caller; seen = v.past.seen ++ e ∷ []; mine = v.past.mine ++ e ∷ [] }; stage = Idle; splits = v.splits; joined = v.joined }

  -- a pass that has made no entry
  abbrev pub newcomer : Option S → ℕ → List E → View E S
  newcomer start caller seen = record { start = start; past = record { caller = caller; seen = seen; mine = [] }; stage = Idle; splits = 0; joined = [] }

  -- the first pass, split once more
  abbrev pub one_more : View E S → View E S
  one_more v = record { start = v.start; past = v.past; stage = v.stage; splits = v.splits + 1; joined = v.joined }

  -- the pass that is split off: the next caller number, and the same seen list
  abbrev pub newcomer_of : View E S → View E S
  newcomer_of v = newcomer v.start (v.splits + 1) v.past.seen

  -- the first pass with the past of another one
  abbrev pub with_pass : View E S → View E S → View E S
  with_pass v w = record { start = v.start; past = v.past; stage = v.stage; splits = v.splits; joined = v.joined ++ w.past ∷ [] }

  -- what is left of a pass that was joined
  abbrev pub spent : View E S
  spent = record { start = None; past = record { caller = 0; seen = []; mine = [] }; stage = Spent; splits = 0; joined = [] }

module _ {T E S : Type 0} where
  -- a number was drawn
  abbrev pub Drew : Step T → Me T (View E S) → ℕ → Me T (View E S) → Type 0
  Drew s before found after = (n : ℕ) × (found ≡ n % 2 ^ 64) × (after ≡ (staged before.0 (Waits n), before.1))

  -- the entry was published
  abbrev pub Published : Step T → Me T (View E S) → ℕ → Me T (View E S) → Type 0
  Published s before found after = (n : ℕ) (e : E) → before.0.stage ≡ Leaves n e → after ≡ (with_entry before.0 e, before.1)

  -- no more passes were joined than were split off
  abbrev pub Counted : Step T → Me T (View E S) → ℕ → Me T (View E S) → Type 0
  Counted s before found after = (after ≡ before) × (length before.0.joined ≤ before.0.splits)

  -- the value was taken, and stands for a history that begins with what the pass has seen and in which its own entries are those that it made
  abbrev pub Took : (E → ℕ) → (Option S → T → List E → Type 0) → ℕ → Me (Option T) (View E S) → Me (Option T) (View E S) → Type 0
  Took by stands n before after =
      (log : List E) × (x : T) × stands before.0.start x log × Begins before.0.past.seen log × (own by before.0.past.caller log ≡ before.0.past.mine)
      × (own by before.0.past.caller before.0.past.seen ≡ before.0.past.mine) × (after ≡ (holding before.0 n log, (0, Some x) ∷ before.1))

  -- the number served was looked at: where it is the pass's own, the value was taken, and else nothing is new
  abbrev pub Looked : (E → ℕ) → (Option S → T → List E → Type 0) → Step (Option T) → Me (Option T) (View E S) → ℕ → Me (Option T) (View E S) → Type 0
  Looked by stands s before found after = (n : ℕ) → before.0.stage ≡ Waits n → MatchBool (found == n % 2 ^ 64) (Took by stands n before after) (after ≡ before)

  -- the value was given back with one entry more of this caller, which is not published yet
  abbrev pub Settled : (E → ℕ) → (Option S → T → List E → Type 0) → Step (Option T) → Me (Option T) (View E S) → ℕ → Me (Option T) (View E S) → Type 0
  Settled by stands s before found after =
      (x : T) × (n : ℕ) × (e : E) × (before.1 ≡ (0, Some x) ∷ []) × (before.0.stage ≡ Holds n) × (by e ≡ before.0.past.caller)
      × stands before.0.start x (before.0.past.seen ++ e ∷ []) × (after ≡ (staged before.0 (Leaves n e), []))
