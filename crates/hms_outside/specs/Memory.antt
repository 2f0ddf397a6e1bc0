-- What contracts see of the memory forms.
use Rattle.std.specs.Prelude.{◌≡◌, ℕ, ◌+◌, ◌-◌, ◌^◌, ◌==◌, nat_lt, Bool, true, false, max, min, length, List, [], ◌∷◌, Option, None, Some, if◌then◌else◌, Result, IsErrOf, ◌↔◌}
use Rattle.std.specs.List.{list_any}
use Rattle.cat_values.specs.declared.text.TheConstants.{TEXT_LIMIT}
use Rattle.hms_outside.specs.Told.{Held}
use Rattle.hms_outside.specs.Disks.{Lies}
use Rattle.hms_outside.specs.declared.outage.Outage.{Outage}
use Rattle.hms_outside.specs.declared.outage.Outage.TheVariants.{Failed, NoMemory}

-- the numbers, from 0, of the calls that are to fail; how many calls there were; how many of them failed
pub record Plan : Type 0 where
  pub listed : List ℕ
  pub calls : ℕ
  pub faults : ℕ

-- whether the next call is one that is to fail
abbrev pub is_due : Plan → Bool
is_due plan = list_any (λ n. n == plan.calls) plan.listed

-- one more, where a u64 has room for it
abbrev pub one_more : ℕ → ℕ
one_more n = max n (min (n + 1) (2 ^ 64 - 1))

-- the plan after one more call, which failed or didn't
abbrev pub counted : Bool → Plan → Plan
counted failed plan = record { listed = plan.listed; calls = one_more plan.calls; faults = if failed then one_more plan.faults else plan.faults }

-- the call failed exactly where it was to, and was counted; want of memory counts nothing
pub record Planned {T : Type 0} (due : Bool) (old new : Plan) (result : Result T Outage) : Type 0 where
  pub fails : IsErrOf result Failed ↔ (due ≡ true)
  pub counts : (IsErrOf result NoMemory → ⊥) → new ≡ counted due old
  pub stays : IsErrOf result NoMemory → new ≡ old

-- a source over memory: the bytes that are left, how many of them it gives before it fails at each call, and its plan
pub record Supply : Type 0 where
  pub left : List ℕ
  pub stop : Option ℕ
  pub plan : Plan

-- whether it gives nothing more
abbrev pub is_stopped : Supply → Bool
is_stopped s = elim s.stop [ None ↦ false | Some n ↦ n == 0 ]

-- how many bytes it gives to a read of this room
abbrev pub given : Supply → ℕ → ℕ
given s room = elim s.stop [ None ↦ min room (length s.left) | Some n ↦ min (min room (length s.left)) n ]

-- a sink over memory
pub record Store : Type 0 where
  pub held : Held
  pub plan : Plan

-- how a disk lies, of its parts
abbrev pub lies_of : List ℕ → List ℕ → List (ℕ × ℕ) → Lies
lies_of held synced dirty = record { held = held; synced = synced; dirty = dirty }

-- a disk over memory: how it lies, how it lay after each call that may have changed that, and its plan
pub record Drum : Type 0 where
  pub lies : Lies
  pub past : List Lies
  pub plan : Plan

-- what a log of states lists
abbrev pub states : List (Lies × Unit {0}) → List Lies
states [] = []
states (x ∷ xs) = x.0 ∷ states xs

-- a folder over memory: its files, in rising order of their names
pub record Shelf : Type 0 where
  pub files : List (List ℕ × List ℕ)
  pub plan : Plan

-- whether a name is too long to name a file
abbrev pub cannot_name : List ℕ → Bool
cannot_name name = nat_lt TEXT_LIMIT (length name)
