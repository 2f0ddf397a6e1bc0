-- The events of a source as one database sees them, and the life of that database under one born.
use Rattle.std.specs.Prelude.{◌≡◌, ◌⊎◌, ℕ, ◌+◌, ◌<◌, ◌≤◌, ◌==◌, ◌&&◌, if◌then◌else◌, List, [], ◌∷◌, Some, None, Bool, nat_lt, bytes_eq}
use Rattle.cat_types.specs.declared.changes.Change.{Change}
use Rattle.cat_types.specs.declared.changes.Event.{Event}
use Rattle.cat_types.specs.declared.changes.Op.{Op}
use Rattle.cat_values.specs.declared.records.DbRec.{DbRec}
use Rattle.replicas.specs.Objects.{Name, Values, Objects, SameObjects}
use Rattle.replicas.specs.Source.{AllApart, Each, Steps}

-- the database is there with that born
pub record HasDb (b : ℕ) (s : Objects) : Type 0 where
  pub held : ℕ × DbRec
  pub is : s.db ≡ Some held
  pub born : held.0 ≡ b

-- a new database: it has that born, and nothing in it
pub record BeginsEmpty (b : ℕ) (s : Objects) : Type 0 where
  pub db : HasDb b s
  pub no_tables : (n : Name) → s.tab n ≡ None
  pub no_parts : (n : Name) (w : Values) → s.par n w ≡ None

-- event k, as the database w sees it: it is of another one; it makes w; it drops w; or it is of another call on w
pub data Happened (Sound : Op → Type 0) (w : Name) (k : ℕ) (c : Change) (s u : Objects) : Type 0 where
  elsewhere : (c.db ≡ w → ⊥) → SameObjects s u → Happened Sound w k c s u
  created : s.db ≡ None → BeginsEmpty k u → Happened Sound w k c s u
  dropped : u.db ≡ None → Happened Sound w k c s u
  called : c.db ≡ w → HasDb c.db_born s → Steps k c.ops s u → AllApart c.ops → Each Sound c.ops → Happened Sound w k c s u

-- the objects of w after each number, and the changes by number
pub record Life (Sound : Op → Type 0) (w : Name) (seen : ℕ → Objects) (changes : ℕ → Change) (base newest : ℕ) : Type 0 where
  pub start : ((seen base).db ≡ None) ⊎ BeginsEmpty base (seen base)
  pub happened : (e : ℕ) → base ≤ e → e < newest → Happened Sound w (e + 1) (changes (e + 1)) (seen e) (seen (e + 1))

-- the operations of the events of w under that born
abbrev pub ops_of : Name → ℕ → (ℕ → Change) → ℕ → List Op
ops_of w b changes k = if bytes_eq (changes k).db w && ((changes k).db_born == b) then (changes k).ops else []

-- events with one number after the other, from behind `at` up to `end`
abbrev pub AreNumbered : (ℕ → Change) → ℕ → ℕ → List Event → Type 0
AreNumbered changes at end [] = at ≡ end
AreNumbered changes at end (e ∷ es) = (e.id ≡ at + 1) × (e.change ≡ changes (at + 1)) × AreNumbered changes (at + 1) end es

-- an event of the database under that born
abbrev pub is_of : Name → ℕ → Event → Bool
is_of w b e = bytes_eq e.change.db w && (e.change.db_born == b)

-- an event above a number
abbrev pub is_above : ℕ → Event → Bool
is_above at e = nat_lt at e.id
