-- What a replica stands for: between its items and its last event, and at an event.
use Rattle.std.specs.Prelude.{◌≡◌, ℕ, ◌<◌, ◌≤◌, max, List, [], ◌∷◌, None, Some}
use Rattle.cat_types.specs.declared.changes.Event.{Event}
use Rattle.cat_types.specs.declared.changes.Op.{Op}
use Rattle.cat_values.specs.declared.records.DbRec.{DbRec}
use Rattle.cat_values.specs.declared.records.PartRec.{PartRec}
use Rattle.replicas.specs.Objects.{Name, Values, Table, Objects, Replica, Has, Together, IsPart, SameObjects, SameMarks}
use Rattle.replicas.specs.Replay.{Replays}

-- some number from `at` to `end`
pub record Somewhere (after : ℕ → Objects) (at end : ℕ) (P : Objects → Type 0) : Type 0 where
  pub number : ℕ
  pub above : at ≤ number
  pub within : number ≤ end
  pub is : P (after number)

-- a present object has a mark up to `end`, and is as after its mark or after `at`, the later of the two
pub record AsMarked (after : ℕ → Objects) (at end mark : ℕ) (P : Objects → Type 0) : Type 0 where
  pub within : mark ≤ end
  pub is : P (after (max mark at))

-- a present partition stands under a present table, and is as after its mark or after `at`, under a table with that born
pub record UnderTable (after : ℕ → Objects) (at end : ℕ) (r : Replica) (n : Name) (w : Values) (p : PartRec) : Type 0 where
  pub table : Table
  pub there : r.objects.tab n ≡ Some table
  pub part : AsMarked after at end (r.marks.par n w) (IsPart table.0 n w p)

-- all items of the dump with this begin and end stand, and its events up to `at` were replayed
pub record StandsEvents (after : ℕ → Objects) (begin at end : ℕ) (r : Replica) : Type 0 where
  pub begun : begin ≤ at
  pub in_range : at ≤ end
  pub db_there : Has r.objects.db
  pub db : (h : ℕ × DbRec) → r.objects.db ≡ Some h → AsMarked after at end r.marks.db (λ y. y.db ≡ Some h)
  pub tables : (n : Name) (x : Table) → r.objects.tab n ≡ Some x → AsMarked after at end (r.marks.tab n) (λ y. y.tab n ≡ Some x)
  pub absent : (n : Name) → r.objects.tab n ≡ None → Somewhere after at end (λ y. y.tab n ≡ None)
  pub parts : (n : Name) (w : Values) (p : PartRec) → r.objects.par n w ≡ Some p → UnderTable after at end r n w p
  pub missing : (b : ℕ) (n : Name) (w : Values) → (Together b n w r.objects → ⊥) → Somewhere after at end (λ y. Together b n w y → ⊥)

-- the marks of present objects are at most `at`
pub record MarksUpTo (at : ℕ) (r : Replica) : Type 0 where
  pub db : r.marks.db ≤ at
  pub tabs : (n : Name) (x : Table) → r.objects.tab n ≡ Some x → r.marks.tab n ≤ at
  pub parts : (n : Name) (w : Values) (p : PartRec) → r.objects.par n w ≡ Some p → r.marks.par n w ≤ at

-- the replica is at event `at`
pub record StandsLive (after : ℕ → Objects) (at : ℕ) (r : Replica) : Type 0 where
  pub db_there : Has r.objects.db
  pub objects : SameObjects (after at) r.objects
  pub marks : MarksUpTo at r

-- the operations of event e, one after the other
abbrev pub ReplaysAll : (Op → Type 0) → ℕ → List Op → Replica → Replica → Type 0
ReplaysAll Sound e [] r r' = SameObjects r.objects r'.objects × SameMarks r.marks r'.marks
ReplaysAll Sound e (op ∷ ops) r r' = (q : Replica) × Replays Sound e op r q × ReplaysAll Sound e ops q r'

-- events, one after the other
abbrev pub ReplaysEvents : (Op → Type 0) → List Event → Replica → Replica → Type 0
ReplaysEvents Sound [] r r' = SameObjects r.objects r'.objects × SameMarks r.marks r'.marks
ReplaysEvents Sound (e ∷ es) r r' = (q : Replica) × ReplaysAll Sound e.id e.change.ops r q × ReplaysEvents Sound es q r'

-- between two numbers there is no operation
abbrev pub Quiet : (ℕ → List Op) → ℕ → ℕ → Type 0
Quiet ops from to = (k : ℕ) → from < k → k ≤ to → ops k ≡ []

-- the events are all those above `at` and up to `end` that have operations
abbrev pub AreEvents : (ℕ → List Op) → ℕ → ℕ → List Event → Type 0
AreEvents ops at end [] = Quiet ops at end
AreEvents ops at end (e ∷ es) = (at < e.id) × (e.id ≤ end) × ((k : ℕ) → at < k → k < e.id → ops k ≡ []) × (ops e.id ≡ e.change.ops) × AreEvents ops e.id end es

-- the number of the last event, or `at` where there is none
abbrev pub reached : ℕ → List Event → ℕ
reached at [] = at
reached at (e ∷ es) = reached e.id es
