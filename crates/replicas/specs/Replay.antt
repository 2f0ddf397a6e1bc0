-- Replay of one operation of event e on a replica.
use Rattle.std.specs.Prelude.{◌≡◌, ◌⊎◌, ℕ, ◌<◌, None}
use Rattle.cat_types.specs.declared.changes.Op.{Op}
use Rattle.cat_types.specs.declared.changes.Op.TheVariants.{DropDb, DropPart, DropTable, MovePart, MoveTable, PutDb, PutPart, PutTable}
use Rattle.replicas.specs.Objects.{Name, Values, Marks, Replica, SameObjects, SameMarks}
use Rattle.replicas.specs.Operations.{touches_tab, touches_par, Fits, Done}

-- what an operation changes is absent, where it may be, or has a mark below e
abbrev pub Below : ℕ → Op → Replica → Type 0
Below e (PutDb rec) r = r.marks.db < e
Below e DropDb r = ⊥
Below e (PutTable n b rec) r = (r.objects.tab n ≡ None) ⊎ (r.marks.tab n < e)
Below e (DropTable n b) r = r.marks.tab n < e
Below e (MoveTable n b to rec) r = r.marks.tab n < e
Below e (PutPart n b v rec) r = (r.objects.par n v ≡ None) ⊎ (r.marks.par n v < e)
Below e (DropPart n b v) r = r.marks.par n v < e
Below e (MovePart n b v to rec) r = r.marks.par n v < e

-- where an operation takes effect. `Sound` is what is asked of the operation alone: names, columns and values by their rules
pub record Acts (Sound : Op → Type 0) (e : ℕ) (op : Op) (r : Replica) : Type 0 where
  pub sound : Sound op
  pub fits : Fits op r.objects
  pub below : Below e op r

-- what is put or moved gets the mark e; partitions of a moved table keep theirs
abbrev pub PutsMarks : ℕ → Op → Marks → Marks → Type 0
PutsMarks e (PutDb rec) s t = t.db ≡ e
PutsMarks e DropDb s t = t.db ≡ s.db
PutsMarks e (PutTable n b rec) s t = (t.db ≡ s.db) × (t.tab n ≡ e)
PutsMarks e (DropTable n b) s t = t.db ≡ s.db
PutsMarks e (MoveTable n b to rec) s t = (t.db ≡ s.db) × (t.tab to ≡ e) × ((w : Values) → t.par to w ≡ s.par n w)
PutsMarks e (PutPart n b v rec) s t = (t.db ≡ s.db) × (t.par n v ≡ e)
PutsMarks e (DropPart n b v) s t = t.db ≡ s.db
PutsMarks e (MovePart n b v to rec) s t = (t.db ≡ s.db) × (t.par n to ≡ e)

-- the marks behind an operation of event e that took effect: those that it touches are as it says, and all others stay
pub record Marked (e : ℕ) (op : Op) (s t : Marks) : Type 0 where
  pub tabs : (m : Name) → (touches_tab op m → ⊥) → t.tab m ≡ s.tab m
  pub parts : (m : Name) (w : Values) → (touches_par op m w → ⊥) → t.par m w ≡ s.par m w
  pub puts : PutsMarks e op s t

-- an operation of event e acted: it is done, and marks what it puts or moves
pub record TookEffect (Sound : Op → Type 0) (e : ℕ) (op : Op) (r r' : Replica) : Type 0 where
  pub acts : Acts Sound e op r
  pub objects : Done op r.objects r'.objects
  pub marks : Marked e op r.marks r'.marks

-- an operation of event e didn't act: all stays
pub record HadNoEffect (Sound : Op → Type 0) (e : ℕ) (op : Op) (r r' : Replica) : Type 0 where
  pub acts_not : Acts Sound e op r → ⊥
  pub objects : SameObjects r.objects r'.objects
  pub marks : SameMarks r.marks r'.marks

-- one operation of event e is replayed: it takes effect where it acts, and nowhere else
abbrev pub Replays : (Op → Type 0) → ℕ → Op → Replica → Replica → Type 0
Replays Sound e op r r' = TookEffect Sound e op r r' ⊎ HadNoEffect Sound e op r r'
