-- Replicas in a store: events replayed on its catalogue and on the marks of a replica's objects.
use Rattle.std.specs.Prelude.{◌≡◌, ℕ, true, false, ◌&&◌, List, [], ◌∷◌, if◌then◌else◌}
use Rattle.cat_objects.specs.Catalogue.{Catalogue, is_name}
use Rattle.cat_objects.specs.Changes.{done_op}
use Rattle.cat_objects.specs.Lawful.{finds, is_lawful}
use Rattle.cat_objects.specs.Parts.{are_values}
use Rattle.cat_types.specs.declared.changes.Event.{Event}
use Rattle.cat_types.specs.declared.changes.Op.{Op}
use Rattle.cat_types.specs.declared.changes.Op.TheVariants.{DropDb, DropPart, DropTable, MovePart, MoveTable, PutDb, PutPart, PutTable}
use Rattle.replicas.specs.Catalogues.{is_sound, objects_of}
use Rattle.replicas.specs.Objects.{Name, Marks, Replica, SameMarks}
use Rattle.replicas.specs.Replay.{Below, Marked}
use Rattle.replicas.specs.Tests.{acts}

-- a catalogue, and the marks of the objects of one of its databases
pub record Store : Type 0 where
  pub catalogue : Catalogue
  pub marks : Marks

-- that database with its marks
abbrev pub replica_of : Name → Store → Replica
replica_of w s = record { objects = objects_of w s.catalogue; marks = s.marks }

-- an operation of event e takes effect on a replica: it is lawful there, finds what it drops, moves or stands under, and what it changes has a mark below e
pub record TakesEffect (w : Name) (e : ℕ) (op : Op) (s : Store) : Type 0 where
  pub lawful : is_lawful s.catalogue w op ≡ true
  pub found : finds s.catalogue w op ≡ true
  pub below : Below e op (replica_of w s)

-- one operation of event e replayed: where it acts, it is done on the catalogue and marks what it puts or moves; else all stays
pub record Redoes (w : Name) (born e : ℕ) (op : Op) (s t : Store) : Type 0 where
  pub does : acts is_sound e op (replica_of w s) ≡ true → (t.catalogue ≡ done_op w born s.catalogue op) × Marked e op s.marks t.marks
  pub leaves : acts is_sound e op (replica_of w s) ≡ false → (t.catalogue ≡ s.catalogue) × SameMarks s.marks t.marks

-- the operations of event e, one after the other
abbrev pub RedoesAll : Name → ℕ → ℕ → List Op → Store → Store → Type 0
RedoesAll w born e [] s t = (t.catalogue ≡ s.catalogue) × SameMarks s.marks t.marks
RedoesAll w born e (op ∷ ops) s t = (q : Store) × Redoes w born e op s q × RedoesAll w born e ops q t

-- events, one after the other
abbrev pub RedoesEvents : Name → ℕ → List Event → Store → Store → Type 0
RedoesEvents w born [] s t = (t.catalogue ≡ s.catalogue) × SameMarks s.marks t.marks
RedoesEvents w born (event ∷ events) s t = (q : Store) × RedoesAll w born event.id event.change.ops s q × RedoesEvents w born events q t

-- the marks after an operation of event e was done; those of what is gone say nothing, and stay
abbrev pub marked : ℕ → Op → Marks → Marks
marked e (PutDb rec) m = record { db = e; tab = m.tab; par = m.par }
marked e DropDb m = m
marked e (PutTable n b rec) m = record { db = m.db; tab = λ k. if is_name k n then e else m.tab k; par = m.par }
marked e (DropTable n b) m = m
marked e (MoveTable n b to rec) m = record { db = m.db; tab = λ k. if is_name k to then e else m.tab k; par = λ k w. if is_name k to then m.par n w else m.par k w }
marked e (PutPart n b v rec) m = record { db = m.db; tab = m.tab; par = λ k w. if is_name k n && are_values w v then e else m.par k w }
marked e (DropPart n b v) m = m
marked e (MovePart n b v to rec) m = record { db = m.db; tab = m.tab; par = λ k w. if is_name k n && are_values w to then e else m.par k w }

-- a store after one operation of event e was replayed on it
abbrev pub replayed : Name → ℕ → ℕ → Op → Store → Store
replayed w born e op s = if acts is_sound e op (replica_of w s) then record { catalogue = done_op w born s.catalogue op; marks = marked e op s.marks } else s
