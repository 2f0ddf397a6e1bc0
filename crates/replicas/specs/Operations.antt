-- What an operation touches, where it fits, and what it does. The same words serve the source and the replica.
use Rattle.std.specs.Prelude.{◌≡◌, ◌⊎◌, ℕ, length, Option, Some, None}
use Rattle.cat_types.specs.declared.changes.Op.{Op}
use Rattle.cat_types.specs.declared.changes.Op.TheVariants.{DropDb, DropPart, DropTable, MovePart, MoveTable, PutDb, PutPart, PutTable}
use Rattle.cat_values.specs.declared.records.DbRec.{DbRec}
use Rattle.replicas.specs.Objects.{Name, Values, Table, Objects, Has, HasBorn, Takes}

-- whether an operation changes the database's record
abbrev pub touches_db : Op → Type 0
touches_db (PutDb rec) = Unit {0}
touches_db DropDb = ⊥
touches_db (PutTable n b rec) = ⊥
touches_db (DropTable n b) = ⊥
touches_db (MoveTable n b to rec) = ⊥
touches_db (PutPart n b v rec) = ⊥
touches_db (DropPart n b v) = ⊥
touches_db (MovePart n b v to rec) = ⊥

-- whether it changes the table with a name, or makes or takes it
abbrev pub touches_tab : Op → Name → Type 0
touches_tab (PutDb rec) m = ⊥
touches_tab DropDb m = ⊥
touches_tab (PutTable n b rec) m = m ≡ n
touches_tab (DropTable n b) m = m ≡ n
touches_tab (MoveTable n b to rec) m = (m ≡ n) ⊎ (m ≡ to)
touches_tab (PutPart n b v rec) m = ⊥
touches_tab (DropPart n b v) m = ⊥
touches_tab (MovePart n b v to rec) m = ⊥

-- whether it changes the partition with a name and values, or makes or takes it: a table that is dropped or moved takes its partitions along
abbrev pub touches_par : Op → Name → Values → Type 0
touches_par (PutDb rec) m w = ⊥
touches_par DropDb m w = ⊥
touches_par (PutTable n b rec) m w = ⊥
touches_par (DropTable n b) m w = m ≡ n
touches_par (MoveTable n b to rec) m w = (m ≡ n) ⊎ (m ≡ to)
touches_par (PutPart n b v rec) m w = (m ≡ n) × (w ≡ v)
touches_par (DropPart n b v) m w = (m ≡ n) × (w ≡ v)
touches_par (MovePart n b v to rec) m w = (m ≡ n) × ((w ≡ v) ⊎ (w ≡ to))

-- a table that is put over a present one has its born and its number of keys
abbrev pub FitsOver : ℕ → ℕ → Option Table → Type 0
FitsOver b keys o = (t : Table) → o ≡ Some t → (t.0 ≡ b) × (length t.1.keys ≡ keys)

-- where an operation fits: what it drops, moves or stands under is there with its born, and what it puts agrees with what is there
abbrev pub Fits : Op → Objects → Type 0
Fits (PutDb rec) s = Has s.db
Fits DropDb s = ⊥
Fits (PutTable n b rec) s = FitsOver b (length rec.keys) (s.tab n)
Fits (DropTable n b) s = HasBorn b (s.tab n)
Fits (MoveTable n b to rec) s = HasBorn b (s.tab n) × FitsOver b (length rec.keys) (s.tab n) × (s.tab to ≡ None)
Fits (PutPart n b v rec) s = Takes b (length v) (s.tab n)
Fits (DropPart n b v) s = HasBorn b (s.tab n) × Has (s.par n v)
Fits (MovePart n b v to rec) s = Takes b (length to) (s.tab n) × Has (s.par n v) × (s.par n to ≡ None)

-- a database with another record, which keeps its born
abbrev pub with_record : DbRec → Option (ℕ × DbRec) → Option (ℕ × DbRec)
with_record rec None = None
with_record rec (Some h) = Some (h.0, rec)

-- what stands behind an operation where it touches
abbrev pub Puts : Op → Objects → Objects → Type 0
Puts (PutDb rec) s t = t.db ≡ with_record rec s.db
Puts DropDb s t = t.db ≡ s.db
Puts (PutTable n b rec) s t = (t.db ≡ s.db) × (t.tab n ≡ Some (b, rec))
Puts (DropTable n b) s t = (t.db ≡ s.db) × (t.tab n ≡ None) × ((w : Values) → t.par n w ≡ None)
Puts (MoveTable n b to rec) s t = (t.db ≡ s.db) × (t.tab n ≡ None) × (t.tab to ≡ Some (b, rec)) × ((w : Values) → t.par n w ≡ None) × ((w : Values) → t.par to w ≡ s.par n w)
Puts (PutPart n b v rec) s t = (t.db ≡ s.db) × (t.par n v ≡ Some rec)
Puts (DropPart n b v) s t = (t.db ≡ s.db) × (t.par n v ≡ None)
Puts (MovePart n b v to rec) s t = (t.db ≡ s.db) × (t.par n v ≡ None) × (t.par n to ≡ Some rec)

-- an operation is done: what it touches is as it says, and all else stays
pub record Done (op : Op) (s t : Objects) : Type 0 where
  pub tabs : (m : Name) → (touches_tab op m → ⊥) → t.tab m ≡ s.tab m
  pub parts : (m : Name) (w : Values) → (touches_par op m w → ⊥) → t.par m w ≡ s.par m w
  pub puts : Puts op s t
