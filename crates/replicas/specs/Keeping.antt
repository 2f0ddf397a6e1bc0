-- What replayed events leave as it is.
use Rattle.std.specs.Prelude.{◌≡◌, ◌⊎◌, ℕ, ◌≤◌, Some}
use Rattle.cat_values.specs.declared.records.PartRec.{PartRec}
use Rattle.replicas.specs.Objects.{Name, Values, Table, Objects, Has, Replica}

-- the database has the record and the mark that it had
pub record SameDb (r r' : Replica) : Type 0 where
  pub object : r'.objects.db ≡ r.objects.db
  pub mark : r'.marks.db ≡ r.marks.db

-- the table with this name is as it was, and so is its mark
pub record SameTable (n : Name) (r r' : Replica) : Type 0 where
  pub object : r'.objects.tab n ≡ r.objects.tab n
  pub mark : r'.marks.tab n ≡ r.marks.tab n

-- the partition with this table's name and these values is as it was, and so is its mark
pub record SamePart (n : Name) (w : Values) (r r' : Replica) : Type 0 where
  pub object : r'.objects.par n w ≡ r.objects.par n w
  pub mark : r'.marks.par n w ≡ r.marks.par n w

-- what has a mark of e or above stays; a partition does where its table has one too, since it goes where its table goes
pub record KeepsNewer (e : ℕ) (r r' : Replica) : Type 0 where
  pub db : e ≤ r.marks.db → SameDb r r'
  pub tables : (n : Name) (x : Table) → r.objects.tab n ≡ Some x → e ≤ r.marks.tab n → SameTable n r r'
  pub parts : (n : Name) (w : Values) (x : Table) (p : PartRec) → r.objects.tab n ≡ Some x → e ≤ r.marks.tab n → r.objects.par n w ≡ Some p → e ≤ r.marks.par n w → SamePart n w r r'

-- each partition stands under a table
abbrev pub IsRooted : Objects → Type 0
IsRooted s = (n : Name) (w : Values) (p : PartRec) → s.par n w ≡ Some p → Has (s.tab n)

-- no object that is there before and behind has a lower mark behind
pub record MarksGrow (r r' : Replica) : Type 0 where
  pub db : r.marks.db ≤ r'.marks.db
  pub tables : (n : Name) (x y : Table) → r.objects.tab n ≡ Some x → r'.objects.tab n ≡ Some y → r.marks.tab n ≤ r'.marks.tab n
  pub parts : (n : Name) (w : Values) (p q : PartRec) → r.objects.par n w ≡ Some p → r'.objects.par n w ≡ Some q → r.marks.par n w ≤ r'.marks.par n w

-- a partition behind is one that was there, with the mark that it had, under the name that its table has now or under another one
pub record IsOld (n : Name) (w : Values) (p : PartRec) (r r' : Replica) : Type 0 where
  pub name : Name
  pub object : r.objects.par name w ≡ Some p
  pub mark : r'.marks.par n w ≡ r.marks.par name w

-- what isn't as it was has the mark e, but for partitions that moved along with their table
pub record MarksTell (e : ℕ) (r r' : Replica) : Type 0 where
  pub db : SameDb r r' ⊎ (r'.marks.db ≡ e)
  pub tables : (n : Name) (x : Table) → r'.objects.tab n ≡ Some x → SameTable n r r' ⊎ (r'.marks.tab n ≡ e)
  pub parts : (n : Name) (w : Values) (p : PartRec) → r'.objects.par n w ≡ Some p → IsOld n w p r r' ⊎ (r'.marks.par n w ≡ e)
