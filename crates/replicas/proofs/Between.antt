-- A replica between two operations of an event. Objects with a mark up to `lim` are as in the source's state now; those with a later one as after their mark.
use Rattle.std.proofs.Common.{◌≡◌, ◌⊎◌, inl, inr, ℕ, ◌+◌, ◌≤◌, ◌<◌, Some, None, sym, ◌∙◌, subst, arith}
use Rattle.cat_types.specs.declared.changes.Op.{Op}
use Rattle.cat_types.specs.declared.changes.Op.TheVariants.{DropDb, DropPart, DropTable, MovePart, MoveTable, PutDb, PutPart, PutTable}
use Rattle.cat_values.specs.declared.records.DbRec.{DbRec}
use Rattle.cat_values.specs.declared.records.PartRec.{PartRec}
use Rattle.replicas.specs.Objects.{Name, Values, Table, Objects, Marks, Replica, Has, HasBorn, Together, IsPart}
use Rattle.replicas.specs.Operations.{touches_db, touches_tab, touches_par, Done}
use Rattle.replicas.specs.Replay.{Marked, Replays}

-- what has a mark up to `lim` is as in the state now, what has a later one as after it
pub record Since (after : ℕ → Objects) (lim : ℕ) (s : Objects) (m : ℕ) (P : Objects → Type 0) : Type 0 where
  pub low : m ≤ lim → P s
  pub high : lim < m → P (after m)

-- some number after `lim`, up to the end
pub record Later (after : ℕ → Objects) (lim end : ℕ) (P : Objects → Type 0) : Type 0 where
  pub number : ℕ
  pub above : lim < number
  pub within : number ≤ end
  pub is : P (after number)

-- now, or after a later number
abbrev pub Sometime : (ℕ → Objects) → ℕ → ℕ → Objects → (Objects → Type 0) → Type 0
Sometime after lim end s P = P s ⊎ Later after lim end P

-- what holds of the database
pub record DbStands (after : ℕ → Objects) (lim end : ℕ) (s : Objects) (r : Replica) (h : ℕ × DbRec) : Type 0 where
  pub mark : r.marks.db ≤ end
  pub since : Since after lim s r.marks.db (λ x. x.db ≡ Some h)

-- of a table
pub record TableStands (after : ℕ → Objects) (lim end : ℕ) (s : Objects) (r : Replica) (n : Name) (x : Table) : Type 0 where
  pub mark : r.marks.tab n ≤ end
  pub since : Since after lim s (r.marks.tab n) (λ y. y.tab n ≡ Some x)

-- and of a partition with its table
pub record PartStands (after : ℕ → Objects) (lim end : ℕ) (s : Objects) (r : Replica) (n : Name) (w : Values) (p : PartRec) : Type 0 where
  pub table : Table
  pub there : r.objects.tab n ≡ Some table
  pub mark : r.marks.par n w ≤ end
  pub since : Since after lim s (r.marks.par n w) (IsPart table.0 n w p)

-- all of a replica between two operations
pub record Between (after : ℕ → Objects) (lim end : ℕ) (s : Objects) (r : Replica) : Type 0 where
  pub db_there : Has r.objects.db
  pub db : (h : ℕ × DbRec) → r.objects.db ≡ Some h → DbStands after lim end s r h
  pub tables : (n : Name) (x : Table) → r.objects.tab n ≡ Some x → TableStands after lim end s r n x
  pub absent : (n : Name) → r.objects.tab n ≡ None → Sometime after lim end s (λ y. y.tab n ≡ None)
  pub parts : (n : Name) (w : Values) (p : PartRec) → r.objects.par n w ≡ Some p → PartStands after lim end s r n w p
  pub missing : (b : ℕ) (n : Name) (w : Values) → (Together b n w r.objects → ⊥) → Sometime after lim end s (λ y. Together b n w y → ⊥)

-- what stays, stays as it was
pub since_same : (after : ℕ → Objects) (lim : ℕ) (s t : Objects) (m m' : ℕ) (P : Objects → Type 0) → m' ≡ m → (m ≤ lim → P s → P t) → Since after lim s m P → Since after lim t m' P
since_same after lim s t m m' P same goes_on h = record {
  low = λ le. let old : m ≤ lim = omega (arith, same, le) in goes_on old (h.low old);
  high = λ lt. subst (λ (k : ℕ). P (after k)) (sym same) (h.high (omega (arith, same, lt)));
}

-- what has a later mark
pub since_high : (after : ℕ → Objects) (lim : ℕ) (s t : Objects) (m m' : ℕ) (P : Objects → Type 0) → m' ≡ m → lim < m → Since after lim s m P → Since after lim t m' P
since_high after lim s t m m' P same lt h = record {
  low = λ le. absurd (omega (arith, same, lt, le));
  high = λ more. subst (λ (k : ℕ). P (after k)) (sym same) (h.high lt);
}

-- what was put
pub since_new : (after : ℕ → Objects) (lim : ℕ) (t : Objects) (m' : ℕ) (P : Objects → Type 0) → m' ≡ lim + 1 → P (after (lim + 1)) → Since after lim t m' P
since_new after lim t m' P new is = record {
  low = λ le. absurd (omega (arith, new, le));
  high = λ more. subst (λ (k : ℕ). P (after k)) (sym new) is;
}

module _ (Sound : Op → Type 0) (after : ℕ → Objects) (lim end : ℕ) (s t : Objects) (r r' : Replica) (op : Op) (done : Done op s t) (between : Between after lim end s r) (replays : Replays Sound (lim + 1) op r r') where
  pub tab_stays : (m : Name) → (touches_tab op m → ⊥) → r'.objects.tab m ≡ r.objects.tab m
  tab_stays m off = elim replays [
    | inl d ↦ d.objects.tabs m off
    | inr d ↦ d.objects.tab m
  ]

  pub tab_mark_stays : (m : Name) → (touches_tab op m → ⊥) → r'.marks.tab m ≡ r.marks.tab m
  tab_mark_stays m off = elim replays [
    | inl d ↦ d.marks.tabs m off
    | inr d ↦ d.marks.tab m
  ]

  pub par_stays : (m : Name) (w : Values) → (touches_par op m w → ⊥) → r'.objects.par m w ≡ r.objects.par m w
  par_stays m w off = elim replays [
    | inl d ↦ d.objects.parts m w off
    | inr d ↦ d.objects.par m w
  ]

  pub par_mark_stays : (m : Name) (w : Values) → (touches_par op m w → ⊥) → r'.marks.par m w ≡ r.marks.par m w
  par_mark_stays m w off = elim replays [
    | inl d ↦ d.marks.parts m w off
    | inr d ↦ d.marks.par m w
  ]

  -- an untouched table
  pub table_stands : (m : Name) (x : Table) → (touches_tab op m → ⊥) → r'.objects.tab m ≡ Some x → TableStands after lim end t r' m x
  table_stands m x off is =
      let old = between.tables m x (sym (tab_stays m off) ∙ is) in
      let same = tab_mark_stays m off in record {
        mark = omega (arith, same, old.mark);
        since = since_same after lim s t (r.marks.tab m) (r'.marks.tab m) (λ y. y.tab m ≡ Some x) same (λ le had. done.tabs m off ∙ had) old.since;
      }

  pub absent_stands : (m : Name) → (touches_tab op m → ⊥) → r'.objects.tab m ≡ None → Sometime after lim end t (λ y. y.tab m ≡ None)
  absent_stands m off is = elim (between.absent m (sym (tab_stays m off) ∙ is)) [
    | inl had ↦ inl (done.tabs m off ∙ had)
    | inr later ↦ inr later
  ]

  -- an untouched partition, whose table keeps its born here and in the source
  pub part_stands : (m : Name) (w : Values) (p : PartRec) → (touches_par op m w → ⊥)
      → ((x : Table) → r.objects.tab m ≡ Some x → (y : Table) × (r'.objects.tab m ≡ Some y) × (y.0 ≡ x.0))
      → ((x : Table) → r.objects.tab m ≡ Some x → r.marks.par m w ≤ lim → HasBorn x.0 (s.tab m) → HasBorn x.0 (t.tab m))
      → r'.objects.par m w ≡ Some p → PartStands after lim end t r' m w p
  part_stands m w p off here there is =
      let old = between.parts m w p (sym (par_stays m w off) ∙ is) in
      let same = par_mark_stays m w off in
      let now = here old.table old.there in
      let kept : Since after lim t (r'.marks.par m w) (IsPart old.table.0 m w p) =
      since_same after lim s t (r.marks.par m w) (r'.marks.par m w) (IsPart old.table.0 m w p) same
      (λ le had. record { table = there old.table old.there le had.table; part = done.parts m w off ∙ had.part }) old.since in record {
        table = now.0;
        there = now.1;
        mark = omega (arith, same, old.mark);
        since = subst (λ (b : ℕ). Since after lim t (r'.marks.par m w) (IsPart b m w p)) (sym now.2) kept;
      }

  pub missing_stands : (b : ℕ) (m : Name) (w : Values) → (Together b m w r.objects → Together b m w r'.objects) → (Together b m w t → Together b m w s)
      → (Together b m w r'.objects → ⊥) → Sometime after lim end t (λ y. Together b m w y → ⊥)
  missing_stands b m w here there gone = elim (between.missing b m w (λ had. gone (here had))) [
    | inl had_not ↦ inl (λ has. had_not (there has))
    | inr later ↦ inr later
  ]

  -- where no table is touched, tables stand
  pub tables_stand : ((m : Name) → touches_tab op m → ⊥) → (n : Name) (x : Table) → r'.objects.tab n ≡ Some x → TableStands after lim end t r' n x
  tables_stand off n x is = table_stands n x (off n) is

  pub absents_stand : ((m : Name) → touches_tab op m → ⊥) → (n : Name) → r'.objects.tab n ≡ None → Sometime after lim end t (λ y. y.tab n ≡ None)
  absents_stand off n is = absent_stands n (off n) is

-- only a put of the database touches it
pub db_of : (op : Op) (s t : Objects) → (touches_db op → ⊥) → Done op s t → t.db ≡ s.db
db_of (PutDb rec) s t off done = absurd (off tt)
db_of DropDb s t off done = done.puts
db_of (PutTable n b rec) s t off done = done.puts.0
db_of (DropTable n b) s t off done = done.puts.0
db_of (MoveTable n b to rec) s t off done = done.puts.0
db_of (PutPart n b v rec) s t off done = done.puts.0
db_of (DropPart n b v) s t off done = done.puts.0
db_of (MovePart n b v to rec) s t off done = done.puts.0

pub db_mark_of : (e : ℕ) (op : Op) (s t : Marks) → (touches_db op → ⊥) → Marked e op s t → t.db ≡ s.db
db_mark_of e (PutDb rec) s t off done = absurd (off tt)
db_mark_of e DropDb s t off done = done.puts
db_mark_of e (PutTable n b rec) s t off done = done.puts.0
db_mark_of e (DropTable n b) s t off done = done.puts
db_mark_of e (MoveTable n b to rec) s t off done = done.puts.0
db_mark_of e (PutPart n b v rec) s t off done = done.puts.0
db_mark_of e (DropPart n b v) s t off done = done.puts
db_mark_of e (MovePart n b v to rec) s t off done = done.puts.0

module _ (Sound : Op → Type 0) (after : ℕ → Objects) (lim end : ℕ) (s t : Objects) (r r' : Replica) (op : Op) (off : touches_db op → ⊥) (done : Done op s t) (between : Between after lim end s r) (replays : Replays Sound (lim + 1) op r r') where
  pub db_stays : r'.objects.db ≡ r.objects.db
  db_stays = elim replays [
    | inl d ↦ db_of op r.objects r'.objects off d.objects
    | inr d ↦ d.objects.db
  ]

  pub db_mark_stays : r'.marks.db ≡ r.marks.db
  db_mark_stays = elim replays [
    | inl d ↦ db_mark_of (lim + 1) op r.marks r'.marks off d.marks
    | inr d ↦ d.marks.db
  ]

  pub db_still_there : Has r'.objects.db
  db_still_there = record { value = between.db_there.value; is = db_stays ∙ between.db_there.is }

  pub db_stands : (h : ℕ × DbRec) → r'.objects.db ≡ Some h → DbStands after lim end t r' h
  db_stands h is =
      let old = between.db h (sym db_stays ∙ is) in record {
        mark = omega (arith, db_mark_stays, old.mark);
        since = since_same after lim s t r.marks.db r'.marks.db (λ y. y.db ≡ Some h) db_mark_stays (λ le had. db_of op s t off done ∙ had) old.since;
      }
