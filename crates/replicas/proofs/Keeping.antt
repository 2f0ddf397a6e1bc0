-- Replayed events leave what has a later mark.
use Rattle.std.proofs.Common.{◌≡◌, inl, inr, ℕ, ◌≤◌, List, [], ◌∷◌, Some, None, sym, ◌∙◌, subst, arith}
use Rattle.cat_types.specs.declared.changes.Op.{Op}
use Rattle.cat_types.specs.declared.changes.Op.TheVariants.{DropDb, DropPart, DropTable, MovePart, MoveTable, PutDb, PutPart, PutTable}
use Rattle.cat_values.specs.declared.records.PartRec.{PartRec}
use Rattle.replicas.specs.Keeping.{KeepsNewer}
use Rattle.replicas.specs.Laws.{ReplayNeverGoesBack, Passes}
use Rattle.replicas.specs.Objects.{Name, Values, Table, Replica, SameObjects, SameMarks}
use Rattle.replicas.specs.Operations.{touches_db, touches_tab, touches_par}
use Rattle.replicas.specs.Replay.{Acts, Replays}
use Rattle.replicas.specs.Stands.{ReplaysAll}
use Rattle.replicas.proofs.Basics.{not_both}
use Rattle.replicas.proofs.Untouched.{db_kept, tab_kept, par_kept}

module _ (Sound : Op → Type 0) (e : ℕ) (r : Replica) where
  -- an operation that acts touches no database with a later mark
  acts_db : (op : Op) → Acts Sound e op r → e ≤ r.marks.db → touches_db op → ⊥
  acts_db (PutDb rec) a late t = let low = a.below in omega (arith, low, late)
  acts_db DropDb a late t = t
  acts_db (PutTable n b rec) a late t = t
  acts_db (DropTable n b) a late t = t
  acts_db (MoveTable n b to rec) a late t = t
  acts_db (PutPart n b v rec) a late t = t
  acts_db (DropPart n b v) a late t = t
  acts_db (MovePart n b v to rec) a late t = t

  -- and no table that is there with a later mark
  acts_tab : (op : Op) → Acts Sound e op r → (m : Name) (x : Table) → r.objects.tab m ≡ Some x → e ≤ r.marks.tab m → touches_tab op m → ⊥
  acts_tab (PutDb rec) a m x is late t = t
  acts_tab DropDb a m x is late t = t
  acts_tab (PutTable n b rec) a m x is late t = elim a.below [
    | inl gone ↦ not_both (subst (λ (k : Name). r.objects.tab k ≡ None) (sym t) gone) is
    | inr low ↦ let here = subst (λ (k : Name). e ≤ r.marks.tab k) t late in omega (arith, low, here)
  ]
  acts_tab (DropTable n b) a m x is late t = let low = a.below in let here = subst (λ (k : Name). e ≤ r.marks.tab k) t late in omega (arith, low, here)
  acts_tab (MoveTable n b to rec) a m x is late t = elim t [
    | inl at ↦ let low = a.below in let here = subst (λ (k : Name). e ≤ r.marks.tab k) at late in omega (arith, low, here)
    | inr at ↦ not_both (subst (λ (k : Name). r.objects.tab k ≡ None) (sym at) a.fits.2) is
  ]
  acts_tab (PutPart n b v rec) a m x is late t = t
  acts_tab (DropPart n b v) a m x is late t = t
  acts_tab (MovePart n b v to rec) a m x is late t = t

  -- and no partition with a later mark whose table is there with one
  acts_par : (op : Op) → Acts Sound e op r → (m : Name) (w : Values) (x : Table) (p : PartRec)
      → r.objects.tab m ≡ Some x → e ≤ r.marks.tab m → r.objects.par m w ≡ Some p → e ≤ r.marks.par m w → touches_par op m w → ⊥
  acts_par (PutDb rec) a m w x p is late there newer t = t
  acts_par DropDb a m w x p is late there newer t = t
  acts_par (PutTable n b rec) a m w x p is late there newer t = t
  acts_par (DropTable n b) a m w x p is late there newer t = acts_tab (DropTable n b) a m x is late t
  acts_par (MoveTable n b to rec) a m w x p is late there newer t = acts_tab (MoveTable n b to rec) a m x is late t
  acts_par (PutPart n b v rec) a m w x p is late there newer t = elim a.below [
    | inl gone ↦ not_both (subst (λ (k : Name). r.objects.par k w ≡ None) (sym t.0) (subst (λ (u : Values). r.objects.par n u ≡ None) (sym t.1) gone)) there
    | inr low ↦ let here = subst (λ (u : Values). e ≤ r.marks.par n u) t.1 (subst (λ (k : Name). e ≤ r.marks.par k w) t.0 newer) in omega (arith, low, here)
  ]
  acts_par (DropPart n b v) a m w x p is late there newer t =
      let low = a.below in let here = subst (λ (u : Values). e ≤ r.marks.par n u) t.1 (subst (λ (k : Name). e ≤ r.marks.par k w) t.0 newer) in omega (arith, low, here)
  acts_par (MovePart n b v to rec) a m w x p is late there newer t = elim t.1 [
    | inl at ↦ let low = a.below in let here = subst (λ (u : Values). e ≤ r.marks.par n u) at (subst (λ (k : Name). e ≤ r.marks.par k w) t.0 newer) in omega (arith, low, here)
    | inr at ↦ not_both (subst (λ (k : Name). r.objects.par k w ≡ None) (sym t.0) (subst (λ (u : Values). r.objects.par n u ≡ None) (sym at) a.fits.2)) there
  ]

-- what looks the same is kept
pub kept_same : (k : ℕ) (s t : Replica) → SameObjects s.objects t.objects → SameMarks s.marks t.marks → KeepsNewer k s t
kept_same k s t objects marks = record {
  db = λ late. record { object = objects.db; mark = marks.db };
  tables = λ n x is late. record { object = objects.tab n; mark = marks.tab n };
  parts = λ n w x p is late there newer. record { object = objects.par n w; mark = marks.par n w };
}

-- one operation
pub op_keeps : (Sound : Op → Type 0) (e : ℕ) (op : Op) (r q : Replica) → Replays Sound e op r q → KeepsNewer e r q
op_keeps Sound e op r q replays = elim replays [
  | inl d ↦ record {
    db = λ late. db_kept Sound e op r q (inl d) (acts_db Sound e r op d.acts late);
    tables = λ n x is late. tab_kept Sound e op r q (inl d) n (acts_tab Sound e r op d.acts n x is late);
    parts = λ n w x p is late there newer. par_kept Sound e op r q (inl d) n w (acts_par Sound e r op d.acts n w x p is late there newer);
  }
  | inr d ↦ kept_same e r q d.objects d.marks
]

-- one after the other
pub kept_then : (e : ℕ) (r q r' : Replica) → KeepsNewer e r q → KeepsNewer e q r' → KeepsNewer e r r'
kept_then e r q r' h k = record {
  db = λ late.
      let first = h.db late in
      let second = k.db (subst (λ (m : ℕ). e ≤ m) (sym first.mark) late) in
      record { object = second.object ∙ first.object; mark = second.mark ∙ first.mark };
  tables = λ n x is late.
      let first = h.tables n x is late in
      let second = k.tables n x (first.object ∙ is) (subst (λ (m : ℕ). e ≤ m) (sym first.mark) late) in
      record { object = second.object ∙ first.object; mark = second.mark ∙ first.mark };
  parts = λ n w x p is late there newer.
      let table = h.tables n x is late in
      let first = h.parts n w x p is late there newer in
      let second = k.parts n w x p (table.object ∙ is) (subst (λ (m : ℕ). e ≤ m) (sym table.mark) late) (first.object ∙ there) (subst (λ (m : ℕ). e ≤ m) (sym first.mark) newer) in
      record { object = second.object ∙ first.object; mark = second.mark ∙ first.mark };
}

-- an event's operations
pub ops_keep : (Sound : Op → Type 0) (e : ℕ) (ops : List Op) (r r' : Replica) → ReplaysAll Sound e ops r r' → KeepsNewer e r r'
ops_keep Sound e [] r r' replays = kept_same e r r' replays.0 replays.1
ops_keep Sound e (op ∷ ops) r r' replays = kept_then e r replays.0 r' (op_keeps Sound e op r replays.0 replays.1) (ops_keep Sound e ops replays.0 r' replays.2)

later_kept : (e k : ℕ) (r r' : Replica) → e ≤ k → KeepsNewer e r r' → KeepsNewer k r r'
later_kept e k r r' le h = record {
  db = λ late. h.db (omega (arith, le, late));
  tables = λ n x is late. h.tables n x is (omega (arith, le, late));
  parts = λ n w x p is late there newer. h.parts n w x p is (omega (arith, le, late)) there (omega (arith, le, newer));
}

pub never_back : ReplayNeverGoesBack
never_back test k [] r r' old replays = kept_same k r r' replays.0 replays.1
never_back test k (e ∷ es) r r' old replays = kept_then k r replays.0 r' (later_kept e.id k r replays.0 old.0 (ops_keep (Passes test) e.id e.change.ops r replays.0 replays.1)) (never_back test k es replays.0 r' old.1 replays.2)
