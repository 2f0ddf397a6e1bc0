-- What an event changed has its mark.
use Rattle.std.proofs.Common.{◌≡◌, ◌⊎◌, inl, inr, ℕ, List, [], ◌∷◌, Some, None, sym, ◌∙◌, ap, subst}
use Rattle.cat_types.specs.declared.changes.Op.{Op}
use Rattle.cat_types.specs.declared.changes.Op.TheVariants.{DropDb, DropPart, DropTable, MovePart, MoveTable, PutDb, PutPart, PutTable}
use Rattle.cat_values.specs.declared.records.PartRec.{PartRec}
use Rattle.replicas.specs.Keeping.{IsOld, MarksTell}
use Rattle.replicas.specs.Laws.{MarksTellChanges, Passes}
use Rattle.replicas.specs.Objects.{Name, Values, Table, Replica}
use Rattle.replicas.specs.Operations.{touches_db, touches_tab, touches_par}
use Rattle.replicas.specs.Replay.{TookEffect, Replays}
use Rattle.replicas.specs.Stands.{ReplaysAll}
use Rattle.replicas.proofs.Basics.{not_both}
use Rattle.replicas.proofs.Growing.{tells_db, tells_par, tells_tab}
use Rattle.replicas.proofs.Untouched.{db_kept, tab_kept, par_kept}

module _ (Sound : Op → Type 0) (e : ℕ) (r q : Replica) where
  db_marked : (op : Op) → TookEffect Sound e op r q → touches_db op → q.marks.db ≡ e
  db_marked (PutDb rec) d t = d.marks.puts
  db_marked DropDb d t = absurd t
  db_marked (PutTable n b rec) d t = absurd t
  db_marked (DropTable n b) d t = absurd t
  db_marked (MoveTable n b to rec) d t = absurd t
  db_marked (PutPart n b v rec) d t = absurd t
  db_marked (DropPart n b v) d t = absurd t
  db_marked (MovePart n b v to rec) d t = absurd t

  tab_marked : (op : Op) → TookEffect Sound e op r q → (m : Name) (x : Table) → q.objects.tab m ≡ Some x → touches_tab op m → q.marks.tab m ≡ e
  tab_marked (PutDb rec) d m x is t = absurd t
  tab_marked DropDb d m x is t = absurd t
  tab_marked (PutTable n b rec) d m x is t = ap (λ (k : Name). q.marks.tab k) t ∙ d.marks.puts.1
  tab_marked (DropTable n b) d m x is t = absurd (not_both (subst (λ (k : Name). q.objects.tab k ≡ None) (sym t) d.objects.puts.1) is)
  tab_marked (MoveTable n b to rec) d m x is t = elim t [
    | inl at ↦ absurd (not_both (subst (λ (k : Name). q.objects.tab k ≡ None) (sym at) d.objects.puts.1) is)
    | inr at ↦ ap (λ (k : Name). q.marks.tab k) at ∙ d.marks.puts.1
  ]
  tab_marked (PutPart n b v rec) d m x is t = absurd t
  tab_marked (DropPart n b v) d m x is t = absurd t
  tab_marked (MovePart n b v to rec) d m x is t = absurd t

  mark_at : (m n : Name) (w v : Values) → m ≡ n → w ≡ v → q.marks.par n v ≡ e → q.marks.par m w ≡ e
  mark_at m n w v f g is = ap (λ (k : Name). q.marks.par k w) f ∙ ap (λ (u : Values). q.marks.par n u) g ∙ is

  gone_at : (m n : Name) (w v : Values) → m ≡ n → w ≡ v → q.objects.par n v ≡ None → q.objects.par m w ≡ None
  gone_at m n w v f g is = ap (λ (k : Name). q.objects.par k w) f ∙ ap (λ (u : Values). q.objects.par n u) g ∙ is

  par_marked : (op : Op) → TookEffect Sound e op r q → (m : Name) (w : Values) (p : PartRec) → q.objects.par m w ≡ Some p → touches_par op m w → IsOld m w p r q ⊎ (q.marks.par m w ≡ e)
  par_marked (PutDb rec) d m w p is t = absurd t
  par_marked DropDb d m w p is t = absurd t
  par_marked (PutTable n b rec) d m w p is t = absurd t
  par_marked (DropTable n b) d m w p is t = absurd (not_both (subst (λ (k : Name). q.objects.par k w ≡ None) (sym t) (d.objects.puts.2 w)) is)
  par_marked (MoveTable n b to rec) d m w p is t = elim t [
    | inl at ↦ absurd (not_both (subst (λ (k : Name). q.objects.par k w ≡ None) (sym at) (d.objects.puts.3 w)) is)
    | inr at ↦ inl (record {
      name = n;
      object = sym (d.objects.puts.4 w) ∙ subst (λ (k : Name). q.objects.par k w ≡ Some p) at is;
      mark = ap (λ (k : Name). q.marks.par k w) at ∙ d.marks.puts.2 w;
    })
  ]
  par_marked (PutPart n b v rec) d m w p is t = inr (mark_at m n w v t.0 t.1 d.marks.puts.1)
  par_marked (DropPart n b v) d m w p is t = absurd (not_both (gone_at m n w v t.0 t.1 d.objects.puts.1) is)
  par_marked (MovePart n b v to rec) d m w p is t = elim t.1 [
    | inl at ↦ absurd (not_both (gone_at m n w v t.0 at d.objects.puts.1) is)
    | inr at ↦ inr (mark_at m n w to t.0 at d.marks.puts.1)
  ]

op_tells : (Sound : Op → Type 0) (e : ℕ) (op : Op) (r q : Replica) → Replays Sound e op r q → MarksTell e r q
op_tells Sound e op r q (inr d) = record {
  db = inl (record { object = d.objects.db; mark = d.marks.db });
  tables = λ n x is. inl (record { object = d.objects.tab n; mark = d.marks.tab n });
  parts = λ n w p is. inl (record { name = n; object = sym (d.objects.par n w) ∙ is; mark = d.marks.par n w });
}
op_tells Sound e op r q (inl d) = record {
  db = elim (tells_db op) [
    | inl t ↦ inr (db_marked Sound e r q op d t)
    | inr off ↦ inl (db_kept Sound e op r q (inl d) off)
  ];
  tables = λ n x is. elim (tells_tab op n) [
    | inl t ↦ inr (tab_marked Sound e r q op d n x is t)
    | inr off ↦ inl (tab_kept Sound e op r q (inl d) n off)
  ];
  parts = λ n w p is. elim (tells_par op n w) [
    | inl t ↦ par_marked Sound e r q op d n w p is t
    | inr off ↦ let same = par_kept Sound e op r q (inl d) n w off in inl (record { name = n; object = sym same.object ∙ is; mark = same.mark })
  ];
}

tells_then : (e : ℕ) (r q r' : Replica) → MarksTell e r q → MarksTell e q r' → MarksTell e r r'
tells_then e r q r' h k = record {
  db = elim k.db [
    | inr mark ↦ inr mark
    | inl same ↦ elim h.db [
      | inl first ↦ inl (record { object = same.object ∙ first.object; mark = same.mark ∙ first.mark })
      | inr mark ↦ inr (same.mark ∙ mark)
    ]
  ];
  tables = λ n x is. elim (k.tables n x is) [
    | inr mark ↦ inr mark
    | inl same ↦ elim (h.tables n x (sym same.object ∙ is)) [
      | inl first ↦ inl (record { object = same.object ∙ first.object; mark = same.mark ∙ first.mark })
      | inr mark ↦ inr (same.mark ∙ mark)
    ]
  ];
  parts = λ n w p is. elim (k.parts n w p is) [
    | inr mark ↦ inr mark
    | inl old ↦ elim (h.parts old.name w p old.object) [
      | inl first ↦ inl (record { name = first.name; object = first.object; mark = old.mark ∙ first.mark })
      | inr mark ↦ inr (old.mark ∙ mark)
    ]
  ];
}

ops_tell : (Sound : Op → Type 0) (e : ℕ) (ops : List Op) (r r' : Replica) → ReplaysAll Sound e ops r r' → MarksTell e r r'
ops_tell Sound e [] r r' replays = record {
  db = inl (record { object = replays.0.db; mark = replays.1.db });
  tables = λ n x is. inl (record { object = replays.0.tab n; mark = replays.1.tab n });
  parts = λ n w p is. inl (record { name = n; object = sym (replays.0.par n w) ∙ is; mark = replays.1.par n w });
}
ops_tell Sound e (op ∷ ops) r r' replays = tells_then e r replays.0 r' (op_tells Sound e op r replays.0 replays.1) (ops_tell Sound e ops replays.0 r' replays.2)

pub marks_tell : MarksTellChanges
marks_tell test e ops r r' replays = ops_tell (Passes test) e ops r r' replays
