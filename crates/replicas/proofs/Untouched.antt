-- What an operation doesn't touch stays, whether it took effect or not.
use Rattle.std.proofs.Common.{inl, inr, ℕ}
use Rattle.cat_types.specs.declared.changes.Op.{Op}
use Rattle.replicas.specs.Keeping.{SameDb, SameTable, SamePart}
use Rattle.replicas.specs.Objects.{Name, Values, Replica}
use Rattle.replicas.specs.Operations.{touches_db, touches_tab, touches_par}
use Rattle.replicas.specs.Replay.{Replays}
use Rattle.replicas.proofs.Between.{db_of, db_mark_of}

module _ (Sound : Op → Type 0) (e : ℕ) (op : Op) (r q : Replica) (replays : Replays Sound e op r q) where
  pub db_kept : (touches_db op → ⊥) → SameDb r q
  db_kept off = elim replays [
    | inl d ↦ record { object = db_of op r.objects q.objects off d.objects; mark = db_mark_of e op r.marks q.marks off d.marks }
    | inr d ↦ record { object = d.objects.db; mark = d.marks.db }
  ]

  pub tab_kept : (m : Name) → (touches_tab op m → ⊥) → SameTable m r q
  tab_kept m off = elim replays [
    | inl d ↦ record { object = d.objects.tabs m off; mark = d.marks.tabs m off }
    | inr d ↦ record { object = d.objects.tab m; mark = d.marks.tab m }
  ]

  pub par_kept : (m : Name) (w : Values) → (touches_par op m w → ⊥) → SamePart m w r q
  par_kept m w off = elim replays [
    | inl d ↦ record { object = d.objects.parts m w off; mark = d.marks.parts m w off }
    | inr d ↦ record { object = d.objects.par m w; mark = d.marks.par m w }
  ]
