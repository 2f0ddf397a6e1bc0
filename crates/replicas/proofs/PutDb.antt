-- A put of the database keeps what stands between.
use Rattle.std.proofs.Common.{◌≡◌, inl, inr, ℕ, ◌+◌, ◌≤◌, ◌<◌, Option, Some, refl, sym, ◌∙◌, ap, subst, arith}
use Rattle.std.proofs.lemmas.Bool.{cases_lt}
use Rattle.cat_types.specs.declared.changes.Op.{Op}
use Rattle.cat_types.specs.declared.changes.Op.TheVariants.{PutDb}
use Rattle.cat_values.specs.declared.records.DbRec.{DbRec}
use Rattle.cat_values.specs.declared.records.PartRec.{PartRec}
use Rattle.replicas.specs.Objects.{Name, Objects, Replica, Has, HasBorn}
use Rattle.replicas.specs.Operations.{Done, with_record}
use Rattle.replicas.specs.Replay.{HadNoEffect, Replays}
use Rattle.replicas.proofs.Between.{DbStands, Between, since_high, since_new, tab_stays, par_stays, part_stands, missing_stands, tables_stand, absents_stand}

module _ (Sound : Op → Type 0) (after : ℕ → Objects) (lim end : ℕ) (s t : Objects) (r r' : Replica) (rec : DbRec) (within : lim + 1 ≤ end)
    (sound : Sound (PutDb rec)) (lasts : (after (lim + 1)).db ≡ t.db)
    (done : Done (PutDb rec) s t) (between : Between after lim end s r) (replays : Replays Sound (lim + 1) (PutDb rec) r r') where
  abbrev op : Op
  op = PutDb rec

  was : Has r.objects.db
  was = between.db_there

  kept_back : HadNoEffect Sound (lim + 1) (PutDb rec) r r' → lim < r.marks.db
  kept_back d = elim (cases_lt lim r.marks.db) [
    | inl lt ↦ lt
    | inr le ↦ absurd (d.acts_not (record { sound = sound; fits = was; below = omega (arith, le) }))
  ]

  db_at : (h : ℕ × DbRec) → r'.objects.db ≡ Some h → DbStands after lim end t r' h
  db_at h is = elim replays [
    | inl d ↦
        let low : r.marks.db < lim + 1 = d.acts.below in
        let same : s.db ≡ r.objects.db = (between.db was.value was.is).since.low (omega (arith, low)) ∙ sym was.is in record {
          mark = omega (arith, within, d.marks.puts);
          since = since_new after lim t r'.marks.db (λ y. y.db ≡ Some h) d.marks.puts (lasts ∙ done.puts ∙ ap (with_record rec) same ∙ sym d.objects.puts ∙ is);
        }
    | inr d ↦ let old = between.db h (sym d.objects.db ∙ is) in record {
      mark = omega (arith, d.marks.db, old.mark);
      since = since_high after lim s t r.marks.db r'.marks.db (λ y. y.db ≡ Some h) d.marks.db (kept_back d) old.since;
    }
  ]

  there : Has r'.objects.db
  there = elim replays [
    | inl d ↦ record { value = (was.value.0, rec); is = d.objects.puts ∙ ap (with_record rec) was.is }
    | inr d ↦ record { value = was.value; is = d.objects.db ∙ was.is }
  ]

  tab_same : (m : Name) → r'.objects.tab m ≡ r.objects.tab m
  tab_same m = tab_stays Sound after lim end s t r r' op done between replays m (λ e. e)

  pub put_db_keeps : Between after lim end t r'
  put_db_keeps = record {
    db_there = there;
    db = db_at;
    tables = tables_stand Sound after lim end s t r r' op done between replays (λ m e. e);
    absent = absents_stand Sound after lim end s t r r' op done between replays (λ m e. e);
    parts = λ m w p is. part_stands Sound after lim end s t r r' op done between replays m w p (λ e. e)
        (λ x had. (x, tab_same m ∙ had, refl)) (λ x had le h. subst (HasBorn x.0) (sym (done.tabs m (λ e. e))) h) is;
    missing = λ c m w not. missing_stands Sound after lim end s t r r' op done between replays c m w
        (λ h. record {
          table = subst (HasBorn c) (sym (tab_same m)) h.table;
          part = subst (λ (o : Option PartRec). Has o) (sym (par_stays Sound after lim end s t r r' op done between replays m w (λ e. e))) h.part;
        })
        (λ h. record { table = subst (HasBorn c) (done.tabs m (λ e. e)) h.table; part = subst (λ (o : Option PartRec). Has o) (done.parts m w (λ e. e)) h.part }) not;
  }
