-- A put of a table keeps what stands between.
use Rattle.std.proofs.Common.{◌≡◌, inl, inr, ℕ, ◌+◌, ◌≤◌, ◌<◌, Option, Some, None, refl, sym, ◌∙◌, ap, subst, arith}
use Rattle.std.proofs.lemmas.Bool.{cases_lt}
use Rattle.cat_types.specs.declared.changes.Op.{Op}
use Rattle.cat_types.specs.declared.changes.Op.TheVariants.{PutTable}
use Rattle.cat_values.specs.declared.records.PartRec.{PartRec}
use Rattle.cat_values.specs.declared.records.TableRec.{TableRec}
use Rattle.replicas.specs.Objects.{Name, Values, Table, Objects, Replica, Has, HasBorn, Together}
use Rattle.replicas.specs.Operations.{Fits, Done}
use Rattle.replicas.specs.Replay.{HadNoEffect, Replays}
use Rattle.replicas.proofs.Basics.{Same, same_name, not_both, one, one_born, has_born}
use Rattle.replicas.proofs.Between.{Sometime, TableStands, PartStands, Between, since_high, since_new, tab_stays, par_stays, table_stands, absent_stands, part_stands, missing_stands, db_stands, db_still_there}

module _ (Sound : Op → Type 0) (after : ℕ → Objects) (lim end : ℕ) (s t : Objects) (r r' : Replica) (n : Name) (b : ℕ) (rec : TableRec) (within : lim + 1 ≤ end)
    (sound : Sound (PutTable n b rec)) (fits : Fits (PutTable n b rec) s) (under : (w : Values) → s.tab n ≡ None → s.par n w ≡ None) (lasts : (after (lim + 1)).tab n ≡ Some (b, rec))
    (done : Done (PutTable n b rec) s t) (between : Between after lim end s r) (replays : Replays Sound (lim + 1) (PutTable n b rec) r r') where
  abbrev op : Op
  op = PutTable n b rec

  -- it has no effect only over a table with a later mark
  kept_back : HadNoEffect Sound (lim + 1) (PutTable n b rec) r r' → (x : Table) × (r.objects.tab n ≡ Some x) × (lim < r.marks.tab n)
  kept_back d = by_table (r.objects.tab n) refl
    where
      by_table : (o : Option Table) → r.objects.tab n ≡ o → (x : Table) × (r.objects.tab n ≡ Some x) × (lim < r.marks.tab n)
      by_table None is = absurd (d.acts_not (record { sound = sound; fits = λ x there. absurd (not_both is there); below = inl is }))
      by_table (Some x) is = elim (cases_lt lim (r.marks.tab n)) [
        | inl lt ↦ (x, is, lt)
        | inr le ↦ absurd (d.acts_not (record { sound = sound; fits = λ y there. fits y ((between.tables n y there).since.low le); below = inr (omega (arith, le)) }))
      ]

  at_name : (x : Table) → r'.objects.tab n ≡ Some x → TableStands after lim end t r' n x
  at_name x is = elim replays [
    | inl d ↦ let e : x ≡ (b, rec) = one is d.objects.puts.1 in record {
      mark = omega (arith, within, d.marks.puts.1);
      since = since_new after lim t (r'.marks.tab n) (λ y. y.tab n ≡ Some x) d.marks.puts.1 (lasts ∙ ap (λ (y : Table). Some y) (sym e));
    }
    | inr d ↦ let k = kept_back d in let old = between.tables n x (sym (d.objects.tab n) ∙ is) in record {
      mark = omega (arith, d.marks.tab n, old.mark);
      since = since_high after lim s t (r.marks.tab n) (r'.marks.tab n) (λ y. y.tab n ≡ Some x) (d.marks.tab n) k.2 old.since;
    }
  ]

  tables : (m : Name) (x : Table) → r'.objects.tab m ≡ Some x → TableStands after lim end t r' m x
  tables m x is = by_name (same_name m n)
    where
      by_name : Same m n → TableStands after lim end t r' m x
      by_name (inl e) = subst (λ (k : Name). r'.objects.tab k ≡ Some x → TableStands after lim end t r' k x) (sym e) (at_name x) is
      by_name (inr off) = table_stands Sound after lim end s t r r' op done between replays m x off is

  gone_not : r'.objects.tab n ≡ None → ⊥
  gone_not is = elim replays [
    | inl d ↦ not_both is d.objects.puts.1
    | inr d ↦ let k = kept_back d in not_both (sym (d.objects.tab n) ∙ is) k.1
  ]

  absents : (m : Name) → r'.objects.tab m ≡ None → Sometime after lim end t (λ y. y.tab m ≡ None)
  absents m is = by_name (same_name m n)
    where
      by_name : Same m n → Sometime after lim end t (λ y. y.tab m ≡ None)
      by_name (inl e) = absurd (gone_not (subst (λ (k : Name). r'.objects.tab k ≡ None) e is))
      by_name (inr off) = absent_stands Sound after lim end s t r r' op done between replays m off is

  -- a table keeps its born, here and in the source
  here_at : (x : Table) → r.objects.tab n ≡ Some x → (y : Table) × (r'.objects.tab n ≡ Some y) × (y.0 ≡ x.0)
  here_at x is = elim replays [
    | inl d ↦ ((b, rec), d.objects.puts.1, sym (d.acts.fits x is).0)
    | inr d ↦ (x, d.objects.tab n ∙ is, refl)
  ]

  here : (m : Name) (x : Table) → r.objects.tab m ≡ Some x → (y : Table) × (r'.objects.tab m ≡ Some y) × (y.0 ≡ x.0)
  here m x is = by_name (same_name m n)
    where
      by_name : Same m n → (y : Table) × (r'.objects.tab m ≡ Some y) × (y.0 ≡ x.0)
      by_name (inl e) = subst (λ (k : Name). r.objects.tab k ≡ Some x → (y : Table) × (r'.objects.tab k ≡ Some y) × (y.0 ≡ x.0)) (sym e) (here_at x) is
      by_name (inr off) = (x, tab_stays Sound after lim end s t r r' op done between replays m off ∙ is, refl)

  there_at : (c : ℕ) → HasBorn c (s.tab n) → HasBorn c (t.tab n)
  there_at c h = has_born (b, rec) done.puts.1 (sym (fits h.table h.is).0 ∙ h.born)

  there : (m : Name) (c : ℕ) → HasBorn c (s.tab m) → HasBorn c (t.tab m)
  there m c h = by_name (same_name m n)
    where
      by_name : Same m n → HasBorn c (t.tab m)
      by_name (inl e) = subst (λ (k : Name). HasBorn c (s.tab k) → HasBorn c (t.tab k)) (sym e) (there_at c) h
      by_name (inr off) = subst (HasBorn c) (sym (done.tabs m off)) h

  parts : (m : Name) (w : Values) (p : PartRec) → r'.objects.par m w ≡ Some p → PartStands after lim end t r' m w p
  parts m w p is = part_stands Sound after lim end s t r r' op done between replays m w p (λ h. h) (here m) (λ x had le h. there m x.0 h) is

  together_here : (c : ℕ) (m : Name) (w : Values) → Together c m w r.objects → Together c m w r'.objects
  together_here c m w h =
      let y = here m h.table.table h.table.is in record {
        table = has_born y.0 y.1 (y.2 ∙ h.table.born);
        part = record { value = h.part.value; is = par_stays Sound after lim end s t r r' op done between replays m w (λ e. e) ∙ h.part.is };
      }

  back_at : (c : ℕ) (w : Values) → HasBorn c (t.tab n) → Has (s.par n w) → HasBorn c (s.tab n)
  back_at c w h part = by_table (s.tab n) refl
    where
      by_table : (o : Option Table) → s.tab n ≡ o → HasBorn c (s.tab n)
      by_table None is = absurd (not_both (under w is) part.is)
      by_table (Some y) is = has_born y is ((fits y is).0 ∙ one_born h done.puts.1)

  back : (c : ℕ) (m : Name) (w : Values) → HasBorn c (t.tab m) → Has (s.par m w) → HasBorn c (s.tab m)
  back c m w h part = by_name (same_name m n)
    where
      by_name : Same m n → HasBorn c (s.tab m)
      by_name (inl e) = subst (λ (k : Name). HasBorn c (t.tab k) → Has (s.par k w) → HasBorn c (s.tab k)) (sym e) (back_at c w) h part
      by_name (inr off) = subst (HasBorn c) (done.tabs m off) h

  together_back : (c : ℕ) (m : Name) (w : Values) → Together c m w t → Together c m w s
  together_back c m w h =
      let part : Has (s.par m w) = record { value = h.part.value; is = sym (done.parts m w (λ e. e)) ∙ h.part.is } in
      record { table = back c m w h.table part; part = part }

  pub put_table_keeps : Between after lim end t r'
  put_table_keeps = record {
    db_there = db_still_there Sound after lim end s t r r' op (λ e. e) done between replays;
    db = db_stands Sound after lim end s t r r' op (λ e. e) done between replays;
    tables = tables;
    absent = absents;
    parts = parts;
    missing = λ c m w gone. missing_stands Sound after lim end s t r r' op done between replays c m w (together_here c m w) (together_back c m w) gone;
  }
