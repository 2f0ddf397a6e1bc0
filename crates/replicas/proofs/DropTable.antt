-- A drop of a table keeps what stands between.
use Rattle.std.proofs.Common.{◌≡◌, inl, inr, ℕ, ◌+◌, ◌≤◌, ◌<◌, Option, Some, None, refl, sym, ◌∙◌, subst, arith}
use Rattle.std.proofs.lemmas.Bool.{cases_lt}
use Rattle.cat_types.specs.declared.changes.Op.{Op}
use Rattle.cat_types.specs.declared.changes.Op.TheVariants.{DropTable}
use Rattle.cat_values.specs.declared.records.PartRec.{PartRec}
use Rattle.replicas.specs.Objects.{Name, Values, Table, Objects, Replica, Has, HasBorn, Together, IsPart}
use Rattle.replicas.specs.Operations.{Fits, Done}
use Rattle.replicas.specs.Replay.{HadNoEffect, Replays}
use Rattle.replicas.proofs.Basics.{Same, same_name, not_both, one_born, born_at, has_born}
use Rattle.replicas.proofs.Between.{Sometime, TableStands, PartStands, Between, since_high, tab_stays, par_stays, table_stands, absent_stands, part_stands, missing_stands, db_stands, db_still_there}

module _ (Sound : Op → Type 0) (after : ℕ → Objects) (lim end : ℕ) (s t : Objects) (r r' : Replica) (n : Name) (b : ℕ) (within : lim + 1 ≤ end)
    (sound : Sound (DropTable n b)) (fits : Fits (DropTable n b) s) (gone : (k : ℕ) → lim < k → k ≤ end → HasBorn b ((after k).tab n) → ⊥)
    (done : Done (DropTable n b) s t) (between : Between after lim end s r) (replays : Replays Sound (lim + 1) (DropTable n b) r r') where
  abbrev op : Op
  op = DropTable n b

  -- it has no effect only on a table with a later mark
  kept_back : HadNoEffect Sound (lim + 1) (DropTable n b) r r' → (x : Table) → r.objects.tab n ≡ Some x → lim < r.marks.tab n
  kept_back d x is = elim (cases_lt lim (r.marks.tab n)) [
    | inl lt ↦ lt
    | inr le ↦ absurd (d.acts_not (record { sound = sound; fits = has_born x is (one_born fits ((between.tables n x is).since.low le)); below = omega (arith, le) }))
  ]

  at_name : (x : Table) → r'.objects.tab n ≡ Some x → TableStands after lim end t r' n x
  at_name x is = elim replays [
    | inl d ↦ absurd (not_both d.objects.puts.1 is)
    | inr d ↦ let had : r.objects.tab n ≡ Some x = sym (d.objects.tab n) ∙ is in let old = between.tables n x had in record {
      mark = omega (arith, d.marks.tab n, old.mark);
      since = since_high after lim s t (r.marks.tab n) (r'.marks.tab n) (λ y. y.tab n ≡ Some x) (d.marks.tab n) (kept_back d x had) old.since;
    }
  ]

  tables : (m : Name) (x : Table) → r'.objects.tab m ≡ Some x → TableStands after lim end t r' m x
  tables m x is = by_name (same_name m n)
    where
      by_name : Same m n → TableStands after lim end t r' m x
      by_name (inl e) = subst (λ (k : Name). r'.objects.tab k ≡ Some x → TableStands after lim end t r' k x) (sym e) (at_name x) is
      by_name (inr off) = table_stands Sound after lim end s t r r' op done between replays m x off is

  absents : (m : Name) → r'.objects.tab m ≡ None → Sometime after lim end t (λ y. y.tab m ≡ None)
  absents m is = by_name (same_name m n)
    where
      by_name : Same m n → Sometime after lim end t (λ y. y.tab m ≡ None)
      by_name (inl e) = inl (subst (λ (k : Name). t.tab k ≡ None) (sym e) done.puts.1)
      by_name (inr off) = absent_stands Sound after lim end s t r r' op done between replays m off is

  -- under a table that stayed stand later partitions alone
  part_at : (w : Values) (p : PartRec) → r'.objects.par n w ≡ Some p → PartStands after lim end t r' n w p
  part_at w p is = elim replays [
    | inl d ↦ absurd (not_both (d.objects.puts.2 w) is)
    | inr d ↦
        let old = between.parts n w p (sym (d.objects.par n w) ∙ is) in
        let lt = kept_back d old.table old.there in
        let up = between.tables n old.table old.there in
        let later : lim < r.marks.par n w = elim (cases_lt lim (r.marks.par n w)) [
          | inl more ↦ more
          | inr le ↦ let born : old.table.0 ≡ b = born_at (old.since.low le).table fits in absurd (gone (r.marks.tab n) lt up.mark (has_born old.table (up.since.high lt) born))
        ] in record {
          table = old.table;
          there = d.objects.tab n ∙ old.there;
          mark = omega (arith, d.marks.par n w, old.mark);
          since = since_high after lim s t (r.marks.par n w) (r'.marks.par n w) (IsPart old.table.0 n w p) (d.marks.par n w) later old.since;
        }
  ]

  parts : (m : Name) (w : Values) (p : PartRec) → r'.objects.par m w ≡ Some p → PartStands after lim end t r' m w p
  parts m w p is = by_name (same_name m n)
    where
      by_name : Same m n → PartStands after lim end t r' m w p
      by_name (inl e) = subst (λ (k : Name). r'.objects.par k w ≡ Some p → PartStands after lim end t r' k w p) (sym e) (part_at w p) is
      by_name (inr off) = part_stands Sound after lim end s t r r' op done between replays m w p off
          (λ x had. (x, tab_stays Sound after lim end s t r r' op done between replays m off ∙ had, refl)) (λ x had le h. subst (HasBorn x.0) (sym (done.tabs m off)) h) is

  missing : (c : ℕ) (m : Name) (w : Values) → (Together c m w r'.objects → ⊥) → Sometime after lim end t (λ y. Together c m w y → ⊥)
  missing c m w not = by_name (same_name m n)
    where
      by_name : Same m n → Sometime after lim end t (λ y. Together c m w y → ⊥)
      by_name (inl e) = inl (λ h. not_both (subst (λ (k : Name). t.tab k ≡ None) (sym e) done.puts.1) h.table.is)
      by_name (inr off) = missing_stands Sound after lim end s t r r' op done between replays c m w
          (λ h. record {
            table = subst (HasBorn c) (sym (tab_stays Sound after lim end s t r r' op done between replays m off)) h.table;
            part = subst (λ (o : Option PartRec). Has o) (sym (par_stays Sound after lim end s t r r' op done between replays m w off)) h.part;
          })
          (λ h. record { table = subst (HasBorn c) (done.tabs m off) h.table; part = subst (λ (o : Option PartRec). Has o) (done.parts m w off) h.part }) not

  pub drop_table_keeps : Between after lim end t r'
  drop_table_keeps = record {
    db_there = db_still_there Sound after lim end s t r r' op (λ e. e) done between replays;
    db = db_stands Sound after lim end s t r r' op (λ e. e) done between replays;
    tables = tables;
    absent = absents;
    parts = parts;
    missing = missing;
  }
