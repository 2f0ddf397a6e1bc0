-- A put of a partition keeps what stands between.
use Rattle.std.proofs.Common.{◌≡◌, inl, inr, ℕ, ◌+◌, ◌≤◌, ◌<◌, length, Option, Some, None, refl, sym, ◌∙◌, ap, subst, arith}
use Rattle.std.proofs.lemmas.Bool.{cases_lt}
use Rattle.cat_types.specs.declared.changes.Op.{Op}
use Rattle.cat_types.specs.declared.changes.Op.TheVariants.{PutPart}
use Rattle.cat_values.specs.declared.records.PartRec.{PartRec}
use Rattle.replicas.specs.Objects.{Name, Values, Table, Objects, Replica, Has, HasBorn, Takes, Together, IsPart}
use Rattle.replicas.specs.Operations.{touches_par, Fits, Done}
use Rattle.replicas.specs.Replay.{HadNoEffect, Replays}
use Rattle.replicas.proofs.Basics.{Same, same_nat, same_name, same_values, not_both, one, one_born, has_born}
use Rattle.replicas.proofs.Between.{Sometime, TableStands, PartStands, Between, since_high, since_new, tab_stays, par_stays, part_stands, missing_stands, tables_stand, absents_stand, db_stands, db_still_there}

module _ (Sound : Op → Type 0) (after : ℕ → Objects) (lim end : ℕ) (s t : Objects) (r r' : Replica) (n : Name) (b : ℕ) (v : Values) (rec : PartRec) (within : lim + 1 ≤ end)
    (sound : Sound (PutPart n b v rec)) (fits : Fits (PutPart n b v rec) s) (keys : (k : ℕ) (x : Table) → lim < k → k ≤ end → (after k).tab n ≡ Some x → x.0 ≡ b → length x.1.keys ≡ length v)
    (lasts : IsPart b n v rec (after (lim + 1)))
    (done : Done (PutPart n b v rec) s t) (between : Between after lim end s r) (replays : Replays Sound (lim + 1) (PutPart n b v rec) r r') where
  abbrev op : Op
  op = PutPart n b v rec

  -- a table of that born takes the values, whatever its mark
  takes : (x : Table) → r.objects.tab n ≡ Some x → x.0 ≡ b → Takes b (length v) (r.objects.tab n)
  takes x is born = record { table = x; is = is; born = born; keys = its_keys; some_key = fits.some_key }
    where
      up : TableStands after lim end s r n x
      up = between.tables n x is

      its_keys : length x.1.keys ≡ length v
      its_keys = elim (cases_lt lim (r.marks.tab n)) [
        | inl lt ↦ keys (r.marks.tab n) x lt up.mark (up.since.high lt) born
        | inr le ↦ ap (λ (y : Table). length y.1.keys) (one (up.since.low le) fits.is) ∙ fits.keys
      ]

  -- under a table of that born it has no effect only over a partition with a later mark
  kept_back : HadNoEffect Sound (lim + 1) (PutPart n b v rec) r r' → (x : Table) → r.objects.tab n ≡ Some x → x.0 ≡ b → (q : PartRec) × (r.objects.par n v ≡ Some q) × (lim < r.marks.par n v)
  kept_back d x is born = by_part (r.objects.par n v) refl
    where
      by_part : (o : Option PartRec) → r.objects.par n v ≡ o → (q : PartRec) × (r.objects.par n v ≡ Some q) × (lim < r.marks.par n v)
      by_part None gone = absurd (d.acts_not (record { sound = sound; fits = takes x is born; below = inl gone }))
      by_part (Some q) had = elim (cases_lt lim (r.marks.par n v)) [
        | inl lt ↦ (q, had, lt)
        | inr le ↦ absurd (d.acts_not (record { sound = sound; fits = takes x is born; below = inr (omega (arith, le)) }))
      ]

  tab_same : (m : Name) → r'.objects.tab m ≡ r.objects.tab m
  tab_same m = tab_stays Sound after lim end s t r r' op done between replays m (λ e. e)

  part_at : (p : PartRec) → r'.objects.par n v ≡ Some p → PartStands after lim end t r' n v p
  part_at p is = elim replays [
    | inl d ↦
        let e : p ≡ rec = one is d.objects.puts.1 in
        let up : Takes b (length v) (r.objects.tab n) = d.acts.fits in
        let new : IsPart up.table.0 n v p (after (lim + 1)) = record { table = subst (λ (c : ℕ). HasBorn c ((after (lim + 1)).tab n)) (sym up.born) lasts.table; part = lasts.part ∙ ap (λ (q : PartRec). Some q) (sym e) } in record {
          table = up.table;
          there = tab_same n ∙ up.is;
          mark = omega (arith, within, d.marks.puts.1);
          since = since_new after lim t (r'.marks.par n v) (IsPart up.table.0 n v p) d.marks.puts.1 new;
        }
    | inr d ↦
        let old = between.parts n v p (sym (d.objects.par n v) ∙ is) in
        let later : lim < r.marks.par n v = elim (cases_lt lim (r.marks.par n v)) [
          | inl more ↦ more
          | inr le ↦ let had : HasBorn old.table.0 (s.tab n) = (old.since.low le).table in let k = kept_back d old.table old.there (sym (one_born had fits.is) ∙ fits.born) in k.2
        ] in record {
          table = old.table;
          there = tab_same n ∙ old.there;
          mark = omega (arith, d.marks.par n v, old.mark);
          since = since_high after lim s t (r.marks.par n v) (r'.marks.par n v) (IsPart old.table.0 n v p) (d.marks.par n v) later old.since;
        }
  ]

  off_at : (m : Name) (w : Values) → (m ≡ n → w ≡ v → ⊥) → touches_par (PutPart n b v rec) m w → ⊥
  off_at m w off h = off h.0 h.1

  part_off : (m : Name) (w : Values) → (m ≡ n → w ≡ v → ⊥) → (p : PartRec) → r'.objects.par m w ≡ Some p → PartStands after lim end t r' m w p
  part_off m w off p is = part_stands Sound after lim end s t r r' op done between replays m w p (off_at m w off)
      (λ x had. (x, tab_same m ∙ had, refl)) (λ x had le h. subst (HasBorn x.0) (sym (done.tabs m (λ e. e))) h) is

  parts : (m : Name) (w : Values) (p : PartRec) → r'.objects.par m w ≡ Some p → PartStands after lim end t r' m w p
  parts m w p is = by_place (same_name m n) (same_values w v)
    where
      by_place : Same m n → Same w v → PartStands after lim end t r' m w p
      by_place (inl e) (inl f) = subst (λ (k : Name). r'.objects.par k w ≡ Some p → PartStands after lim end t r' k w p) (sym e)
          (subst (λ (u : Values). r'.objects.par n u ≡ Some p → PartStands after lim end t r' n u p) (sym f) (part_at p)) is
      by_place (inl e) (inr g) = part_off m w (λ x y. g y) p is
      by_place (inr g) f = part_off m w (λ x y. g x) p is

  -- at the place of the put, under its born
  missing_at : (Together b n v r'.objects → ⊥) → Sometime after lim end t (λ y. Together b n v y → ⊥)
  missing_at not = by_table (r.objects.tab n) refl
    where
      in_place : (x : Table) → r.objects.tab n ≡ Some x → x.0 ≡ b → Together b n v r'.objects
      in_place x is born = record {
        table = has_born x (tab_same n ∙ is) born;
        part = elim replays [
          | inl d ↦ record { value = rec; is = d.objects.puts.1 }
          | inr d ↦ let k = kept_back d x is born in record { value = k.0; is = d.objects.par n v ∙ k.1 }
        ];
      }

      other : (x : Table) → r.objects.tab n ≡ Some x → (x.0 ≡ b → ⊥) → Sometime after lim end t (λ y. Together b n v y → ⊥)
      other x is not_b =
          let up = between.tables n x is in
          elim (cases_lt lim (r.marks.tab n)) [
            | inl lt ↦ inr (record { number = r.marks.tab n; above = lt; within = up.mark; is = λ h. not_b (one_born h.table (up.since.high lt)) })
            | inr le ↦ absurd (not_b (ap (λ (y : Table). y.0) (one (up.since.low le) fits.is) ∙ fits.born))
          ]

      by_table : (o : Option Table) → r.objects.tab n ≡ o → Sometime after lim end t (λ y. Together b n v y → ⊥)
      by_table None is = elim (between.absent n is) [
        | inl lacks ↦ absurd (not_both lacks fits.is)
        | inr later ↦ inr (record { number = later.number; above = later.above; within = later.within; is = λ h. not_both later.is h.table.is })
      ]
      by_table (Some x) is = elim (same_nat x.0 b) [
        | inl born ↦ absurd (not (in_place x is born))
        | inr not_b ↦ other x is not_b
      ]

  missing_in : (c : ℕ) → (Together c n v r'.objects → ⊥) → Sometime after lim end t (λ y. Together c n v y → ⊥)
  missing_in c not = by_born (same_nat c b)
    where
      by_born : Same c b → Sometime after lim end t (λ y. Together c n v y → ⊥)
      by_born (inl e) = subst (λ (k : ℕ). (Together k n v r'.objects → ⊥) → Sometime after lim end t (λ y. Together k n v y → ⊥)) (sym e) missing_at not
      by_born (inr g) = inl (λ h. g (sym (one_born h.table (done.tabs n (λ e. e) ∙ fits.is)) ∙ fits.born))

  missing_off : (m : Name) (w : Values) → (m ≡ n → w ≡ v → ⊥) → (c : ℕ) → (Together c m w r'.objects → ⊥) → Sometime after lim end t (λ y. Together c m w y → ⊥)
  missing_off m w off c not = missing_stands Sound after lim end s t r r' op done between replays c m w
      (λ h. record {
        table = subst (HasBorn c) (sym (tab_same m)) h.table;
        part = subst (λ (o : Option PartRec). Has o) (sym (par_stays Sound after lim end s t r r' op done between replays m w (off_at m w off))) h.part;
      })
      (λ h. record { table = subst (HasBorn c) (done.tabs m (λ e. e)) h.table; part = subst (λ (o : Option PartRec). Has o) (done.parts m w (off_at m w off)) h.part }) not

  missing : (c : ℕ) (m : Name) (w : Values) → (Together c m w r'.objects → ⊥) → Sometime after lim end t (λ y. Together c m w y → ⊥)
  missing c m w not = by_place (same_name m n) (same_values w v)
    where
      by_place : Same m n → Same w v → Sometime after lim end t (λ y. Together c m w y → ⊥)
      by_place (inl e) (inl f) = subst (λ (k : Name). (Together c k w r'.objects → ⊥) → Sometime after lim end t (λ y. Together c k w y → ⊥)) (sym e)
          (subst (λ (u : Values). (Together c n u r'.objects → ⊥) → Sometime after lim end t (λ y. Together c n u y → ⊥)) (sym f) (missing_in c)) not
      by_place (inl e) (inr g) = missing_off m w (λ x y. g y) c not
      by_place (inr g) f = missing_off m w (λ x y. g x) c not

  pub put_part_keeps : Between after lim end t r'
  put_part_keeps = record {
    db_there = db_still_there Sound after lim end s t r r' op (λ e. e) done between replays;
    db = db_stands Sound after lim end s t r r' op (λ e. e) done between replays;
    tables = tables_stand Sound after lim end s t r r' op done between replays (λ m e. e);
    absent = absents_stand Sound after lim end s t r r' op done between replays (λ m e. e);
    parts = parts;
    missing = missing;
  }
