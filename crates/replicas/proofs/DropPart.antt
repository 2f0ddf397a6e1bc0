-- A drop of a partition keeps what stands between.
use Rattle.std.proofs.Common.{◌≡◌, inl, inr, ℕ, ◌+◌, ◌≤◌, ◌<◌, Option, Some, None, refl, sym, ◌∙◌, subst, arith}
use Rattle.std.proofs.lemmas.Bool.{cases_lt}
use Rattle.cat_types.specs.declared.changes.Op.{Op}
use Rattle.cat_types.specs.declared.changes.Op.TheVariants.{DropPart}
use Rattle.cat_values.specs.declared.records.PartRec.{PartRec}
use Rattle.replicas.specs.Objects.{Name, Values, Objects, Replica, Has, HasBorn, Together, IsPart}
use Rattle.replicas.specs.Operations.{touches_par, Fits, Done}
use Rattle.replicas.specs.Replay.{HadNoEffect, Replays}
use Rattle.replicas.proofs.Basics.{Same, same_name, same_values, not_both, born_at, has_born}
use Rattle.replicas.proofs.Between.{Sometime, PartStands, Between, since_high, tab_stays, par_stays, part_stands, missing_stands, tables_stand, absents_stand, db_stands, db_still_there}

module _ (Sound : Op → Type 0) (after : ℕ → Objects) (lim end : ℕ) (s t : Objects) (r r' : Replica) (n : Name) (b : ℕ) (v : Values) (within : lim + 1 ≤ end)
    (sound : Sound (DropPart n b v)) (fits : Fits (DropPart n b v) s)
    (done : Done (DropPart n b v) s t) (between : Between after lim end s r) (replays : Replays Sound (lim + 1) (DropPart n b v) r r') where
  abbrev op : Op
  op = DropPart n b v

  -- it has no effect only on a partition with a later mark
  kept_back : HadNoEffect Sound (lim + 1) (DropPart n b v) r r' → (q : PartRec) → r.objects.par n v ≡ Some q → lim < r.marks.par n v
  kept_back d q is =
      let old = between.parts n v q is in
      elim (cases_lt lim (r.marks.par n v)) [
        | inl lt ↦ lt
        | inr le ↦ absurd (d.acts_not (record { sound = sound; fits = (has_born old.table old.there (born_at (old.since.low le).table fits.0), record { value = q; is = is }); below = omega (arith, le) }))
      ]

  tab_same : (m : Name) → r'.objects.tab m ≡ r.objects.tab m
  tab_same m = tab_stays Sound after lim end s t r r' op done between replays m (λ e. e)

  part_at : (p : PartRec) → r'.objects.par n v ≡ Some p → PartStands after lim end t r' n v p
  part_at p is = elim replays [
    | inl d ↦ absurd (not_both d.objects.puts.1 is)
    | inr d ↦
        let had : r.objects.par n v ≡ Some p = sym (d.objects.par n v) ∙ is in
        let old = between.parts n v p had in record {
          table = old.table;
          there = tab_same n ∙ old.there;
          mark = omega (arith, d.marks.par n v, old.mark);
          since = since_high after lim s t (r.marks.par n v) (r'.marks.par n v) (IsPart old.table.0 n v p) (d.marks.par n v) (kept_back d p had) old.since;
        }
  ]

  off_at : (m : Name) (w : Values) → (m ≡ n → w ≡ v → ⊥) → touches_par (DropPart n b v) m w → ⊥
  off_at m w off h = off h.0 h.1

  part_off : (m : Name) (w : Values) → (m ≡ n → w ≡ v → ⊥) → (p : PartRec) → r'.objects.par m w ≡ Some p → PartStands after lim end t r' m w p
  part_off m w off p is = part_stands Sound after lim end s t r r' op done between replays m w p (off_at m w off)
      (λ x had. (x, tab_same m ∙ had, refl)) (λ x had le h. subst (HasBorn x.0) (sym (done.tabs m (λ e. e))) h) is

  parts : (m : Name) (w : Values) (p : PartRec) → r'.objects.par m w ≡ Some p → PartStands after lim end t r' m w p
  parts m w p is = by_place (same_name m n) (same_values w v)
    where
      by_place : Same m n → Same w v → PartStands after lim end t r' m w p
      by_place (inl e) (inl f) = subst (λ (k : Name). r'.objects.par k w ≡ Some p → PartStands after lim end t r' k w p) (sym e)
          (subst (λ (u : Values). r'.objects.par n u ≡ Some p → PartStands after lim end t r' n u p) (sym f) (part_at p)) is
      by_place (inl e) (inr g) = part_off m w (λ x y. g y) p is
      by_place (inr g) f = part_off m w (λ x y. g x) p is

  missing_off : (m : Name) (w : Values) → (m ≡ n → w ≡ v → ⊥) → (c : ℕ) → (Together c m w r'.objects → ⊥) → Sometime after lim end t (λ y. Together c m w y → ⊥)
  missing_off m w off c not = missing_stands Sound after lim end s t r r' op done between replays c m w
      (λ h. record {
        table = subst (HasBorn c) (sym (tab_same m)) h.table;
        part = subst (λ (o : Option PartRec). Has o) (sym (par_stays Sound after lim end s t r r' op done between replays m w (off_at m w off))) h.part;
      })
      (λ h. record { table = subst (HasBorn c) (done.tabs m (λ e. e)) h.table; part = subst (λ (o : Option PartRec). Has o) (done.parts m w (off_at m w off)) h.part }) not

  missing : (c : ℕ) (m : Name) (w : Values) → (Together c m w r'.objects → ⊥) → Sometime after lim end t (λ y. Together c m w y → ⊥)
  missing c m w not = by_place (same_name m n) (same_values w v)
    where
      by_place : Same m n → Same w v → Sometime after lim end t (λ y. Together c m w y → ⊥)
      by_place (inl e) (inl f) = inl (λ h. not_both (subst (λ (k : Name). t.par k w ≡ None) (sym e) (subst (λ (u : Values). t.par n u ≡ None) (sym f) done.puts.1)) h.part.is)
      by_place (inl e) (inr g) = missing_off m w (λ x y. g y) c not
      by_place (inr g) f = missing_off m w (λ x y. g x) c not

  pub drop_part_keeps : Between after lim end t r'
  drop_part_keeps = record {
    db_there = db_still_there Sound after lim end s t r r' op (λ e. e) done between replays;
    db = db_stands Sound after lim end s t r r' op (λ e. e) done between replays;
    tables = tables_stand Sound after lim end s t r r' op done between replays (λ m e. e);
    absent = absents_stand Sound after lim end s t r r' op done between replays (λ m e. e);
    parts = parts;
    missing = missing;
  }
