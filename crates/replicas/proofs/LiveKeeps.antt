-- An event with all its operations, moves among them, on a live replica.
use Rattle.std.proofs.Common.{◌≡◌, inl, inr, ℕ, ◌+◌, ◌≤◌, ◌<◌, List, [], ◌∷◌, length, Option, Some, None, refl, sym, ◌∙◌, ap, subst, arith}
use Rattle.cat_types.specs.declared.changes.Op.{Op}
use Rattle.cat_types.specs.declared.changes.Op.TheVariants.{DropDb, DropPart, DropTable, MovePart, MoveTable, PutDb, PutPart, PutTable}
use Rattle.cat_values.specs.declared.records.PartRec.{PartRec}
use Rattle.replicas.specs.Objects.{Name, Values, Table, Objects, Replica, Has, HasBorn, Takes, SameObjects}
use Rattle.replicas.specs.Operations.{touches_db, touches_tab, touches_par, Fits, Done, with_record}
use Rattle.replicas.specs.Replay.{Below, Marked, Replays, TookEffect}
use Rattle.replicas.specs.Source.{Each, Steps, IsApart, AllApart, Source}
use Rattle.replicas.specs.Stands.{MarksUpTo, StandsLive, ReplaysAll, Quiet}
use Rattle.replicas.proofs.Basics.{Same, same_name, same_values, not_both}
use Rattle.replicas.proofs.Between.{db_of, db_mark_of}
use Rattle.replicas.proofs.EventKeeps.{quiet_still}

-- what fits a state fits one that looks the same
fits_same : (op : Op) (s t : Objects) → SameObjects s t → Fits op s → Fits op t
fits_same (PutDb rec) s t same h = record { value = h.value; is = same.db ∙ h.is }
fits_same DropDb s t same h = h
fits_same (PutTable n b rec) s t same h = λ x is. h x (sym (same.tab n) ∙ is)
fits_same (DropTable n b) s t same h = subst (HasBorn b) (sym (same.tab n)) h
fits_same (MoveTable n b to rec) s t same h = (subst (HasBorn b) (sym (same.tab n)) h.0, λ x is. h.1 x (sym (same.tab n) ∙ is), same.tab to ∙ h.2)
fits_same (PutPart n b v rec) s t same h = subst (Takes b (length v)) (sym (same.tab n)) h
fits_same (DropPart n b v) s t same h = (subst (HasBorn b) (sym (same.tab n)) h.0, record { value = h.1.value; is = same.par n v ∙ h.1.is })
fits_same (MovePart n b v to rec) s t same h = (subst (Takes b (length to)) (sym (same.tab n)) h.0, record { value = h.1.value; is = same.par n v ∙ h.1.is }, same.par n to ∙ h.2)

-- what an operation looks at has a mark below e
pub record IsFresh (e : ℕ) (r : Replica) (op : Op) : Type 0 where
  pub db : touches_db op → r.marks.db < e
  pub tabs : (n : Name) (x : Table) → touches_tab op n → r.objects.tab n ≡ Some x → r.marks.tab n < e
  pub parts : (n : Name) (w : Values) (p : PartRec) → touches_par op n w → r.objects.par n w ≡ Some p → r.marks.par n w < e

below_fresh : (e : ℕ) (op : Op) (r : Replica) → Fits op r.objects → IsFresh e r op → Below e op r
below_fresh e (PutDb rec) r fits fresh = fresh.db tt
below_fresh e DropDb r fits fresh = fits
below_fresh e (PutTable n b rec) r fits fresh = by_table (r.objects.tab n) refl
  where
    by_table : (o : Option Table) → r.objects.tab n ≡ o → Below e (PutTable n b rec) r
    by_table None is = inl is
    by_table (Some x) is = inr (fresh.tabs n x refl is)
below_fresh e (DropTable n b) r fits fresh = fresh.tabs n fits.table refl fits.is
below_fresh e (MoveTable n b to rec) r fits fresh = fresh.tabs n fits.0.table (inl refl) fits.0.is
below_fresh e (PutPart n b v rec) r fits fresh = by_part (r.objects.par n v) refl
  where
    by_part : (o : Option PartRec) → r.objects.par n v ≡ o → Below e (PutPart n b v rec) r
    by_part None is = inl is
    by_part (Some p) is = inr (fresh.parts n v p (refl, refl) is)
below_fresh e (DropPart n b v) r fits fresh = fresh.parts n v fits.1.value (refl, refl) fits.1.is
below_fresh e (MovePart n b v to rec) r fits fresh = fresh.parts n v fits.1.value (refl, inl refl) fits.1.is

-- what is done to states that look the same looks the same
module _ (op : Op) (s s' t t' : Objects) (same : SameObjects s t) (one_done : Done op s s') (other_done : Done op t t') where
  tab_off : (m : Name) → (touches_tab op m → ⊥) → t'.tab m ≡ s'.tab m
  tab_off m off = other_done.tabs m off ∙ same.tab m ∙ sym (one_done.tabs m off)

  par_off : (m : Name) (w : Values) → (touches_par op m w → ⊥) → t'.par m w ≡ s'.par m w
  par_off m w off = other_done.parts m w off ∙ same.par m w ∙ sym (one_done.parts m w off)

  db_off : (touches_db op → ⊥) → t'.db ≡ s'.db
  db_off off = db_of op t t' off other_done ∙ same.db ∙ sym (db_of op s s' off one_done)

done_same : (op : Op) (s s' t t' : Objects) → SameObjects s t → Done op s s' → Done op t t' → SameObjects s' t'
done_same (PutDb rec) s s' t t' same d k = record {
  db = k.puts ∙ ap (with_record rec) same.db ∙ sym d.puts;
  tab = λ m. tab_off (PutDb rec) s s' t t' same d k m (λ f. f);
  par = λ m w. par_off (PutDb rec) s s' t t' same d k m w (λ f. f);
}
done_same DropDb s s' t t' same d k = record {
  db = db_off DropDb s s' t t' same d k (λ f. f);
  tab = λ m. tab_off DropDb s s' t t' same d k m (λ f. f);
  par = λ m w. par_off DropDb s s' t t' same d k m w (λ f. f);
}
done_same (PutTable n b rec) s s' t t' same d k = record {
  db = db_off (PutTable n b rec) s s' t t' same d k (λ f. f);
  tab = λ m. by_name m (same_name m n);
  par = λ m w. par_off (PutTable n b rec) s s' t t' same d k m w (λ f. f);
}
  where
    by_name : (m : Name) → Same m n → t'.tab m ≡ s'.tab m
    by_name m (inl e) = subst (λ (j : Name). t'.tab j ≡ s'.tab j) (sym e) (k.puts.1 ∙ sym d.puts.1)
    by_name m (inr off) = tab_off (PutTable n b rec) s s' t t' same d k m off
done_same (DropTable n b) s s' t t' same d k = record {
  db = db_off (DropTable n b) s s' t t' same d k (λ f. f);
  tab = λ m. by_name m (same_name m n);
  par = λ m w. by_part m w (same_name m n);
}
  where
    by_name : (m : Name) → Same m n → t'.tab m ≡ s'.tab m
    by_name m (inl e) = subst (λ (j : Name). t'.tab j ≡ s'.tab j) (sym e) (k.puts.1 ∙ sym d.puts.1)
    by_name m (inr off) = tab_off (DropTable n b) s s' t t' same d k m off

    by_part : (m : Name) (w : Values) → Same m n → t'.par m w ≡ s'.par m w
    by_part m w (inl e) = subst (λ (j : Name). t'.par j w ≡ s'.par j w) (sym e) (k.puts.2 w ∙ sym (d.puts.2 w))
    by_part m w (inr off) = par_off (DropTable n b) s s' t t' same d k m w off
done_same (MoveTable n b to rec) s s' t t' same d k = record {
  db = db_off (MoveTable n b to rec) s s' t t' same d k (λ f. f);
  tab = λ m. by_name m (same_name m n) (same_name m to);
  par = λ m w. by_part m w (same_name m n) (same_name m to);
}
  where
    by_name : (m : Name) → Same m n → Same m to → t'.tab m ≡ s'.tab m
    by_name m (inl e) g = subst (λ (j : Name). t'.tab j ≡ s'.tab j) (sym e) (k.puts.1 ∙ sym d.puts.1)
    by_name m (inr off) (inl e) = subst (λ (j : Name). t'.tab j ≡ s'.tab j) (sym e) (k.puts.2 ∙ sym d.puts.2)
    by_name m (inr off) (inr off2) = tab_off (MoveTable n b to rec) s s' t t' same d k m (λ x. elim x [ inl e ↦ off e | inr e ↦ off2 e ])

    by_part : (m : Name) (w : Values) → Same m n → Same m to → t'.par m w ≡ s'.par m w
    by_part m w (inl e) g = subst (λ (j : Name). t'.par j w ≡ s'.par j w) (sym e) (k.puts.3 w ∙ sym (d.puts.3 w))
    by_part m w (inr off) (inl e) = subst (λ (j : Name). t'.par j w ≡ s'.par j w) (sym e) (k.puts.4 w ∙ same.par n w ∙ sym (d.puts.4 w))
    by_part m w (inr off) (inr off2) = par_off (MoveTable n b to rec) s s' t t' same d k m w (λ x. elim x [ inl e ↦ off e | inr e ↦ off2 e ])
done_same (PutPart n b v rec) s s' t t' same d k = record {
  db = db_off (PutPart n b v rec) s s' t t' same d k (λ f. f);
  tab = λ m. tab_off (PutPart n b v rec) s s' t t' same d k m (λ f. f);
  par = λ m w. by_part m w (same_name m n) (same_values w v);
}
  where
    by_part : (m : Name) (w : Values) → Same m n → Same w v → t'.par m w ≡ s'.par m w
    by_part m w (inl e) (inl f) = subst (λ (j : Name). t'.par j w ≡ s'.par j w) (sym e) (subst (λ (u : Values). t'.par n u ≡ s'.par n u) (sym f) (k.puts.1 ∙ sym d.puts.1))
    by_part m w (inl e) (inr g) = par_off (PutPart n b v rec) s s' t t' same d k m w (λ x. g x.1)
    by_part m w (inr g) f = par_off (PutPart n b v rec) s s' t t' same d k m w (λ x. g x.0)
done_same (DropPart n b v) s s' t t' same d k = record {
  db = db_off (DropPart n b v) s s' t t' same d k (λ f. f);
  tab = λ m. tab_off (DropPart n b v) s s' t t' same d k m (λ f. f);
  par = λ m w. by_part m w (same_name m n) (same_values w v);
}
  where
    by_part : (m : Name) (w : Values) → Same m n → Same w v → t'.par m w ≡ s'.par m w
    by_part m w (inl e) (inl f) = subst (λ (j : Name). t'.par j w ≡ s'.par j w) (sym e) (subst (λ (u : Values). t'.par n u ≡ s'.par n u) (sym f) (k.puts.1 ∙ sym d.puts.1))
    by_part m w (inl e) (inr g) = par_off (DropPart n b v) s s' t t' same d k m w (λ x. g x.1)
    by_part m w (inr g) f = par_off (DropPart n b v) s s' t t' same d k m w (λ x. g x.0)
done_same (MovePart n b v to rec) s s' t t' same d k = record {
  db = db_off (MovePart n b v to rec) s s' t t' same d k (λ f. f);
  tab = λ m. tab_off (MovePart n b v to rec) s s' t t' same d k m (λ f. f);
  par = λ m w. by_part m w (same_name m n) (same_values w v) (same_values w to);
}
  where
    by_part : (m : Name) (w : Values) → Same m n → Same w v → Same w to → t'.par m w ≡ s'.par m w
    by_part m w (inl e) (inl f) g = subst (λ (j : Name). t'.par j w ≡ s'.par j w) (sym e) (subst (λ (u : Values). t'.par n u ≡ s'.par n u) (sym f) (k.puts.1 ∙ sym d.puts.1))
    by_part m w (inl e) (inr f) (inl g) = subst (λ (j : Name). t'.par j w ≡ s'.par j w) (sym e) (subst (λ (u : Values). t'.par n u ≡ s'.par n u) (sym g) (k.puts.2 ∙ sym d.puts.2))
    by_part m w (inl e) (inr f) (inr g) = par_off (MovePart n b v to rec) s s' t t' same d k m w (λ x. elim x.1 [ inl y ↦ f y | inr y ↦ g y ])
    by_part m w (inr g) f h = par_off (MovePart n b v to rec) s s' t t' same d k m w (λ x. g x.0)

-- ---- marks

module _ (e : ℕ) (op : Op) (r q : Replica) (done : Done op r.objects q.objects) (marked : Marked e op r.marks q.marks) (up : MarksUpTo e r) where
  tab_mark_off : (m : Name) (x : Table) → (touches_tab op m → ⊥) → q.objects.tab m ≡ Some x → q.marks.tab m ≤ e
  tab_mark_off m x off is = let old = up.tabs m x (sym (done.tabs m off) ∙ is) in let same = marked.tabs m off in omega (arith, old, same)

  par_mark_off : (m : Name) (w : Values) (p : PartRec) → (touches_par op m w → ⊥) → q.objects.par m w ≡ Some p → q.marks.par m w ≤ e
  par_mark_off m w p off is = let old = up.parts m w p (sym (done.parts m w off) ∙ is) in let same = marked.parts m w off in omega (arith, old, same)

  db_mark_off : (touches_db op → ⊥) → q.marks.db ≤ e
  db_mark_off off = let old = up.db in let same = db_mark_of e op r.marks q.marks off marked in omega (arith, old, same)

marks_up : (e : ℕ) (op : Op) (r q : Replica) → Done op r.objects q.objects → Marked e op r.marks q.marks → MarksUpTo e r → MarksUpTo e q
marks_up e (PutDb rec) r q d k up = record {
  db = omega (arith, k.puts);
  tabs = λ m x is. tab_mark_off e (PutDb rec) r q d k up m x (λ f. f) is;
  parts = λ m w p is. par_mark_off e (PutDb rec) r q d k up m w p (λ f. f) is;
}
marks_up e DropDb r q d k up = record {
  db = db_mark_off e DropDb r q d k up (λ f. f);
  tabs = λ m x is. tab_mark_off e DropDb r q d k up m x (λ f. f) is;
  parts = λ m w p is. par_mark_off e DropDb r q d k up m w p (λ f. f) is;
}
marks_up e (PutTable n b rec) r q d k up = record {
  db = db_mark_off e (PutTable n b rec) r q d k up (λ f. f);
  tabs = λ m x is. by_name m x is (same_name m n);
  parts = λ m w p is. par_mark_off e (PutTable n b rec) r q d k up m w p (λ f. f) is;
}
  where
    by_name : (m : Name) (x : Table) → q.objects.tab m ≡ Some x → Same m n → q.marks.tab m ≤ e
    by_name m x is (inl f) = subst (λ (j : Name). q.marks.tab j ≤ e) (sym f) (omega (arith, k.puts.1))
    by_name m x is (inr off) = tab_mark_off e (PutTable n b rec) r q d k up m x off is
marks_up e (DropTable n b) r q d k up = record {
  db = db_mark_off e (DropTable n b) r q d k up (λ f. f);
  tabs = λ m x is. by_name m x is (same_name m n);
  parts = λ m w p is. by_part m w p is (same_name m n);
}
  where
    by_name : (m : Name) (x : Table) → q.objects.tab m ≡ Some x → Same m n → q.marks.tab m ≤ e
    by_name m x is (inl f) = absurd (not_both (subst (λ (j : Name). q.objects.tab j ≡ None) (sym f) d.puts.1) is)
    by_name m x is (inr off) = tab_mark_off e (DropTable n b) r q d k up m x off is

    by_part : (m : Name) (w : Values) (p : PartRec) → q.objects.par m w ≡ Some p → Same m n → q.marks.par m w ≤ e
    by_part m w p is (inl f) = absurd (not_both (subst (λ (j : Name). q.objects.par j w ≡ None) (sym f) (d.puts.2 w)) is)
    by_part m w p is (inr off) = par_mark_off e (DropTable n b) r q d k up m w p off is
marks_up e (MoveTable n b to rec) r q d k up = record {
  db = db_mark_off e (MoveTable n b to rec) r q d k up (λ f. f);
  tabs = λ m x is. by_name m x is (same_name m n) (same_name m to);
  parts = λ m w p is. by_part m w p is (same_name m n) (same_name m to);
}
  where
    by_name : (m : Name) (x : Table) → q.objects.tab m ≡ Some x → Same m n → Same m to → q.marks.tab m ≤ e
    by_name m x is (inl f) g = absurd (not_both (subst (λ (j : Name). q.objects.tab j ≡ None) (sym f) d.puts.1) is)
    by_name m x is (inr off) (inl f) = subst (λ (j : Name). q.marks.tab j ≤ e) (sym f) (omega (arith, k.puts.1))
    by_name m x is (inr off) (inr off2) = tab_mark_off e (MoveTable n b to rec) r q d k up m x (λ y. elim y [ inl f ↦ off f | inr f ↦ off2 f ]) is

    moved : (w : Values) (p : PartRec) → q.objects.par to w ≡ Some p → q.marks.par to w ≤ e
    moved w p is = let old = up.parts n w p (sym (d.puts.4 w) ∙ is) in let same = k.puts.2 w in omega (arith, old, same)

    by_part : (m : Name) (w : Values) (p : PartRec) → q.objects.par m w ≡ Some p → Same m n → Same m to → q.marks.par m w ≤ e
    by_part m w p is (inl f) g = absurd (not_both (subst (λ (j : Name). q.objects.par j w ≡ None) (sym f) (d.puts.3 w)) is)
    by_part m w p is (inr off) (inl f) = subst (λ (j : Name). q.objects.par j w ≡ Some p → q.marks.par j w ≤ e) (sym f) (moved w p) is
    by_part m w p is (inr off) (inr off2) = par_mark_off e (MoveTable n b to rec) r q d k up m w p (λ y. elim y [ inl f ↦ off f | inr f ↦ off2 f ]) is
marks_up e (PutPart n b v rec) r q d k up = record {
  db = db_mark_off e (PutPart n b v rec) r q d k up (λ f. f);
  tabs = λ m x is. tab_mark_off e (PutPart n b v rec) r q d k up m x (λ f. f) is;
  parts = λ m w p is. by_part m w p is (same_name m n) (same_values w v);
}
  where
    by_part : (m : Name) (w : Values) (p : PartRec) → q.objects.par m w ≡ Some p → Same m n → Same w v → q.marks.par m w ≤ e
    by_part m w p is (inl f) (inl g) = subst (λ (j : Name). q.marks.par j w ≤ e) (sym f) (subst (λ (u : Values). q.marks.par n u ≤ e) (sym g) (omega (arith, k.puts.1)))
    by_part m w p is (inl f) (inr g) = par_mark_off e (PutPart n b v rec) r q d k up m w p (λ x. g x.1) is
    by_part m w p is (inr g) f = par_mark_off e (PutPart n b v rec) r q d k up m w p (λ x. g x.0) is
marks_up e (DropPart n b v) r q d k up = record {
  db = db_mark_off e (DropPart n b v) r q d k up (λ f. f);
  tabs = λ m x is. tab_mark_off e (DropPart n b v) r q d k up m x (λ f. f) is;
  parts = λ m w p is. by_part m w p is (same_name m n) (same_values w v);
}
  where
    by_part : (m : Name) (w : Values) (p : PartRec) → q.objects.par m w ≡ Some p → Same m n → Same w v → q.marks.par m w ≤ e
    by_part m w p is (inl f) (inl g) = absurd (not_both (subst (λ (j : Name). q.objects.par j w ≡ None) (sym f) (subst (λ (u : Values). q.objects.par n u ≡ None) (sym g) d.puts.1)) is)
    by_part m w p is (inl f) (inr g) = par_mark_off e (DropPart n b v) r q d k up m w p (λ x. g x.1) is
    by_part m w p is (inr g) f = par_mark_off e (DropPart n b v) r q d k up m w p (λ x. g x.0) is
marks_up e (MovePart n b v to rec) r q d k up = record {
  db = db_mark_off e (MovePart n b v to rec) r q d k up (λ f. f);
  tabs = λ m x is. tab_mark_off e (MovePart n b v to rec) r q d k up m x (λ f. f) is;
  parts = λ m w p is. by_part m w p is (same_name m n) (same_values w v) (same_values w to);
}
  where
    by_part : (m : Name) (w : Values) (p : PartRec) → q.objects.par m w ≡ Some p → Same m n → Same w v → Same w to → q.marks.par m w ≤ e
    by_part m w p is (inl f) (inl g) h = absurd (not_both (subst (λ (j : Name). q.objects.par j w ≡ None) (sym f) (subst (λ (u : Values). q.objects.par n u ≡ None) (sym g) d.puts.1)) is)
    by_part m w p is (inl f) (inr g) (inl h) = subst (λ (j : Name). q.marks.par j w ≤ e) (sym f) (subst (λ (u : Values). q.marks.par n u ≤ e) (sym h) (omega (arith, k.puts.1)))
    by_part m w p is (inl f) (inr g) (inr h) = par_mark_off e (MovePart n b v to rec) r q d k up m w p (λ x. elim x.1 [ inl y ↦ g y | inr y ↦ h y ]) is
    by_part m w p is (inr g) f h = par_mark_off e (MovePart n b v to rec) r q d k up m w p (λ x. g x.0) is

-- ---- one operation, all of an event, and the event

fresh_stays : (e : ℕ) (op : Op) (r q : Replica) → Done op r.objects q.objects → Marked e op r.marks q.marks → (later : Op) → IsApart op later → IsFresh e r later → IsFresh e q later
fresh_stays e op r q d k later apart fresh = record {
  db = λ touched. let low = fresh.db touched in let same = db_mark_of e op r.marks q.marks (λ x. apart.db x touched) k in omega (arith, low, same);
  tabs = λ n x touched is.
      let low = fresh.tabs n x touched (sym (d.tabs n (λ y. apart.tabs n y touched)) ∙ is) in
      let same = k.tabs n (λ y. apart.tabs n y touched) in omega (arith, low, same);
  parts = λ n w p touched is.
      let low = fresh.parts n w p touched (sym (d.parts n w (λ y. apart.parts n w y touched)) ∙ is) in
      let same = k.parts n w (λ y. apart.parts n w y touched) in omega (arith, low, same);
}

-- on a replica that is the source, with fresh marks, an operation takes effect
takes_effect : (Sound : Op → Type 0) (e : ℕ) (op : Op) (s : Objects) (r q : Replica) → SameObjects s r.objects → Fits op s → Sound op → IsFresh e r op → Replays Sound e op r q → TookEffect Sound e op r q
takes_effect Sound e op s r q same fits sound fresh replays = elim replays [
  | inl d ↦ d
  | inr d ↦ let there = fits_same op s r.objects same fits in absurd (d.acts_not (record { sound = sound; fits = there; below = below_fresh e op r there fresh }))
]

both_fresh : (e : ℕ) (op : Op) (r q : Replica) → Done op r.objects q.objects → Marked e op r.marks q.marks → (ops : List Op) → Each (IsApart op) ops → Each (IsFresh e r) ops → Each (IsFresh e q) ops
both_fresh e op r q d k [] apart fresh = tt
both_fresh e op r q d k (later ∷ ops) apart fresh = (fresh_stays e op r q d k later apart.0 fresh.0, both_fresh e op r q d k ops apart.1 fresh.1)

-- the database stays there
pub db_stays_there : (op : Op) (s t : Objects) → Done op s t → Has s.db → Has t.db
db_stays_there (PutDb rec) s t d h = record { value = (h.value.0, rec); is = d.puts ∙ ap (with_record rec) h.is }
db_stays_there DropDb s t d h = record { value = h.value; is = d.puts ∙ h.is }
db_stays_there (PutTable n b rec) s t d h = record { value = h.value; is = d.puts.0 ∙ h.is }
db_stays_there (DropTable n b) s t d h = record { value = h.value; is = d.puts.0 ∙ h.is }
db_stays_there (MoveTable n b to rec) s t d h = record { value = h.value; is = d.puts.0 ∙ h.is }
db_stays_there (PutPart n b v rec) s t d h = record { value = h.value; is = d.puts.0 ∙ h.is }
db_stays_there (DropPart n b v) s t d h = record { value = h.value; is = d.puts.0 ∙ h.is }
db_stays_there (MovePart n b v to rec) s t d h = record { value = h.value; is = d.puts.0 ∙ h.is }

-- after some operations of an event e: the source's state now, and marks up to e
pub record LiveIn (e : ℕ) (s : Objects) (r : Replica) : Type 0 where
  pub db_there : Has r.objects.db
  pub objects : SameObjects s r.objects
  pub marks : MarksUpTo e r

live_all : (Sound : Op → Type 0) (e : ℕ) (ops : List Op) (s u : Objects) (r r' : Replica) → Steps e ops s u → AllApart ops → Each Sound ops → Each (IsFresh e r) ops → LiveIn e s r → ReplaysAll Sound e ops r r' → LiveIn e u r'
live_all Sound e [] s u r r' steps apart sound fresh live replays = record {
  db_there = record { value = live.db_there.value; is = replays.0.db ∙ live.db_there.is };
  objects = record {
    db = replays.0.db ∙ live.objects.db ∙ sym steps.db;
    tab = λ n. replays.0.tab n ∙ live.objects.tab n ∙ sym (steps.tab n);
    par = λ n w. replays.0.par n w ∙ live.objects.par n w ∙ sym (steps.par n w);
  };
  marks = record {
    db = let up = live.marks.db in omega (arith, up, replays.1.db);
    tabs = λ n x is. let up = live.marks.tabs n x (sym (replays.0.tab n) ∙ is) in let same = replays.1.tab n in omega (arith, up, same);
    parts = λ n w p is. let up = live.marks.parts n w p (sym (replays.0.par n w) ∙ is) in let same = replays.1.par n w in omega (arith, up, same);
  };
}
live_all Sound e (op ∷ ops) s u r r' steps apart sound fresh live replays =
    let t = steps.0 in
    let q = replays.0 in
    let took = takes_effect Sound e op s r q live.objects steps.1.fits sound.0 fresh.0 replays.1 in
    live_all Sound e ops t u q r' steps.2 apart.1 sound.1 (both_fresh e op r q took.objects took.marks ops apart.0 fresh.1)
    (record { db_there = db_stays_there op r.objects q.objects took.objects live.db_there; objects = done_same op s t r.objects q.objects live.objects steps.1.done took.objects; marks = marks_up e op r q took.objects took.marks live.marks }) replays.2

all_fresh : (e : ℕ) (r : Replica) → MarksUpTo e r → (ops : List Op) → Each (IsFresh (e + 1) r) ops
all_fresh e r up [] = tt
all_fresh e r up (op ∷ ops) = (
  record {
    db = λ touched. let low = up.db in omega (arith, low);
    tabs = λ n x touched is. let low = up.tabs n x is in omega (arith, low);
    parts = λ n w p touched is. let low = up.parts n w p is in omega (arith, low);
  },
  all_fresh e r up ops,
)

pub live_event : (Sound : Op → Type 0) (after : ℕ → Objects) (ops : ℕ → List Op) (made newest at e : ℕ) → Source Sound after ops made newest → made ≤ at → at ≤ e → e + 1 ≤ newest → Quiet ops at e
    → (r r' : Replica) → ReplaysAll Sound (e + 1) (ops (e + 1)) r r' → StandsLive after at r → StandsLive after (e + 1) r'
live_event Sound after ops made newest at e source from before to quiet r r' replays stands =
    let same = quiet_still Sound after ops made newest source at e from (omega (arith, to)) quiet at (omega arith) before in
    let up : MarksUpTo e r = record {
      db = let low = stands.marks.db in omega (arith, low, before);
      tabs = λ n x is. let low = stands.marks.tabs n x is in omega (arith, low, before);
      parts = λ n w p is. let low = stands.marks.parts n w p is in omega (arith, low, before);
    } in
    let start : LiveIn (e + 1) (after e) r = record {
      db_there = stands.db_there;
      objects = record {
        db = stands.objects.db ∙ sym same.db;
        tab = λ n. stands.objects.tab n ∙ sym (same.tab n);
        par = λ n w. stands.objects.par n w ∙ sym (same.par n w);
      };
      marks = record {
        db = let low = up.db in omega (arith, low);
        tabs = λ n x is. let low = up.tabs n x is in omega (arith, low);
        parts = λ n w p is. let low = up.parts n w p is in omega (arith, low);
      };
    } in
    let live = live_all Sound (e + 1) (ops (e + 1)) (after e) (after (e + 1)) r r' (source.steps e (omega (arith, from, before)) (omega (arith, to))) (source.apart (e + 1) (omega (arith, from, before)) to) (source.sound (e + 1) (omega (arith, from, before)) to)
    (all_fresh e r up (ops (e + 1))) start replays in
    record { db_there = live.db_there; objects = live.objects; marks = live.marks }
