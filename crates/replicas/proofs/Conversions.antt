-- From what stands at an event to what stands between two operations, and back; and the last step to live.
use Rattle.std.proofs.Common.{◌≡◌, inl, inr, ℕ, ◌+◌, ◌≤◌, max, Option, Some, None, refl, sym, ◌∙◌, subst, arith}
use Rattle.std.proofs.lemmas.Bool.{cases_lt}
use Rattle.cat_types.specs.declared.changes.Op.{Op}
use Rattle.cat_types.specs.declared.changes.Op.TheVariants.{DropDb}
use Rattle.cat_values.specs.declared.records.PartRec.{PartRec}
use Rattle.replicas.specs.Objects.{Name, Values, Table, Objects, Replica, Has, HasBorn, Together, IsPart, SameObjects, SameMarks}
use Rattle.replicas.specs.Operations.{Done}
use Rattle.replicas.specs.Replay.{Replays}
use Rattle.replicas.specs.Stands.{Somewhere, AsMarked, StandsEvents, StandsLive}
use Rattle.replicas.proofs.Basics.{not_both, has_born}
use Rattle.replicas.proofs.Between.{Since, Sometime, Between, part_stands, missing_stands, tables_stand, absents_stand, db_stands, db_still_there}

-- states that look the same stand for the same: nothing is done, and nothing had effect
module _ (after : ℕ → Objects) (lim end : ℕ) (s t : Objects) (r r' : Replica) (same : SameObjects s t) (objects : SameObjects r.objects r'.objects) (marks : SameMarks r.marks r'.marks) (between : Between after lim end s r) where
  abbrev Any : Op → Type 0
  Any op = Unit {0}

  done : Done DropDb s t
  done = record { tabs = λ m off. same.tab m; parts = λ m w off. same.par m w; puts = same.db }

  replays : Replays Any (lim + 1) DropDb r r'
  replays = inr (record { acts_not = λ a. a.fits; objects = objects; marks = marks })

  pub between_same : Between after lim end t r'
  between_same = record {
    db_there = db_still_there Any after lim end s t r r' DropDb (λ e. e) done between replays;
    db = db_stands Any after lim end s t r r' DropDb (λ e. e) done between replays;
    tables = tables_stand Any after lim end s t r r' DropDb done between replays (λ m e. e);
    absent = absents_stand Any after lim end s t r r' DropDb done between replays (λ m e. e);
    parts = λ m w p is. part_stands Any after lim end s t r r' DropDb done between replays m w p (λ e. e)
        (λ x had. (x, objects.tab m ∙ had, refl)) (λ x had le h. subst (HasBorn x.0) (sym (same.tab m)) h) is;
    missing = λ c m w not. missing_stands Any after lim end s t r r' DropDb done between replays c m w
        (λ h. record { table = subst (HasBorn c) (sym (objects.tab m)) h.table; part = subst (λ (o : Option PartRec). Has o) (sym (objects.par m w)) h.part })
        (λ h. record { table = subst (HasBorn c) (same.tab m) h.table; part = subst (λ (o : Option PartRec). Has o) (same.par m w) h.part }) not;
  }

-- nothing of the database changes from `at` to e
abbrev pub Still : (ℕ → Objects) → ℕ → ℕ → Type 0
Still after at e = (k : ℕ) → at ≤ k → k ≤ e → SameObjects (after k) (after e)

module _ (after : ℕ → Objects) (at e end : ℕ) (before : at ≤ e) (still : Still after at e) where
  since_from : (m : ℕ) (P : Objects → Type 0) → ((s t : Objects) → SameObjects s t → P s → P t) → P (after (max m at)) → Since after e (after e) m P
  since_from m P moves is = record {
    low = λ le. moves (after (max m at)) (after e) (still (max m at) (omega arith) (omega (arith, before, le))) is;
    high = λ lt. let same : max m at ≡ m = omega (arith, before, lt) in subst (λ (k : ℕ). P (after k)) same is;
  }

  sometime_from : (P : Objects → Type 0) → ((s t : Objects) → SameObjects s t → P s → P t) → Somewhere after at end P → Sometime after e end (after e) P
  sometime_from P moves h = elim (cases_lt e h.number) [
    | inl lt ↦ inr (record { number = h.number; above = lt; within = h.within; is = h.is })
    | inr le ↦ inl (moves (after h.number) (after e) (still h.number h.above le) h.is)
  ]

  pub stands_between : (begin : ℕ) (r : Replica) → StandsEvents after begin at end r → Between after e end (after e) r
  stands_between begin r h = record {
    db_there = h.db_there;
    db = λ x is. let m = h.db x is in record { mark = m.within; since = since_from r.marks.db (λ y. y.db ≡ Some x) (λ s t same had. same.db ∙ had) m.is };
    tables = λ n x is. let m = h.tables n x is in record { mark = m.within; since = since_from (r.marks.tab n) (λ y. y.tab n ≡ Some x) (λ s t same had. same.tab n ∙ had) m.is };
    absent = λ n is. sometime_from (λ y. y.tab n ≡ None) (λ s t same had. same.tab n ∙ had) (h.absent n is);
    parts = λ n w p is. let m = h.parts n w p is in record {
      table = m.table;
      there = m.there;
      mark = m.part.within;
      since = since_from (r.marks.par n w) (IsPart m.table.0 n w p) (λ s t same had. record { table = subst (HasBorn m.table.0) (sym (same.tab n)) had.table; part = same.par n w ∙ had.part }) m.part.is;
    };
    missing = λ b n w not. sometime_from (λ y. Together b n w y → ⊥)
        (λ s t same had_not h. had_not (record { table = subst (HasBorn b) (same.tab n) h.table; part = subst (λ (o : Option PartRec). Has o) (same.par n w) h.part })) (h.missing b n w not);
  }

module _ (after : ℕ → Objects) (e end : ℕ) (within : e + 1 ≤ end) where
  since_to : (m : ℕ) (P : Objects → Type 0) → Since after e (after (e + 1)) m P → P (after (max m (e + 1)))
  since_to m P h = elim (cases_lt e m) [
    | inl lt ↦ let same : m ≡ max m (e + 1) = omega (arith, lt) in subst (λ (k : ℕ). P (after k)) same (h.high lt)
    | inr le ↦ let same : e + 1 ≡ max m (e + 1) = omega (arith, le) in subst (λ (k : ℕ). P (after k)) same (h.low le)
  ]

  sometime_to : (P : Objects → Type 0) → Sometime after e end (after (e + 1)) P → Somewhere after (e + 1) end P
  sometime_to P h = elim h [
    | inl is ↦ record { number = e + 1; above = omega arith; within = within; is = is }
    | inr later ↦ record { number = later.number; above = omega (arith, later.above); within = later.within; is = later.is }
  ]

  pub between_stands : (begin : ℕ) (r : Replica) → begin ≤ e → Between after e end (after (e + 1)) r → StandsEvents after begin (e + 1) end r
  between_stands begin r begun h = record {
    begun = omega (arith, begun);
    in_range = within;
    db_there = h.db_there;
    db = λ x is. let m = h.db x is in record { within = m.mark; is = since_to r.marks.db (λ y. y.db ≡ Some x) m.since };
    tables = λ n x is. let m = h.tables n x is in record { within = m.mark; is = since_to (r.marks.tab n) (λ y. y.tab n ≡ Some x) m.since };
    absent = λ n is. sometime_to (λ y. y.tab n ≡ None) (h.absent n is);
    parts = λ n w p is. let m = h.parts n w p is in record {
      table = m.table;
      there = m.there;
      part = record { within = m.mark; is = since_to (r.marks.par n w) (IsPart m.table.0 n w p) m.since };
    };
    missing = λ b n w not. sometime_to (λ y. Together b n w y → ⊥) (h.missing b n w not);
  }

-- behind the last event the end may stand in place of every number
module _ (after : ℕ → Objects) (begin at end : ℕ) (r : Replica) (still : Still after at end) (under : (n : Name) (w : Values) → (after end).tab n ≡ None → (after end).par n w ≡ None) (h : StandsEvents after begin at end r) where
  at_end : (m : ℕ) (P : Objects → Type 0) → ((s t : Objects) → SameObjects s t → P s → P t) → AsMarked after at end m P → P (after end)
  at_end m P moves is = moves (after (max m at)) (after end) (still (max m at) (omega arith) (omega (arith, is.within, h.in_range))) is.is

  then_at_end : (P : Objects → Type 0) → ((s t : Objects) → SameObjects s t → P s → P t) → Somewhere after at end P → P (after end)
  then_at_end P moves is = moves (after is.number) (after end) (still is.number is.above is.within) is.is

  tab_is : (n : Name) (o : Option Table) → r.objects.tab n ≡ o → r.objects.tab n ≡ (after end).tab n
  tab_is n None is = is ∙ sym (then_at_end (λ y. y.tab n ≡ None) (λ s t same had. same.tab n ∙ had) (h.absent n is))
  tab_is n (Some x) is = is ∙ sym (at_end (r.marks.tab n) (λ y. y.tab n ≡ Some x) (λ s t same had. same.tab n ∙ had) (h.tables n x is))

  part_moves : (b : ℕ) (n : Name) (w : Values) (p : PartRec) (s t : Objects) → SameObjects s t → IsPart b n w p s → IsPart b n w p t
  part_moves b n w p s t same had = record { table = subst (HasBorn b) (sym (same.tab n)) had.table; part = same.par n w ∙ had.part }

  missing_moves : (b : ℕ) (n : Name) (w : Values) (s t : Objects) → SameObjects s t → (Together b n w s → ⊥) → Together b n w t → ⊥
  missing_moves b n w s t same had_not has = had_not (record { table = subst (HasBorn b) (same.tab n) has.table; part = subst (λ (o : Option PartRec). Has o) (same.par n w) has.part })

  no_part : (n : Name) (w : Values) → r.objects.par n w ≡ None → (after end).par n w ≡ None
  no_part n w gone = by_table ((after end).tab n) refl ((after end).par n w) refl
    where
      by_table : (o : Option Table) → (after end).tab n ≡ o → (q : Option PartRec) → (after end).par n w ≡ q → (after end).par n w ≡ None
      by_table None is q there = under n w is
      by_table (Some x) is None there = there
      by_table (Some x) is (Some p) there = absurd (then_at_end (λ y. Together x.0 n w y → ⊥) (missing_moves x.0 n w) (h.missing x.0 n w (λ t. not_both gone t.part.is))
          (record { table = has_born x is refl; part = record { value = p; is = there } }))

  par_is : (n : Name) (w : Values) (o : Option PartRec) → r.objects.par n w ≡ o → r.objects.par n w ≡ (after end).par n w
  par_is n w None is = is ∙ sym (no_part n w is)
  par_is n w (Some p) is = let u = h.parts n w p is in is ∙ sym (at_end (r.marks.par n w) (IsPart u.table.0 n w p) (part_moves u.table.0 n w p) u.part).part

  pub events_live : StandsLive after end r
  events_live = record {
    db_there = h.db_there;
    objects = record {
      db = h.db_there.is ∙ sym (at_end r.marks.db (λ y. y.db ≡ Some h.db_there.value) (λ s t same had. same.db ∙ had) (h.db h.db_there.value h.db_there.is));
      tab = λ n. tab_is n (r.objects.tab n) refl;
      par = λ n w. par_is n w (r.objects.par n w) refl;
    };
    marks = record {
      db = (h.db h.db_there.value h.db_there.is).within;
      tabs = λ n x is. (h.tables n x is).within;
      parts = λ n w p is. (h.parts n w p is).part.within;
    };
  }
