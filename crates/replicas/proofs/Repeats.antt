-- An event that was replayed has no effect when it is replayed again.
use Rattle.std.proofs.Common.{◌≡◌, ◌⊎◌, inl, inr, ℕ, ◌<◌, List, [], ◌∷◌, length, Option, None, refl, sym, ◌∙◌, subst, arith}
use Rattle.cat_types.specs.declared.changes.Op.{Op}
use Rattle.cat_types.specs.declared.changes.Op.TheVariants.{DropDb, DropPart, DropTable, MovePart, MoveTable, PutDb, PutPart, PutTable}
use Rattle.cat_values.specs.declared.records.DbRec.{DbRec}
use Rattle.cat_values.specs.declared.records.PartRec.{PartRec}
use Rattle.replicas.specs.Keeping.{SameDb, SameTable, SamePart}
use Rattle.replicas.specs.Laws.{RepeatedReplaysDoNothing, Passes}
use Rattle.replicas.specs.Objects.{Name, Values, Replica, Has, HasBorn, Takes, SameObjects, SameMarks}
use Rattle.replicas.specs.Operations.{touches_db, touches_tab, touches_par, FitsOver}
use Rattle.replicas.specs.Replay.{Acts, TookEffect, Replays}
use Rattle.replicas.specs.Source.{AllApart, Each, IsApart}
use Rattle.replicas.specs.Stands.{ReplaysAll}
use Rattle.replicas.proofs.Basics.{not_both}
use Rattle.replicas.proofs.Untouched.{db_kept, tab_kept, par_kept}

-- all that an operation looks at is in q as it is in r
pub record LooksSame (op : Op) (r q : Replica) : Type 0 where
  pub db : touches_db op → SameDb r q
  pub tabs : (m : Name) → touches_tab op m → SameTable m r q
  pub under : (m : Name) (w : Values) → touches_par op m w → q.objects.tab m ≡ r.objects.tab m
  pub parts : (m : Name) (w : Values) → touches_par op m w → SamePart m w r q

lower : (m k e : ℕ) → m ≡ k → m < e → k < e
lower m k e same low = omega (arith, same, low)

absent_or_lower : {A : Type 0} (o p : Option A) (m k e : ℕ) → o ≡ p → m ≡ k → (o ≡ None) ⊎ (m < e) → (p ≡ None) ⊎ (k < e)
absent_or_lower o p m k e same mark h = elim h [
  | inl gone ↦ inl (sym same ∙ gone)
  | inr low ↦ inr (lower m k e mark low)
]

-- so it acts on r where it acts on q
acts_back : (Sound : Op → Type 0) (e : ℕ) (op : Op) (r q : Replica) → LooksSame op r q → Acts Sound e op q → Acts Sound e op r
acts_back Sound e (PutDb rec) r q looks a =
    let db = looks.db tt in
    record { sound = a.sound; fits = subst (λ (o : Option (ℕ × DbRec)). Has o) db.object a.fits; below = lower q.marks.db r.marks.db e db.mark a.below }
acts_back Sound e DropDb r q looks a = absurd a.fits
acts_back Sound e (PutTable n b rec) r q looks a =
    let tab = looks.tabs n refl in
    record { sound = a.sound; fits = subst (FitsOver b (length rec.keys)) tab.object a.fits; below = absent_or_lower (q.objects.tab n) (r.objects.tab n) (q.marks.tab n) (r.marks.tab n) e tab.object tab.mark a.below }
acts_back Sound e (DropTable n b) r q looks a =
    let tab = looks.tabs n refl in
    record { sound = a.sound; fits = subst (HasBorn b) tab.object a.fits; below = lower (q.marks.tab n) (r.marks.tab n) e tab.mark a.below }
acts_back Sound e (MoveTable n b to rec) r q looks a =
    let tab = looks.tabs n (inl refl) in
    record {
      sound = a.sound;
      fits = (subst (HasBorn b) tab.object a.fits.0, subst (FitsOver b (length rec.keys)) tab.object a.fits.1, sym (looks.tabs to (inr refl)).object ∙ a.fits.2);
      below = lower (q.marks.tab n) (r.marks.tab n) e tab.mark a.below;
    }
acts_back Sound e (PutPart n b v rec) r q looks a =
    let part = looks.parts n v (refl, refl) in
    record {
      sound = a.sound;
      fits = subst (Takes b (length v)) (looks.under n v (refl, refl)) a.fits;
      below = absent_or_lower (q.objects.par n v) (r.objects.par n v) (q.marks.par n v) (r.marks.par n v) e part.object part.mark a.below;
    }
acts_back Sound e (DropPart n b v) r q looks a =
    let part = looks.parts n v (refl, refl) in
    record {
      sound = a.sound;
      fits = (subst (HasBorn b) (looks.under n v (refl, refl)) a.fits.0, subst (λ (o : Option PartRec). Has o) part.object a.fits.1);
      below = lower (q.marks.par n v) (r.marks.par n v) e part.mark a.below;
    }
acts_back Sound e (MovePart n b v to rec) r q looks a =
    let part = looks.parts n v (refl, inl refl) in
    record {
      sound = a.sound;
      fits = (subst (Takes b (length to)) (looks.under n v (refl, inl refl)) a.fits.0, subst (λ (o : Option PartRec). Has o) part.object a.fits.1, sym (looks.parts n to (refl, inr refl)).object ∙ a.fits.2);
      below = lower (q.marks.par n v) (r.marks.par n v) e part.mark a.below;
    }

-- an operation that took effect doesn't act again
spent : (Sound : Op → Type 0) (e : ℕ) (op : Op) (r q : Replica) → TookEffect Sound e op r q → Acts Sound e op q → ⊥
spent Sound e (PutDb rec) r q d a = let low = a.below in let mark = d.marks.puts in omega (arith, low, mark)
spent Sound e DropDb r q d a = a.fits
spent Sound e (PutTable n b rec) r q d a = elim a.below [
  | inl gone ↦ not_both gone d.objects.puts.1
  | inr low ↦ let mark = d.marks.puts.1 in omega (arith, low, mark)
]
spent Sound e (DropTable n b) r q d a = not_both d.objects.puts.1 a.fits.is
spent Sound e (MoveTable n b to rec) r q d a = not_both d.objects.puts.1 a.fits.0.is
spent Sound e (PutPart n b v rec) r q d a = elim a.below [
  | inl gone ↦ not_both gone d.objects.puts.1
  | inr low ↦ let mark = d.marks.puts.1 in omega (arith, low, mark)
]
spent Sound e (DropPart n b v) r q d a = not_both d.objects.puts.1 a.fits.1.is
spent Sound e (MovePart n b v to rec) r q d a = not_both d.objects.puts.1 a.fits.1.is

looks_same : (op : Op) (r q : Replica) → SameObjects r.objects q.objects → SameMarks r.marks q.marks → LooksSame op r q
looks_same op r q objects marks = record {
  db = λ t. record { object = objects.db; mark = marks.db };
  tabs = λ m t. record { object = objects.tab m; mark = marks.tab m };
  under = λ m w t. objects.tab m;
  parts = λ m w t. record { object = objects.par m w; mark = marks.par m w };
}

looks_then : (op : Op) (r q r' : Replica) → LooksSame op r q → LooksSame op q r' → LooksSame op r r'
looks_then op r q r' h k = record {
  db = λ t. record { object = (k.db t).object ∙ (h.db t).object; mark = (k.db t).mark ∙ (h.db t).mark };
  tabs = λ m t. record { object = (k.tabs m t).object ∙ (h.tabs m t).object; mark = (k.tabs m t).mark ∙ (h.tabs m t).mark };
  under = λ m w t. k.under m w t ∙ h.under m w t;
  parts = λ m w t. record { object = (k.parts m w t).object ∙ (h.parts m w t).object; mark = (k.parts m w t).mark ∙ (h.parts m w t).mark };
}

-- a later operation of the event leaves all that an earlier one looks at
looks_apart : (Sound : Op → Type 0) (e : ℕ) (op later : Op) (r q : Replica) → IsApart op later → Replays Sound e later r q → LooksSame op r q
looks_apart Sound e op later r q apart replays = record {
  db = λ t. db_kept Sound e later r q replays (apart.db t);
  tabs = λ m t. tab_kept Sound e later r q replays m (apart.tabs m t);
  under = λ m w t. (tab_kept Sound e later r q replays m (apart.under m w t)).object;
  parts = λ m w t. par_kept Sound e later r q replays m w (apart.parts m w t);
}

looks_later : (Sound : Op → Type 0) (e : ℕ) (op : Op) (ops : List Op) (r q : Replica) → Each (IsApart op) ops → ReplaysAll Sound e ops r q → LooksSame op r q
looks_later Sound e op [] r q apart replays = looks_same op r q replays.0 replays.1
looks_later Sound e op (later ∷ ops) r q apart replays = looks_then op r replays.0 q (looks_apart Sound e op later r replays.0 apart.0 replays.1) (looks_later Sound e op ops replays.0 q apart.1 replays.2)

-- no operation of an event acts behind it
none_acts : (Sound : Op → Type 0) (e : ℕ) (ops : List Op) (r q : Replica) → AllApart ops → ReplaysAll Sound e ops r q → Each (λ (op : Op). Acts Sound e op q → ⊥) ops
none_acts Sound e [] r q apart replays = tt
none_acts Sound e (op ∷ ops) r q apart replays = (
  λ a.
      let here = acts_back Sound e op replays.0 q (looks_later Sound e op ops replays.0 q apart.0 replays.2) a in
      elim replays.1 [
        | inl d ↦ spent Sound e op r replays.0 d here
        | inr d ↦ d.acts_not (acts_back Sound e op r replays.0 (looks_same op r replays.0 d.objects d.marks) here)
      ],
  none_acts Sound e ops replays.0 q apart.1 replays.2,
)

none_acts_same : (Sound : Op → Type 0) (e : ℕ) (ops : List Op) (q t : Replica) → SameObjects q.objects t.objects → SameMarks q.marks t.marks → Each (λ (op : Op). Acts Sound e op q → ⊥) ops → Each (λ (op : Op). Acts Sound e op t → ⊥) ops
none_acts_same Sound e [] q t objects marks none = tt
none_acts_same Sound e (op ∷ ops) q t objects marks none = (λ a. none.0 (acts_back Sound e op q t (looks_same op q t objects marks) a), none_acts_same Sound e ops q t objects marks none.1)

then_same : (q t u : Replica) → SameObjects q.objects t.objects × SameMarks q.marks t.marks → SameObjects t.objects u.objects × SameMarks t.marks u.marks → SameObjects q.objects u.objects × SameMarks q.marks u.marks
then_same q t u h k = (
  record { db = k.0.db ∙ h.0.db; tab = λ n. k.0.tab n ∙ h.0.tab n; par = λ n w. k.0.par n w ∙ h.0.par n w },
  record { db = k.1.db ∙ h.1.db; tab = λ n. k.1.tab n ∙ h.1.tab n; par = λ n w. k.1.par n w ∙ h.1.par n w },
)

-- where no operation acts, nothing changes
all_idle : (Sound : Op → Type 0) (e : ℕ) (ops : List Op) (q q' : Replica) → Each (λ (op : Op). Acts Sound e op q → ⊥) ops → ReplaysAll Sound e ops q q' → SameObjects q.objects q'.objects × SameMarks q.marks q'.marks
all_idle Sound e [] q q' none replays = replays
all_idle Sound e (op ∷ ops) q q' none replays = elim replays.1 [
  | inl d ↦ absurd (none.0 d.acts)
  | inr d ↦ then_same q replays.0 q' (d.objects, d.marks) (all_idle Sound e ops replays.0 q' (none_acts_same Sound e ops q replays.0 d.objects d.marks none.1) replays.2)
]

pub repeats : RepeatedReplaysDoNothing
repeats test e ops r q q' apart first second = all_idle (Passes test) e ops q q' (none_acts (Passes test) e ops r q apart first) second
