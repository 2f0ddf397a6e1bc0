-- Marks don't fall, and partitions stay under tables.
use Rattle.std.proofs.Common.{◌≡◌, ◌⊎◌, inl, inr, ℕ, ◌≤◌, List, [], ◌∷◌, Option, Some, None, sym, ◌∙◌, subst, arith}
use Rattle.cat_types.specs.declared.changes.Op.{Op}
use Rattle.cat_types.specs.declared.changes.Op.TheVariants.{DropDb, DropPart, DropTable, MovePart, MoveTable, PutDb, PutPart, PutTable}
use Rattle.cat_values.specs.declared.records.PartRec.{PartRec}
use Rattle.replicas.specs.Keeping.{SameTable, SamePart, IsRooted, MarksGrow}
use Rattle.replicas.specs.Laws.{MarksNeverFall, Passes, StandingIsRooted}
use Rattle.replicas.specs.Objects.{Name, Values, Table, Objects, Replica, Has}
use Rattle.replicas.specs.Operations.{touches_db, touches_tab, touches_par, Fits, Done}
use Rattle.replicas.specs.Replay.{TookEffect, Replays}
use Rattle.replicas.specs.Source.{AllApart, Each, IsApart}
use Rattle.replicas.specs.Stands.{ReplaysAll}
use Rattle.replicas.proofs.Basics.{same_name, same_values, not_both}
use Rattle.replicas.proofs.Invariants.{well_held}
use Rattle.replicas.proofs.Untouched.{db_kept, tab_kept, par_kept}

-- ---- what an operation touches can be told

abbrev pub Told : Type 0 → Type 0
Told A = A ⊎ (A → ⊥)

either : {A B : Type 0} → Told A → Told B → Told (A ⊎ B)
either (inl a) b = inl (inl a)
either (inr a) (inl b) = inl (inr b)
either (inr a) (inr b) = inr (λ h. elim h [ inl x ↦ a x | inr y ↦ b y ])

together : {A B : Type 0} → Told A → Told B → Told (A × B)
together (inl a) (inl b) = inl (a, b)
together (inl a) (inr b) = inr (λ h. b h.1)
together (inr a) b = inr (λ h. a h.0)

pub tells_db : (op : Op) → Told (touches_db op)
tells_db (PutDb rec) = inl tt
tells_db DropDb = inr (λ t. t)
tells_db (PutTable n b rec) = inr (λ t. t)
tells_db (DropTable n b) = inr (λ t. t)
tells_db (MoveTable n b to rec) = inr (λ t. t)
tells_db (PutPart n b v rec) = inr (λ t. t)
tells_db (DropPart n b v) = inr (λ t. t)
tells_db (MovePart n b v to rec) = inr (λ t. t)

pub tells_tab : (op : Op) (m : Name) → Told (touches_tab op m)
tells_tab (PutDb rec) m = inr (λ t. t)
tells_tab DropDb m = inr (λ t. t)
tells_tab (PutTable n b rec) m = same_name m n
tells_tab (DropTable n b) m = same_name m n
tells_tab (MoveTable n b to rec) m = either (same_name m n) (same_name m to)
tells_tab (PutPart n b v rec) m = inr (λ t. t)
tells_tab (DropPart n b v) m = inr (λ t. t)
tells_tab (MovePart n b v to rec) m = inr (λ t. t)

pub tells_par : (op : Op) (m : Name) (w : Values) → Told (touches_par op m w)
tells_par (PutDb rec) m w = inr (λ t. t)
tells_par DropDb m w = inr (λ t. t)
tells_par (PutTable n b rec) m w = inr (λ t. t)
tells_par (DropTable n b) m w = same_name m n
tells_par (MoveTable n b to rec) m w = either (same_name m n) (same_name m to)
tells_par (PutPart n b v rec) m w = together (same_name m n) (same_values w v)
tells_par (DropPart n b v) m w = together (same_name m n) (same_values w v)
tells_par (MovePart n b v to rec) m w = together (same_name m n) (either (same_values w v) (same_values w to))

-- ---- one operation that takes effect

module _ (Sound : Op → Type 0) (e : ℕ) (r q : Replica) where
  db_grows : (op : Op) → TookEffect Sound e op r q → touches_db op → r.marks.db ≤ q.marks.db
  db_grows (PutDb rec) d t = let low = d.acts.below in let mark = d.marks.puts in omega (arith, low, mark)
  db_grows DropDb d t = absurd t
  db_grows (PutTable n b rec) d t = absurd t
  db_grows (DropTable n b) d t = absurd t
  db_grows (MoveTable n b to rec) d t = absurd t
  db_grows (PutPart n b v rec) d t = absurd t
  db_grows (DropPart n b v) d t = absurd t
  db_grows (MovePart n b v to rec) d t = absurd t

  -- a table that is touched, and there before and behind, was put over with a greater mark
  tab_grows : (op : Op) → TookEffect Sound e op r q → (m : Name) (x y : Table) → r.objects.tab m ≡ Some x → q.objects.tab m ≡ Some y → touches_tab op m → r.marks.tab m ≤ q.marks.tab m
  tab_grows (PutDb rec) d m x y was is t = absurd t
  tab_grows DropDb d m x y was is t = absurd t
  tab_grows (PutTable n b rec) d m x y was is t = subst (λ (k : Name). r.objects.tab k ≡ Some x → r.marks.tab k ≤ q.marks.tab k) (sym t) (λ there. elim d.acts.below [
    | inl gone ↦ absurd (not_both gone there)
    | inr low ↦ let mark = d.marks.puts.1 in omega (arith, low, mark)
  ]) was
  tab_grows (DropTable n b) d m x y was is t = absurd (not_both (subst (λ (k : Name). q.objects.tab k ≡ None) (sym t) d.objects.puts.1) is)
  tab_grows (MoveTable n b to rec) d m x y was is t = elim t [
    | inl at ↦ absurd (not_both (subst (λ (k : Name). q.objects.tab k ≡ None) (sym at) d.objects.puts.1) is)
    | inr at ↦ absurd (not_both (subst (λ (k : Name). r.objects.tab k ≡ None) (sym at) d.acts.fits.2) was)
  ]
  tab_grows (PutPart n b v rec) d m x y was is t = absurd t
  tab_grows (DropPart n b v) d m x y was is t = absurd t
  tab_grows (MovePart n b v to rec) d m x y was is t = absurd t

  par_at : (m n : Name) (w v : Values) (s : Objects) (o : Option PartRec) → m ≡ n → w ≡ v → s.par n v ≡ o → s.par m w ≡ o
  par_at m n w v s o f g is = subst (λ (k : Name). s.par k w ≡ o) (sym f) (subst (λ (u : Values). s.par n u ≡ o) (sym g) is)

  par_grows : (op : Op) → IsRooted r.objects → TookEffect Sound e op r q → (m : Name) (w : Values) (p p' : PartRec) → r.objects.par m w ≡ Some p → q.objects.par m w ≡ Some p' → touches_par op m w → r.marks.par m w ≤ q.marks.par m w
  par_grows (PutDb rec) rooted d m w p p' was is t = absurd t
  par_grows DropDb rooted d m w p p' was is t = absurd t
  par_grows (PutTable n b rec) rooted d m w p p' was is t = absurd t
  par_grows (DropTable n b) rooted d m w p p' was is t = absurd (not_both (subst (λ (k : Name). q.objects.par k w ≡ None) (sym t) (d.objects.puts.2 w)) is)
  par_grows (MoveTable n b to rec) rooted d m w p p' was is t = elim t [
    | inl at ↦ absurd (not_both (subst (λ (k : Name). q.objects.par k w ≡ None) (sym at) (d.objects.puts.3 w)) is)
    | inr at ↦ absurd (not_both (subst (λ (k : Name). r.objects.tab k ≡ None) (sym at) d.acts.fits.2) (rooted m w p was).is)
  ]
  par_grows (PutPart n b v rec) rooted d m w p p' was is t =
      subst (λ (k : Name). r.objects.par k w ≡ Some p → r.marks.par k w ≤ q.marks.par k w) (sym t.0)
      (subst (λ (u : Values). r.objects.par n u ≡ Some p → r.marks.par n u ≤ q.marks.par n u) (sym t.1) (λ there. elim d.acts.below [
        | inl gone ↦ absurd (not_both gone there)
        | inr low ↦ let mark = d.marks.puts.1 in omega (arith, low, mark)
      ])) was
  par_grows (DropPart n b v) rooted d m w p p' was is t = absurd (not_both (par_at m n w v q.objects None t.0 t.1 d.objects.puts.1) is)
  par_grows (MovePart n b v to rec) rooted d m w p p' was is t = elim t.1 [
    | inl at ↦ absurd (not_both (par_at m n w v q.objects None t.0 at d.objects.puts.1) is)
    | inr at ↦ absurd (not_both (par_at m n w to r.objects None t.0 at d.acts.fits.2) was)
  ]

-- ---- partitions stay under tables

module _ (op : Op) (s t : Objects) (done : Done op s t) (rooted : IsRooted s) where
  rooted_off : ((m : Name) → touches_tab op m → ⊥) → (m : Name) (w : Values) (p : PartRec) → (touches_par op m w → ⊥) → t.par m w ≡ Some p → Has (t.tab m)
  rooted_off off m w p apart is = let had = rooted m w p (sym (done.parts m w apart) ∙ is) in record { value = had.value; is = done.tabs m (off m) ∙ had.is }

  rooted_by : (m : Name) (w : Values) (p : PartRec) → (touches_tab op m → ⊥) → (touches_par op m w → ⊥) → t.par m w ≡ Some p → Has (t.tab m)
  rooted_by m w p off apart is = let had = rooted m w p (sym (done.parts m w apart) ∙ is) in record { value = had.value; is = done.tabs m off ∙ had.is }

has_at : (s : Objects) (m n : Name) (x : Table) → m ≡ n → s.tab n ≡ Some x → Has (s.tab m)
has_at s m n x same is = record { value = x; is = subst (λ (k : Name). s.tab k ≡ Some x) (sym same) is }

pub stays_rooted : (op : Op) (s t : Objects) → Fits op s → Done op s t → IsRooted s → IsRooted t
stays_rooted (PutDb rec) s t fits d h m w p is = rooted_by (PutDb rec) s t d h m w p (λ f. f) (λ f. f) is
stays_rooted DropDb s t fits d h m w p is = rooted_by DropDb s t d h m w p (λ f. f) (λ f. f) is
stays_rooted (PutTable n b rec) s t fits d h m w p is = elim (same_name m n) [
  | inl at ↦ has_at t m n (b, rec) at d.puts.1
  | inr off ↦ rooted_by (PutTable n b rec) s t d h m w p off (λ f. f) is
]
stays_rooted (DropTable n b) s t fits d h m w p is = elim (same_name m n) [
  | inl at ↦ absurd (not_both (subst (λ (k : Name). t.par k w ≡ None) (sym at) (d.puts.2 w)) is)
  | inr off ↦ rooted_by (DropTable n b) s t d h m w p off off is
]
stays_rooted (MoveTable n b to rec) s t fits d h m w p is = elim (same_name m n) [
  | inl at ↦ absurd (not_both (subst (λ (k : Name). t.par k w ≡ None) (sym at) (d.puts.3 w)) is)
  | inr off ↦ elim (same_name m to) [
    | inl at ↦ has_at t m to (b, rec) at d.puts.2
    | inr off2 ↦ rooted_by (MoveTable n b to rec) s t d h m w p (λ f. elim f [ inl x ↦ off x | inr y ↦ off2 y ]) (λ f. elim f [ inl x ↦ off x | inr y ↦ off2 y ]) is
  ]
]
stays_rooted (PutPart n b v rec) s t fits d h m w p is = elim (same_name m n) [
  | inl at ↦ has_at t m n fits.table at (d.tabs n (λ f. f) ∙ fits.is)
  | inr off ↦ rooted_by (PutPart n b v rec) s t d h m w p (λ f. f) (λ f. off f.0) is
]
stays_rooted (DropPart n b v) s t fits d h m w p is = elim (same_name m n) [
  | inl at ↦ has_at t m n fits.0.table at (d.tabs n (λ f. f) ∙ fits.0.is)
  | inr off ↦ rooted_by (DropPart n b v) s t d h m w p (λ f. f) (λ f. off f.0) is
]
stays_rooted (MovePart n b v to rec) s t fits d h m w p is = elim (same_name m n) [
  | inl at ↦ has_at t m n fits.0.table at (d.tabs n (λ f. f) ∙ fits.0.is)
  | inr off ↦ rooted_by (MovePart n b v to rec) s t d h m w p (λ f. f) (λ f. off f.0) is
]

-- ---- one operation, and all of an event

pub op_rooted : (Sound : Op → Type 0) (e : ℕ) (op : Op) (r q : Replica) → Replays Sound e op r q → IsRooted r.objects → IsRooted q.objects
op_rooted Sound e op r q replays h = elim replays [
  | inl d ↦ stays_rooted op r.objects q.objects d.acts.fits d.objects h
  | inr d ↦ λ m w p is. let had = h m w p (sym (d.objects.par m w) ∙ is) in record { value = had.value; is = d.objects.tab m ∙ had.is }
]

equal_up : (m k : ℕ) → k ≡ m → m ≤ k
equal_up m k same = omega (arith, same)

op_grows : (Sound : Op → Type 0) (e : ℕ) (op : Op) (r q : Replica) → IsRooted r.objects → Replays Sound e op r q → MarksGrow r q
op_grows Sound e op r q rooted (inr d) = record {
  db = equal_up r.marks.db q.marks.db d.marks.db;
  tables = λ n x y was is. equal_up (r.marks.tab n) (q.marks.tab n) (d.marks.tab n);
  parts = λ n w p p' was is. equal_up (r.marks.par n w) (q.marks.par n w) (d.marks.par n w);
}
op_grows Sound e op r q rooted (inl d) = record {
  db = elim (tells_db op) [
    | inl t ↦ db_grows Sound e r q op d t
    | inr off ↦ equal_up r.marks.db q.marks.db (db_kept Sound e op r q (inl d) off).mark
  ];
  tables = λ n x y was is. elim (tells_tab op n) [
    | inl t ↦ tab_grows Sound e r q op d n x y was is t
    | inr off ↦ equal_up (r.marks.tab n) (q.marks.tab n) (tab_kept Sound e op r q (inl d) n off).mark
  ];
  parts = λ n w p p' was is. elim (tells_par op n w) [
    | inl t ↦ par_grows Sound e r q op rooted d n w p p' was is t
    | inr off ↦ equal_up (r.marks.par n w) (q.marks.par n w) (par_kept Sound e op r q (inl d) n w off).mark
  ];
}

-- operations that are apart from one leave what it touched
tab_later : (Sound : Op → Type 0) (e : ℕ) (op : Op) (ops : List Op) (q r' : Replica) → Each (IsApart op) ops → ReplaysAll Sound e ops q r' → (n : Name) → touches_tab op n → SameTable n q r'
tab_later Sound e op [] q r' apart replays n t = record { object = replays.0.tab n; mark = replays.1.tab n }
tab_later Sound e op (later ∷ ops) q r' apart replays n t =
    let one = tab_kept Sound e later q replays.0 replays.1 n (apart.0.tabs n t) in
    let more = tab_later Sound e op ops replays.0 r' apart.1 replays.2 n t in
    record { object = more.object ∙ one.object; mark = more.mark ∙ one.mark }

par_later : (Sound : Op → Type 0) (e : ℕ) (op : Op) (ops : List Op) (q r' : Replica) → Each (IsApart op) ops → ReplaysAll Sound e ops q r' → (n : Name) (w : Values) → touches_par op n w → SamePart n w q r'
par_later Sound e op [] q r' apart replays n w t = record { object = replays.0.par n w; mark = replays.1.par n w }
par_later Sound e op (later ∷ ops) q r' apart replays n w t =
    let one = par_kept Sound e later q replays.0 replays.1 n w (apart.0.parts n w t) in
    let more = par_later Sound e op ops replays.0 r' apart.1 replays.2 n w t in
    record { object = more.object ∙ one.object; mark = more.mark ∙ one.mark }

up_same : (a b c : ℕ) → a ≤ b → c ≡ b → a ≤ c
up_same a b c le same = omega (arith, le, same)

from_same : (a b c : ℕ) → b ≡ a → b ≤ c → a ≤ c
from_same a b c same le = omega (arith, same, le)

grows_then : (Sound : Op → Type 0) (e : ℕ) (op : Op) (ops : List Op) (r q r' : Replica) → Each (IsApart op) ops → Replays Sound e op r q → ReplaysAll Sound e ops q r' → MarksGrow r q → MarksGrow q r' → MarksGrow r r'
grows_then Sound e op ops r q r' apart one more h k = record {
  db = let first = h.db in let second = k.db in omega (arith, first, second);
  tables = λ n x y was is. elim (tells_tab op n) [
    | inl t ↦
        let later = tab_later Sound e op ops q r' apart more n t in
        up_same (r.marks.tab n) (q.marks.tab n) (r'.marks.tab n) (h.tables n x y was (sym later.object ∙ is)) later.mark
    | inr off ↦
        let same = tab_kept Sound e op r q one n off in
        from_same (r.marks.tab n) (q.marks.tab n) (r'.marks.tab n) same.mark (k.tables n x y (same.object ∙ was) is)
  ];
  parts = λ n w p p' was is. elim (tells_par op n w) [
    | inl t ↦
        let later = par_later Sound e op ops q r' apart more n w t in
        up_same (r.marks.par n w) (q.marks.par n w) (r'.marks.par n w) (h.parts n w p p' was (sym later.object ∙ is)) later.mark
    | inr off ↦
        let same = par_kept Sound e op r q one n w off in
        from_same (r.marks.par n w) (q.marks.par n w) (r'.marks.par n w) same.mark (k.parts n w p p' (same.object ∙ was) is)
  ];
}

pub ops_grow : (Sound : Op → Type 0) (e : ℕ) (ops : List Op) (r r' : Replica) → AllApart ops → IsRooted r.objects → ReplaysAll Sound e ops r r' → MarksGrow r r' × IsRooted r'.objects
ops_grow Sound e [] r r' apart rooted replays = (
  record {
    db = equal_up r.marks.db r'.marks.db replays.1.db;
    tables = λ n x y was is. equal_up (r.marks.tab n) (r'.marks.tab n) (replays.1.tab n);
    parts = λ n w p p' was is. equal_up (r.marks.par n w) (r'.marks.par n w) (replays.1.par n w);
  },
  λ m w p is. let had = rooted m w p (sym (replays.0.par m w) ∙ is) in record { value = had.value; is = replays.0.tab m ∙ had.is },
)
ops_grow Sound e (op ∷ ops) r r' apart rooted replays =
    let q = replays.0 in
    let more = ops_grow Sound e ops q r' apart.1 (op_rooted Sound e op r q replays.1 rooted) replays.2 in
    (grows_then Sound e op ops r q r' apart.0 replays.1 replays.2 (op_grows Sound e op r q rooted replays.1) more.0, more.1)

pub never_fall : MarksNeverFall
never_fall test e ops r r' apart rooted replays = ops_grow (Passes test) e ops r r' apart rooted replays

pub stands_rooted : StandingIsRooted
stands_rooted test after ops made newest begin at end r source low high = (
  λ h n w p is. let under = h.parts n w p is in record { value = under.table; is = under.there },
  λ h n w p is.
      let held = well_held (Passes test) after ops made newest source at low high n w p (sym (h.objects.par n w) ∙ is) in
      record { value = held.table; is = h.objects.tab n ∙ held.is },
)
