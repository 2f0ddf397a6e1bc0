-- What each operation of the source keeps, and what an event leaves alone.
use Rattle.std.proofs.Common.{◌≡◌, inl, inr, ℕ, zero, suc, ◌+◌, ◌-◌, ◌≤◌, ◌<◌, List, [], ◌∷◌, length, Option, Some, None, refl, sym, ◌∙◌, ap, subst, arith}
use Rattle.cat_types.specs.declared.changes.Op.{Op}
use Rattle.cat_types.specs.declared.changes.Op.TheVariants.{DropDb, DropPart, DropTable, MovePart, MoveTable, PutDb, PutPart, PutTable}
use Rattle.cat_values.specs.declared.records.PartRec.{PartRec}
use Rattle.replicas.specs.Objects.{Name, Values, Table, Objects, HasBorn, SameObjects}
use Rattle.replicas.specs.Operations.{touches_db, touches_tab, touches_par, Fits, Done}
use Rattle.replicas.specs.Source.{Each, Step, Steps, IsApart, Source, IsNoMove, NoMoves}
use Rattle.replicas.proofs.Basics.{Same, same_name, same_values, not_both, one, one_born, has_born}

pub each_as : {P Q : Op → Type 0} → ((op : Op) → P op → Q op) → (ops : List Op) → Each P ops → Each Q ops
each_as f [] h = tt
each_as f (op ∷ ops) h = (f op h.0, each_as f ops h.1)

-- ---- what isn't touched stays

pub steps_db : (e : ℕ) (ops : List Op) (s u : Objects) → Each (λ op. touches_db op → ⊥) ops → ((op : Op) (x y : Objects) → (touches_db op → ⊥) → Done op x y → y.db ≡ x.db) → Steps e ops s u → u.db ≡ s.db
steps_db e [] s u off one_op same = same.db
steps_db e (op ∷ ops) s u off one_op h = steps_db e ops h.0 u off.1 one_op h.2 ∙ one_op op s h.0 off.0 h.1.done

pub steps_tab : (e : ℕ) (ops : List Op) (s u : Objects) (m : Name) → Each (λ op. touches_tab op m → ⊥) ops → Steps e ops s u → u.tab m ≡ s.tab m
steps_tab e [] s u m off same = same.tab m
steps_tab e (op ∷ ops) s u m off h = steps_tab e ops h.0 u m off.1 h.2 ∙ h.1.done.tabs m off.0

pub steps_par : (e : ℕ) (ops : List Op) (s u : Objects) (m : Name) (w : Values) → Each (λ op. touches_par op m w → ⊥) ops → Steps e ops s u → u.par m w ≡ s.par m w
steps_par e [] s u m w off same = same.par m w
steps_par e (op ∷ ops) s u m w off h = steps_par e ops h.0 u m w off.1 h.2 ∙ h.1.done.parts m w off.0

-- so what an operation touched lasts to the end of its event
module _ (e : ℕ) (op : Op) (ops : List Op) (t u : Objects) (apart : Each (IsApart op) ops) (steps : Steps e ops t u) where
  pub lasts_db : ((op : Op) (x y : Objects) → (touches_db op → ⊥) → Done op x y → y.db ≡ x.db) → touches_db op → u.db ≡ t.db
  lasts_db one_op touched = steps_db e ops t u (each_as (λ later a. a.db touched) ops apart) one_op steps

  pub lasts_tab : (m : Name) → touches_tab op m → u.tab m ≡ t.tab m
  lasts_tab m touched = steps_tab e ops t u m (each_as (λ later a. a.tabs m touched) ops apart) steps

  pub lasts_par : (m : Name) (w : Values) → touches_par op m w → u.par m w ≡ t.par m w
  lasts_par m w touched = steps_par e ops t u m w (each_as (λ later a. a.parts m w touched) ops apart) steps

  pub lasts_under : (m : Name) (w : Values) → touches_par op m w → u.tab m ≡ t.tab m
  lasts_under m w touched = steps_tab e ops t u m (each_as (λ later a. a.under m w touched) ops apart) steps

-- ---- what each operation keeps

-- each partition stands under a table with as many keys as it has values, one at least
pub record HeldUnder (n : Name) (w : Values) (s : Objects) : Type 0 where
  pub table : Table
  pub is : s.tab n ≡ Some table
  pub keys : length table.1.keys ≡ length w
  pub some_key : 1 ≤ length w

abbrev pub WellHeld : Objects → Type 0
WellHeld s = (n : Name) (w : Values) (p : PartRec) → s.par n w ≡ Some p → HeldUnder n w s

-- no born is above that number
abbrev pub BornsUpTo : ℕ → Objects → Type 0
BornsUpTo k s = (n : Name) (b : ℕ) → HasBorn b (s.tab n) → b ≤ k

abbrev pub Lacks : ℕ → Name → Objects → Type 0
Lacks c n s = HasBorn c (s.tab n) → ⊥

abbrev pub KeysAs : ℕ → Name → ℕ → Objects → Type 0
KeysAs c n k s = (x : Table) → s.tab n ≡ Some x → x.0 ≡ c → length x.1.keys ≡ k

held_as : (n : Name) (w : Values) (s t : Objects) → t.tab n ≡ s.tab n → HeldUnder n w s → HeldUnder n w t
held_as n w s t same h = record { table = h.table; is = same ∙ h.is; keys = h.keys; some_key = h.some_key }

-- where neither is touched
held_off : (op : Op) (s t : Objects) → Done op s t → WellHeld s → (m : Name) (w : Values) (p : PartRec) → (touches_tab op m → ⊥) → (touches_par op m w → ⊥) → t.par m w ≡ Some p → HeldUnder m w t
held_off op s t done h m w p off1 off2 is = held_as m w s t (done.tabs m off1) (h m w p (sym (done.parts m w off2) ∙ is))

pub held_step : (op : Op) (s t : Objects) → Fits op s → Done op s t → WellHeld s → WellHeld t
held_step (PutDb rec) s t fits done h m w p is = held_off (PutDb rec) s t done h m w p (λ e. e) (λ e. e) is
held_step DropDb s t fits done h m w p is = absurd fits
held_step (PutTable n b rec) s t fits done h m w p is = by_name (same_name m n)
  where
    at_name : t.par n w ≡ Some p → HeldUnder n w t
    at_name there = let old = h n w p (sym (done.parts n w (λ e. e)) ∙ there) in record { table = (b, rec); is = done.puts.1; keys = sym (fits old.table old.is).1 ∙ old.keys; some_key = old.some_key }

    by_name : Same m n → HeldUnder m w t
    by_name (inl e) = subst (λ (k : Name). t.par k w ≡ Some p → HeldUnder k w t) (sym e) at_name is
    by_name (inr off) = held_off (PutTable n b rec) s t done h m w p off (λ e. e) is
held_step (DropTable n b) s t fits done h m w p is = by_name (same_name m n)
  where
    by_name : Same m n → HeldUnder m w t
    by_name (inl e) = absurd (not_both (subst (λ (k : Name). t.par k w ≡ None) (sym e) (done.puts.2 w)) is)
    by_name (inr off) = held_off (DropTable n b) s t done h m w p off off is
held_step (MoveTable n b to rec) s t fits done h m w p is = by_name (same_name m n) (same_name m to)
  where
    at_name : t.par to w ≡ Some p → HeldUnder to w t
    at_name there = let old = h n w p (sym (done.puts.4 w) ∙ there) in record { table = (b, rec); is = done.puts.2; keys = sym (fits.1 old.table old.is).1 ∙ old.keys; some_key = old.some_key }

    by_name : Same m n → Same m to → HeldUnder m w t
    by_name (inl e) f = absurd (not_both (subst (λ (k : Name). t.par k w ≡ None) (sym e) (done.puts.3 w)) is)
    by_name (inr off) (inl e) = subst (λ (k : Name). t.par k w ≡ Some p → HeldUnder k w t) (sym e) at_name is
    by_name (inr off) (inr off2) = held_off (MoveTable n b to rec) s t done h m w p (λ x. elim x [ inl e ↦ off e | inr e ↦ off2 e ]) (λ x. elim x [ inl e ↦ off e | inr e ↦ off2 e ]) is
held_step (PutPart n b v rec) s t fits done h m w p is = by_place (same_name m n) (same_values w v)
  where
    at_place : HeldUnder n v t
    at_place = record { table = fits.table; is = done.tabs n (λ e. e) ∙ fits.is; keys = fits.keys; some_key = fits.some_key }

    by_place : Same m n → Same w v → HeldUnder m w t
    by_place (inl e) (inl f) = subst (λ (k : Name). HeldUnder k w t) (sym e) (subst (λ (u : Values). HeldUnder n u t) (sym f) at_place)
    by_place (inl e) (inr g) = held_off (PutPart n b v rec) s t done h m w p (λ x. x) (λ x. g x.1) is
    by_place (inr g) f = held_off (PutPart n b v rec) s t done h m w p (λ x. x) (λ x. g x.0) is
held_step (DropPart n b v) s t fits done h m w p is = by_place (same_name m n) (same_values w v)
  where
    by_place : Same m n → Same w v → HeldUnder m w t
    by_place (inl e) (inl f) = absurd (not_both (subst (λ (k : Name). t.par k w ≡ None) (sym e) (subst (λ (u : Values). t.par n u ≡ None) (sym f) done.puts.1)) is)
    by_place (inl e) (inr g) = held_off (DropPart n b v) s t done h m w p (λ x. x) (λ x. g x.1) is
    by_place (inr g) f = held_off (DropPart n b v) s t done h m w p (λ x. x) (λ x. g x.0) is
held_step (MovePart n b v to rec) s t fits done h m w p is = by_place (same_name m n) (same_values w v) (same_values w to)
  where
    at_place : HeldUnder n to t
    at_place = record { table = fits.0.table; is = done.tabs n (λ e. e) ∙ fits.0.is; keys = fits.0.keys; some_key = fits.0.some_key }

    by_place : Same m n → Same w v → Same w to → HeldUnder m w t
    by_place (inl e) (inl f) g = absurd (not_both (subst (λ (k : Name). t.par k w ≡ None) (sym e) (subst (λ (u : Values). t.par n u ≡ None) (sym f) done.puts.1)) is)
    by_place (inl e) (inr f) (inl g) = subst (λ (k : Name). HeldUnder k w t) (sym e) (subst (λ (u : Values). HeldUnder n u t) (sym g) at_place)
    by_place (inl e) (inr f) (inr g) = held_off (MovePart n b v to rec) s t done h m w p (λ x. x) (λ x. elim x.1 [ inl y ↦ f y | inr y ↦ g y ]) is
    by_place (inr e) f g = held_off (MovePart n b v to rec) s t done h m w p (λ x. x) (λ x. e x.0) is

-- a table behind an operation other than a move: it was there with its born and as many keys, or it is new, or it was there as it is
pub data Came (e : ℕ) (op : Op) (s : Objects) (m : Name) (x : Table) : Type 0 where
  stayed : s.tab m ≡ Some x → Came e op s m x
  changed : (y : Table) → s.tab m ≡ Some y → y.0 ≡ x.0 → length y.1.keys ≡ length x.1.keys → Came e op s m x
  created : x.0 ≡ e → Came e op s m x

pub came : (e : ℕ) (op : Op) (s t : Objects) → IsNoMove op → Step e op s t → (m : Name) (x : Table) → t.tab m ≡ Some x → Came e op s m x
came e (PutDb rec) s t nm h m x is = stayed (sym (h.done.tabs m (λ f. f)) ∙ is)
came e DropDb s t nm h m x is = absurd h.fits
came e (PutTable n b rec) s t nm h m x is = by_name (same_name m n)
  where
    at_name : t.tab n ≡ Some x → Came e (PutTable n b rec) s n x
    at_name there = by_table (s.tab n) refl
      where
        same : (b, rec) ≡ x
        same = one h.done.puts.1 there

        by_table : (o : Option Table) → s.tab n ≡ o → Came e (PutTable n b rec) s n x
        by_table None gone = created (ap (λ (y : Table). y.0) (sym same) ∙ h.new gone)
        by_table (Some y) had = let f = h.fits y had in changed y had (f.0 ∙ ap (λ (z : Table). z.0) same) (f.1 ∙ ap (λ (z : Table). length z.1.keys) same)

    by_name : Same m n → Came e (PutTable n b rec) s m x
    by_name (inl f) = subst (λ (k : Name). t.tab k ≡ Some x → Came e (PutTable n b rec) s k x) (sym f) at_name is
    by_name (inr off) = stayed (sym (h.done.tabs m off) ∙ is)
came e (DropTable n b) s t nm h m x is = by_name (same_name m n)
  where
    by_name : Same m n → Came e (DropTable n b) s m x
    by_name (inl f) = absurd (not_both (subst (λ (k : Name). t.tab k ≡ None) (sym f) h.done.puts.1) is)
    by_name (inr off) = stayed (sym (h.done.tabs m off) ∙ is)
came e (MoveTable n b to rec) s t nm h m x is = absurd nm
came e (PutPart n b v rec) s t nm h m x is = stayed (sym (h.done.tabs m (λ f. f)) ∙ is)
came e (DropPart n b v) s t nm h m x is = stayed (sym (h.done.tabs m (λ f. f)) ∙ is)
came e (MovePart n b v to rec) s t nm h m x is = absurd nm

borns_by : (e : ℕ) (op : Op) (s : Objects) (m : Name) (x : Table) → BornsUpTo e s → Came e op s m x → x.0 ≤ e
borns_by e op s m x h (stayed is) = h m x.0 (has_born x is refl)
borns_by e op s m x h (changed y is born keys) = h m x.0 (has_born y is born)
borns_by e op s m x h (created is) = omega (arith, is)

no_move_or : (e : ℕ) (op : Op) (s t : Objects) → Step e op s t → BornsUpTo e s → BornsUpTo e t
no_move_or e (MoveTable n b to rec) s t h up m c has = by_name (same_name m n) (same_name m to)
  where
    at_name : HasBorn c (t.tab to) → c ≤ e
    at_name there = let same : b ≡ c = one_born there h.done.puts.2 in up n c (subst (λ (k : ℕ). HasBorn k (s.tab n)) same h.fits.0)

    by_name : Same m n → Same m to → c ≤ e
    by_name (inl f) g = absurd (not_both (subst (λ (k : Name). t.tab k ≡ None) (sym f) h.done.puts.1) has.is)
    by_name (inr off) (inl f) = at_name (subst (λ (k : Name). HasBorn c (t.tab k)) f has)
    by_name (inr off) (inr off2) = up m c (subst (HasBorn c) (h.done.tabs m (λ x. elim x [ inl f ↦ off f | inr f ↦ off2 f ])) has)
no_move_or e (MovePart n b v to rec) s t h up m c has = up m c (subst (HasBorn c) (h.done.tabs m (λ f. f)) has)
no_move_or e (PutDb rec) s t h up m c has = let g : has.table.0 ≤ e = borns_by e (PutDb rec) s m has.table up (came e (PutDb rec) s t tt h m has.table has.is) in omega (arith, g, has.born)
no_move_or e DropDb s t h up m c has = absurd h.fits
no_move_or e (PutTable n b rec) s t h up m c has = let g : has.table.0 ≤ e = borns_by e (PutTable n b rec) s m has.table up (came e (PutTable n b rec) s t tt h m has.table has.is) in omega (arith, g, has.born)
no_move_or e (DropTable n b) s t h up m c has = let g : has.table.0 ≤ e = borns_by e (DropTable n b) s m has.table up (came e (DropTable n b) s t tt h m has.table has.is) in omega (arith, g, has.born)
no_move_or e (PutPart n b v rec) s t h up m c has = up m c (subst (HasBorn c) (h.done.tabs m (λ f. f)) has)
no_move_or e (DropPart n b v) s t h up m c has = up m c (subst (HasBorn c) (h.done.tabs m (λ f. f)) has)

pub borns_step : (e : ℕ) (op : Op) (s t : Objects) → Step e op s t → BornsUpTo e s → BornsUpTo e t
borns_step = no_move_or

pub lacks_step : (e : ℕ) (op : Op) (s t : Objects) (c : ℕ) (n : Name) → c < e → IsNoMove op → Step e op s t → Lacks c n s → Lacks c n t
lacks_step e op s t c n low nm h lacks has = by_case (came e op s t nm h n has.table has.is)
  where
    by_case : Came e op s n has.table → ⊥
    by_case (stayed is) = lacks (has_born has.table is has.born)
    by_case (changed y is born keys) = lacks (has_born y is (born ∙ has.born))
    by_case (created is) = omega (arith, low, is, has.born)

pub keys_step : (e : ℕ) (op : Op) (s t : Objects) (c : ℕ) (n : Name) (k : ℕ) → c < e → IsNoMove op → Step e op s t → KeysAs c n k s → KeysAs c n k t
keys_step e op s t c n k low nm h keys x is born = by_case (came e op s t nm h n x is)
  where
    by_case : Came e op s n x → length x.1.keys ≡ k
    by_case (stayed had) = keys x had born
    by_case (changed y had same count) = sym count ∙ keys y had (same ∙ born)
    by_case (created new) = absurd (omega (arith, low, new, born))

-- ---- over all operations of an event, and over events

pub steps_keep : (P : Objects → Type 0) (Q : Op → Type 0) (e : ℕ) → ((s t : Objects) → SameObjects s t → P s → P t) → ((op : Op) (s t : Objects) → Q op → Step e op s t → P s → P t)
    → (ops : List Op) → Each Q ops → (s u : Objects) → Steps e ops s u → P s → P u
steps_keep P Q e moves keeps [] q s u steps h = moves s u steps h
steps_keep P Q e moves keeps (op ∷ ops) q s u steps h = steps_keep P Q e moves keeps ops q.1 steps.0 u steps.2 (keeps op s steps.0 q.0 steps.1 h)

count_up : (after : ℕ → Objects) (P : ℕ → Objects → Type 0) (from : ℕ) → P from (after from) → (d : ℕ) → ((e : ℕ) → from ≤ e → e < from + d → P e (after e) → P (e + 1) (after (e + 1))) → P (from + d) (after (from + d))
count_up after P from start zero keeps = let same : from ≡ from + zero = omega arith in subst (λ (k : ℕ). P k (after k)) same start
count_up after P from start (suc d) keeps =
    let same : (from + d) + 1 ≡ from + suc d = omega arith in
    subst (λ (k : ℕ). P k (after k)) same (keeps (from + d) (omega arith) (omega arith) (count_up after P from start d (λ e le lt h. keeps e le (omega (arith, lt)) h)))

pub numbers_up : (after : ℕ → Objects) (P : ℕ → Objects → Type 0) (from k : ℕ) → from ≤ k → P from (after from) → ((e : ℕ) → from ≤ e → e < k → P e (after e) → P (e + 1) (after (e + 1))) → P k (after k)
numbers_up after P from k le start keeps =
    let same : from + (k - from) ≡ k = omega (arith, le) in
    subst (λ (j : ℕ). P j (after j)) same (count_up after P from start (k - from) (λ e low lt h. keeps e low (omega (arith, lt, le)) h))

any : (ops : List Op) → Each (λ op. Unit {0}) ops
any [] = tt
any (op ∷ ops) = (tt, any ops)

module _ (Sound : Op → Type 0) (after : ℕ → Objects) (ops : ℕ → List Op) (made newest : ℕ) (source : Source Sound after ops made newest) where
  pub well_held : (k : ℕ) → made ≤ k → k ≤ newest → WellHeld (after k)
  well_held k from to = numbers_up after (λ j s. WellHeld s) made k from (λ n w p is. absurd (not_both (source.no_parts n w) is))
      (λ e low lt h. steps_keep WellHeld (λ op. Unit {0}) (e + 1) (λ s t same held n w p is. held_as n w s t (same.tab n) (held n w p (sym (same.par n w) ∙ is)))
      (λ op s t q step held. held_step op s t step.fits step.done held) (ops (e + 1)) (any (ops (e + 1))) (after e) (after (e + 1)) (source.steps e low (omega (arith, lt, to))) h)

  pub borns_up : (k : ℕ) → made ≤ k → k ≤ newest → BornsUpTo k (after k)
  borns_up k from to = numbers_up after BornsUpTo made k from (λ n b has. absurd (not_both (source.no_tables n) has.is))
      (λ e low lt h. steps_keep (BornsUpTo (e + 1)) (λ op. Unit {0}) (e + 1) (λ s t same up n b has. up n b (subst (HasBorn b) (same.tab n) has))
      (λ op s t q step up. borns_step (e + 1) op s t step up) (ops (e + 1)) (any (ops (e + 1))) (after e) (after (e + 1)) (source.steps e low (omega (arith, lt, to))) (λ n b has. let le : b ≤ e = h n b has in omega (arith, le)))

  -- where nothing is moved, a born that is gone stays gone
  pub gone_later : (begin end : ℕ) → NoMoves ops begin end → made ≤ begin → end ≤ newest → (c : ℕ) (n : Name) (e k : ℕ) → begin ≤ e → e ≤ k → k ≤ end → c ≤ e → Lacks c n (after e) → Lacks c n (after k)
  gone_later begin end still lowest to c n e k from le within low lacks = numbers_up after (λ j s. Lacks c n s) e k le lacks
      (λ j up lt h. steps_keep (Lacks c n) IsNoMove (j + 1) (λ s t same has_not has. has_not (subst (HasBorn c) (same.tab n) has))
      (λ op s t nm step has_not. lacks_step (j + 1) op s t c n (omega (arith, low, up)) nm step has_not) (ops (j + 1)) (still (j + 1) (omega (arith, from, up)) (omega (arith, lt, within))) (after j) (after (j + 1))
      (source.steps j (omega (arith, lowest, from, up)) (omega (arith, lt, within, to))) h)

  -- and a born fixes the number of keys
  pub keys_later : (begin end : ℕ) → NoMoves ops begin end → made ≤ begin → end ≤ newest → (c : ℕ) (n : Name) (count : ℕ) (e k : ℕ) → begin ≤ e → e ≤ k → k ≤ end → c ≤ e → KeysAs c n count (after e) → KeysAs c n count (after k)
  keys_later begin end still lowest to c n count e k from le within low keys = numbers_up after (λ j s. KeysAs c n count s) e k le keys
      (λ j up lt h. steps_keep (KeysAs c n count) IsNoMove (j + 1) (λ s t same had x is born. had x (sym (same.tab n) ∙ is) born)
      (λ op s t nm step had. keys_step (j + 1) op s t c n count (omega (arith, low, up)) nm step had) (ops (j + 1)) (still (j + 1) (omega (arith, from, up)) (omega (arith, lt, within))) (after j) (after (j + 1))
      (source.steps j (omega (arith, lowest, from, up)) (omega (arith, lt, within, to))) h)
