-- A kind of value is determined by the text at whose front it stands, and so is the stop of one; and what is made of determined kinds is determined.
use Rattle.std.proofs.Common.{◌≡◌, ℕ, ◌+◌, ◌<◌, ◌⊎◌, List, [], ◌++◌, length, take, sym, ap, ◌∙◌, subst, append_assoc, append-nil, arith, inl, inr, length-append}
use Rattle.std.proofs.lemmas.List.{append_cancel_left}
use Rattle.std.proofs.Math.Seq.{take-append_seam}
use Rattle.thrift_binary.specs.Taking.{Stop, Cut, moved}
use Rattle.thrift_binary.specs.Wire.{IsThen, StopsThen, StopsShort}

-- ---- the front of a text

-- fronts of one length are equal
pub front_same : (x y u v : List ℕ) → length x ≡ length y → x ++ u ≡ y ++ v → x ≡ y
front_same x y u v len e = sym (take-append_seam x u) ∙ ap (take (length x)) e ∙ ap (λ n. take n (y ++ v)) len ∙ take-append_seam y v

-- what stands behind equal fronts is equal
pub rest_same : (x y u v : List ℕ) → x ≡ y → x ++ u ≡ y ++ v → u ≡ v
rest_same x y u v same e = append_cancel_left y u v (ap (λ t. t ++ u) (sym same) ∙ e)

-- parts put together in another way
pub regrouped : (x x1 x2 u y y1 y2 v : List ℕ) → x ≡ x1 ++ x2 → y ≡ y1 ++ y2 → x ++ u ≡ y ++ v → x1 ++ (x2 ++ u) ≡ y1 ++ (y2 ++ v)
regrouped x x1 x2 u y y1 y2 v p q e = sym (append_assoc x1 x2 u) ∙ ap (λ t. t ++ u) (sym p) ∙ e ∙ ap (λ t. t ++ v) q ∙ append_assoc y1 y2 v

pub regrouped_right : (x u y y1 y2 v : List ℕ) → y ≡ y1 ++ y2 → x ++ u ≡ y ++ v → x ++ u ≡ y1 ++ (y2 ++ v)
regrouped_right x u y y1 y2 v q e = e ∙ ap (λ t. t ++ v) q ∙ append_assoc y1 y2 v

pub regrouped_left : (x x1 x2 u y v : List ℕ) → x ≡ x1 ++ x2 → x ++ u ≡ y ++ v → x1 ++ (x2 ++ u) ≡ y ++ v
regrouped_left x x1 x2 u y v p e = sym (append_assoc x1 x2 u) ∙ ap (λ t. t ++ u) (sym p) ∙ e

pub split_length : (x x1 x2 : List ℕ) → x ≡ x1 ++ x2 → length x ≡ length x1 + length x2
split_length x x1 x2 p = ap length p ∙ length-append x1 x2

pub pair_same : {A B : Type 0} (a b : A × B) → a.0 ≡ b.0 → a.1 ≡ b.1 → a ≡ b
pair_same {A} {B} a b p q =
    let first : A → A × B = λ c. (c, a.1) in
    let second : B → A × B = λ d. (b.0, d) in
    ap first p ∙ ap second q

-- ---- stops

-- the bytes x ended too soon, and y has more
abbrev pub Short : Stop → List ℕ → List ℕ → Type 0
Short s x y = (s ≡ Cut) × (length x < length y)

-- two stops in one text are the same, or one ended too soon
abbrev pub Agree : Stop → Stop → List ℕ → List ℕ → Type 0
Agree s t x y = (s ≡ t) ⊎ Short s x y ⊎ Short t y x

-- In a text stands at most one value of this kind or one stop; only bytes that end too soon are a stop of what more bytes spell.
pub record Determined {A : Type 0} (P : A → List ℕ → Type 0) (S : Stop → List ℕ → Type 0) : Type 0 where
  pub one : (a b : A) (x y u v : List ℕ) → P a x → P b y → x ++ u ≡ y ++ v → (a ≡ b) × (x ≡ y)
  pub hinders : (s : Stop) (a : A) (x y u v : List ℕ) → S s x → P a y → x ++ u ≡ y ++ v → Short s x y
  pub agree : (s t : Stop) (x y u v : List ℕ) → S s x → S t y → x ++ u ≡ y ++ v → Agree s t x y

-- a value that begins another one is it
pub no_proper_front : {A : Type 0} (P : A → List ℕ → Type 0) (S : Stop → List ℕ → Type 0) → Determined P S → (a b : A) (x more : List ℕ) → P a x → P b (x ++ more) → (more ≡ []) × (a ≡ b)
no_proper_front {A} P S d a b x more p q =
    let same = d.one a b x (x ++ more) more [] p q (sym (append-nil (x ++ more))) in
    (append_cancel_left x more [] (sym same.1 ∙ sym (append-nil x)), same.0)

pub short_moved : (n m : ℕ) (s s' : Stop) (x x' y y' : List ℕ) → n ≡ m → s' ≡ moved n s → length x' ≡ n + length x → length y' ≡ m + length y → Short s x y → Short s' x' y'
short_moved n m s s' x x' y y' same is len_x len_y short = (is ∙ ap (moved n) short.0, omega (arith, same, len_x, len_y, short.1))

pub agree_moved : (n m : ℕ) (s s' t t' : Stop) (x x' y y' : List ℕ) → n ≡ m → s' ≡ moved n s → t' ≡ moved m t → length x' ≡ n + length x → length y' ≡ m + length y → Agree s t x y → Agree s' t' x' y'
agree_moved n m s s' t t' x x' y y' same is it len_x len_y (inl both) = inl (is ∙ ap (moved n) both ∙ ap (λ k. moved k t) same ∙ sym it)
agree_moved n m s s' t t' x x' y y' same is it len_x len_y (inr (inl short)) = inr (inl (short_moved n m s s' x x' y y' same is len_x len_y short))
agree_moved n m s s' t t' x x' y y' same is it len_x len_y (inr (inr short)) = inr (inr (short_moved m n t t' y y' x x' (sym same) it len_y len_x short))

-- ---- one value behind another

module _ {A B : Type 0} (First : A → List ℕ → Type 0) (Stopped : Stop → List ℕ → Type 0) (Second : A → B → List ℕ → Type 0) (StopsSecond : A → Stop → List ℕ → Type 0) where
  one_then : Determined First Stopped → ((a : A) → Determined (Second a) (StopsSecond a)) → (a b : A × B) (x y u v : List ℕ) → IsThen First Second a.0 a.1 x → IsThen First Second b.0 b.1 y → x ++ u ≡ y ++ v → (a ≡ b) × (x ≡ y)
  one_then d f a b x y u v p q e =
      let together = regrouped x p.0 p.1 u y q.0 q.1 v p.2 q.2 e in
      let firsts = d.one a.0 b.0 p.0 q.0 (p.1 ++ u) (q.1 ++ v) p.3 q.3 together in
      let behind = rest_same p.0 q.0 (p.1 ++ u) (q.1 ++ v) firsts.1 together in
      let e2 = f b.0 in
      let seconds = e2.one a.1 b.1 p.1 q.1 u v (subst (λ (c : A). Second c a.1 p.1) firsts.0 p.4) q.4 behind in
      (pair_same a b firsts.0 seconds.0, p.2 ∙ ap (λ t. t ++ p.1) firsts.1 ∙ ap (λ t. q.0 ++ t) seconds.1 ∙ sym q.2)

  hinders_then : Determined First Stopped → ((a : A) → Determined (Second a) (StopsSecond a)) → (s : Stop) (a : A × B) (x y u v : List ℕ) → StopsThen First Stopped StopsSecond s x → IsThen First Second a.0 a.1 y → x ++ u ≡ y ++ v → Short s x y
  hinders_then d f s a x y u v (inl stop) q e =
      let short = d.hinders s a.0 x q.0 u (q.1 ++ v) stop q.3 (regrouped_right x u y q.0 q.1 v q.2 e) in
      (short.0, omega (arith, short.1, split_length y q.0 q.1 q.2))
  hinders_then d f s a x y u v (inr p) q e =
      let together = regrouped x p.1 p.2 u y q.0 q.1 v p.4 q.2 e in
      let firsts = d.one p.0 a.0 p.1 q.0 (p.2 ++ u) (q.1 ++ v) p.5 q.3 together in
      let behind = rest_same p.1 q.0 (p.2 ++ u) (q.1 ++ v) firsts.1 together in
      let e2 = f a.0 in
      let short = e2.hinders p.3 a.1 p.2 q.1 u v (subst (λ (c : A). StopsSecond c p.3 p.2) firsts.0 p.7) q.4 behind in
      short_moved (length p.1) (length q.0) p.3 s p.2 x q.1 y (ap length firsts.1) p.6 (split_length x p.1 p.2 p.4) (split_length y q.0 q.1 q.2) short

  agree_then : Determined First Stopped → ((a : A) → Determined (Second a) (StopsSecond a)) → (s t : Stop) (x y u v : List ℕ) → StopsThen First Stopped StopsSecond s x → StopsThen First Stopped StopsSecond t y → x ++ u ≡ y ++ v → Agree s t x y
  agree_then d f s t x y u v (inl p) (inl q) e = d.agree s t x y u v p q e
  agree_then d f s t x y u v (inl p) (inr q) e =
      let short = d.hinders s q.0 x q.1 u (q.2 ++ v) p q.5 (regrouped_right x u y q.1 q.2 v q.4 e) in
      inr (inl (short.0, omega (arith, short.1, split_length y q.1 q.2 q.4)))
  agree_then d f s t x y u v (inr p) (inl q) e =
      let short = d.hinders t p.0 y p.1 v (p.2 ++ u) q p.5 (regrouped_right y v x p.1 p.2 u p.4 (sym e)) in
      inr (inr (short.0, omega (arith, short.1, split_length x p.1 p.2 p.4)))
  agree_then d f s t x y u v (inr p) (inr q) e =
      let together = regrouped x p.1 p.2 u y q.1 q.2 v p.4 q.4 e in
      let firsts = d.one p.0 q.0 p.1 q.1 (p.2 ++ u) (q.2 ++ v) p.5 q.5 together in
      let behind = rest_same p.1 q.1 (p.2 ++ u) (q.2 ++ v) firsts.1 together in
      let e2 = f q.0 in
      let agreed = e2.agree p.3 q.3 p.2 q.2 u v (subst (λ (c : A). StopsSecond c p.3 p.2) firsts.0 p.7) q.7 behind in
      agree_moved (length p.1) (length q.1) p.3 s q.3 t p.2 x q.2 y (ap length firsts.1) p.6 q.6 (split_length x p.1 p.2 p.4) (split_length y q.1 q.2 q.4) agreed

  pub determined_then : Determined First Stopped → ((a : A) → Determined (Second a) (StopsSecond a)) → Determined {A = A × B} (λ a. IsThen First Second a.0 a.1) (StopsThen First Stopped StopsSecond)
  determined_then d f = record { one = one_then d f; hinders = hinders_then d f; agree = agree_then d f }

-- ---- a kind of value that is told by one that is determined

module _ {A C : Type 0} (P : A → List ℕ → Type 0) (S : Stop → List ℕ → Type 0) (Q : C → List ℕ → Type 0) (T : Stop → List ℕ → Type 0) (Told : C → A → Type 0) where
  one_by : Determined P S → ((c : C) (x : List ℕ) → Q c x → (a : A) × P a x × Told c a) → ((c d : C) (a : A) → Told c a → Told d a → c ≡ d) → (c d : C) (x y u v : List ℕ) → Q c x → Q d y → x ++ u ≡ y ++ v → (c ≡ d) × (x ≡ y)
  one_by d parts same c c' x y u v p q e =
      let p1 = parts c x p in
      let q1 = parts c' y q in
      let both = d.one p1.0 q1.0 x y u v p1.1 q1.1 e in
      (same c c' q1.0 (subst (Told c) both.0 p1.2) q1.2, both.1)

  pub determined_by : Determined P S → ((c : C) (x : List ℕ) → Q c x → (a : A) × P a x × Told c a) → ((c d : C) (a : A) → Told c a → Told d a → c ≡ d) → ((s : Stop) (x : List ℕ) → T s x → S s x) → Determined Q T
  determined_by d parts same stops = record {
    one = one_by d parts same;
    hinders = (λ s c x y u v p q e. let q1 = parts c y q in d.hinders s q1.0 x y u v (stops s x p) q1.1 e);
    agree = (λ s t x y u v p q e. d.agree s t x y u v (stops s x p) (stops t y q) e);
  }

-- ---- a kind of value with a condition, whose breach is a stop

module _ {A : Type 0} (P : A → List ℕ → Type 0) (S : Stop → List ℕ → Type 0) (If : A → Type 0) (T : Stop → List ℕ → Type 0) (why : Stop) where
  -- a stop of the kind, or a value that breaks the condition
  abbrev StopsOrBreaks : Stop → List ℕ → Type 0
  StopsOrBreaks s x = S s x ⊎ ((a : A) × P a x × (If a → ⊥) × (s ≡ why))

  hinders_where : Determined P S → (s : Stop) (a : A) (x y u v : List ℕ) → StopsOrBreaks s x → P a y × If a → x ++ u ≡ y ++ v → Short s x y
  hinders_where d s a x y u v (inl p) q e = d.hinders s a x y u v p q.0 e
  hinders_where d s a x y u v (inr p) q e =
      let both = d.one p.0 a x y u v p.1 q.0 e in
      absurd (p.2 (subst If (sym both.0) q.1))

  agree_where : Determined P S → (s t : Stop) (x y u v : List ℕ) → StopsOrBreaks s x → StopsOrBreaks t y → x ++ u ≡ y ++ v → Agree s t x y
  agree_where d s t x y u v (inl p) (inl q) e = d.agree s t x y u v p q e
  agree_where d s t x y u v (inl p) (inr q) e = inr (inl (d.hinders s q.0 x y u v p q.1 e))
  agree_where d s t x y u v (inr p) (inl q) e = inr (inr (d.hinders t p.0 y x v u q p.1 (sym e)))
  agree_where d s t x y u v (inr p) (inr q) e = inl (p.3 ∙ sym q.3)

  pub determined_where : Determined P S → ((s : Stop) (x : List ℕ) → T s x → StopsOrBreaks s x) → Determined (λ a x. P a x × If a) T
  determined_where d stops = record {
    one = (λ a b x y u v p q e. d.one a b x y u v p.0 q.0 e);
    hinders = (λ s a x y u v p q e. hinders_where d s a x y u v (stops s x p) q e);
    agree = (λ s t x y u v p q e. agree_where d s t x y u v (stops s x p) (stops t y q) e);
  }

-- ---- a kind of value with so many bytes, which are judged when they are there

module _ {A : Type 0} (P : A → List ℕ → Type 0) (S : Stop → List ℕ → Type 0) (F : Stop → List ℕ → Type 0) (n : ℕ) where
  -- what is known of the kind and of its faults, over the same bytes
  pub record Judged : Type 0 where
    pub stops : (s : Stop) (x : List ℕ) → S s x → StopsShort n s x ⊎ F s x
    pub wide : (a : A) (x : List ℕ) → P a x → length x ≡ n
    pub fault_wide : (s : Stop) (x : List ℕ) → F s x → length x ≡ n
    pub same : (a b : A) (x : List ℕ) → P a x → P b x → a ≡ b
    pub no_fault : (s : Stop) (a : A) (x : List ℕ) → F s x → P a x → ⊥
    pub same_fault : (s t : Stop) (x : List ℕ) → F s x → F t x → s ≡ t

  one_judged : Judged → (a b : A) (x y u v : List ℕ) → P a x → P b y → x ++ u ≡ y ++ v → (a ≡ b) × (x ≡ y)
  one_judged j a b x y u v p q e =
      let both = front_same x y u v (j.wide a x p ∙ sym (j.wide b y q)) e in
      (j.same a b y (subst (P a) both p) q, both)

  hinders_judged : Judged → (s : Stop) (a : A) (x y u v : List ℕ) → StopsShort n s x ⊎ F s x → P a y → x ++ u ≡ y ++ v → Short s x y
  hinders_judged j s a x y u v (inl p) q e = (p.0, omega (arith, p.1, j.wide a y q))
  hinders_judged j s a x y u v (inr p) q e =
      let both = front_same x y u v (j.fault_wide s x p ∙ sym (j.wide a y q)) e in
      absurd (j.no_fault s a y (subst (F s) both p) q)

  agree_judged : Judged → (s t : Stop) (x y u v : List ℕ) → StopsShort n s x ⊎ F s x → StopsShort n t y ⊎ F t y → x ++ u ≡ y ++ v → Agree s t x y
  agree_judged j s t x y u v (inl p) (inl q) e = inl (p.0 ∙ sym q.0)
  agree_judged j s t x y u v (inl p) (inr q) e = inr (inl (p.0, omega (arith, p.1, j.fault_wide t y q)))
  agree_judged j s t x y u v (inr p) (inl q) e = inr (inr (q.0, omega (arith, q.1, j.fault_wide s x p)))
  agree_judged j s t x y u v (inr p) (inr q) e =
      let both = front_same x y u v (j.fault_wide s x p ∙ sym (j.fault_wide t y q)) e in
      inl (j.same_fault s t y (subst (F s) both p) q)

  pub determined_judged : Judged → Determined P S
  determined_judged j = record {
    one = one_judged j;
    hinders = (λ s a x y u v p q e. hinders_judged j s a x y u v (j.stops s x p) q e);
    agree = (λ s t x y u v p q e. agree_judged j s t x y u v (j.stops s x p) (j.stops t y q) e);
  }

-- a kind of value with so many bytes, and no fault
pub determined_wide : {A : Type 0} (P : A → List ℕ → Type 0) (n : ℕ) → ((a : A) (x : List ℕ) → P a x → length x ≡ n) → ((a b : A) (x : List ℕ) → P a x → P b x → a ≡ b) → Determined P (StopsShort n)
determined_wide {A} P n wide same =
    determined_judged P (StopsShort n) (λ s x. ⊥) n (record {
      stops = (λ s x p. inl p);
      wide = wide;
      fault_wide = (λ s x none. absurd none);
      same = same;
      no_fault = (λ s a x none p. none);
      same_fault = (λ s t x none p. absurd none);
    })
