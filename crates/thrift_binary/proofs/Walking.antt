-- Values one behind the other: two rows of them at the front of one text are the same, or one goes beyond the other.
use Rattle.std.proofs.Common.{◌≡◌, ℕ, ◌+◌, ◌<◌, ◌⊎◌, List, [], ◌∷◌, ◌++◌, length, refl, sym, ap, ◌∙◌, subst, arith, inl, inr}
use Rattle.thrift_binary.specs.Taking.{Stop, moved}
use Rattle.thrift_binary.proofs.Determined.{Determined, Short, Agree, regrouped, regrouped_left, regrouped_right, rest_same, split_length, short_moved, agree_moved}

-- values one behind the other, where what a value may be can depend on its place
abbrev pub AreAll : {A : Type 0} → (ℕ → A → List ℕ → Type 0) → ℕ → List A → List ℕ → Type 0
AreAll P at [] bytes = bytes ≡ []
AreAll P at (a ∷ vs) bytes = (front rest : List ℕ) × (bytes ≡ front ++ rest) × P at a front × AreAll P (at + length front) vs rest

-- Behind the values whose bytes are x stands one more of those whose bytes are y.
pub record Beyond {A : Type 0} (P : ℕ → A → List ℕ → Type 0) (at : ℕ) (vs ws : List A) (x y u v : List ℕ) : Type 0 where
  pub next : A
  pub front : List ℕ
  pub rest : List ℕ
  pub holds : P (at + length x) next front
  pub parts : u ≡ front ++ (rest ++ v)
  pub long : length y ≡ length x + (length front + length rest)
  pub more : length vs < length ws

abbrev pub Walked : {A : Type 0} → (ℕ → A → List ℕ → Type 0) → ℕ → List A → List A → List ℕ → List ℕ → List ℕ → List ℕ → Type 0
Walked P at vs ws x y u v = ((vs ≡ ws) × (x ≡ y)) ⊎ Beyond P at vs ws x y u v ⊎ Beyond P at ws vs y x v u

module _ {A : Type 0} (P : ℕ → A → List ℕ → Type 0) where
  beyond_none : (at : ℕ) (b : A) (ws : List A) (x y u v : List ℕ) → x ≡ [] → AreAll P at (b ∷ ws) y → x ++ u ≡ y ++ v → Beyond P at [] (b ∷ ws) x y u v
  beyond_none at b ws x y u v none q e =
      let no_bytes : length x ≡ 0 = ap length none in
      let here : at ≡ at + length x = omega (arith, no_bytes) in
      record {
        next = b;
        front = q.0;
        rest = q.1;
        holds = subst (λ k. P k b q.0) here q.3;
        parts = sym (ap (λ t. t ++ u) none) ∙ regrouped_right x u y q.0 q.1 v q.2 e;
        long = omega (arith, no_bytes, split_length y q.0 q.1 q.2);
        more = omega (arith);
      }

  beyond_one : (at : ℕ) (a b : A) (vs ws : List A) (x x1 x2 y y1 y2 u v : List ℕ) → x1 ≡ y1 → x ≡ x1 ++ x2 → y ≡ y1 ++ y2 → Beyond P (at + length x1) vs ws x2 y2 u v → Beyond P at (a ∷ vs) (b ∷ ws) x y u v
  beyond_one at a b vs ws x x1 x2 y y1 y2 u v same p q w =
      let len_x = split_length x x1 x2 p in
      let len_y = split_length y y1 y2 q in
      let fronts : length x1 ≡ length y1 = ap length same in
      let here : at + length x1 + length x2 ≡ at + length x = omega (arith, len_x) in
      record {
        next = w.next;
        front = w.front;
        rest = w.rest;
        holds = subst (λ k. P k w.next w.front) here w.holds;
        parts = w.parts;
        long = omega (arith, len_x, len_y, fronts, w.long);
        more = omega (arith, w.more);
      }

  walked_one : (at : ℕ) (a b : A) (vs ws : List A) (x x1 x2 y y1 y2 u v : List ℕ) → a ≡ b → x1 ≡ y1 → x ≡ x1 ++ x2 → y ≡ y1 ++ y2 → Walked P (at + length x1) vs ws x2 y2 u v → Walked P at (a ∷ vs) (b ∷ ws) x y u v
  walked_one at a b vs ws x x1 x2 y y1 y2 u v first same p q (inl both) =
      inl (ap (λ (c : A). c ∷ vs) first ∙ ap (λ cs. b ∷ cs) both.0, p ∙ ap (λ t. t ++ x2) same ∙ ap (λ t. y1 ++ t) both.1 ∙ sym q)
  walked_one at a b vs ws x x1 x2 y y1 y2 u v first same p q (inr (inl w)) = inr (inl (beyond_one at a b vs ws x x1 x2 y y1 y2 u v same p q w))
  walked_one at a b vs ws x x1 x2 y y1 y2 u v first same p q (inr (inr w)) =
      inr (inr (beyond_one at b a ws vs y y1 y2 x x1 x2 v u (sym same) q p (subst (λ k. Beyond P k ws vs y2 x2 v u) (ap (λ t. at + length t) same) w)))

  pub walk : ((at : ℕ) (a b : A) (x y u v : List ℕ) → P at a x → P at b y → x ++ u ≡ y ++ v → (a ≡ b) × (x ≡ y)) → (at : ℕ) (vs ws : List A) (x y u v : List ℕ) → AreAll P at vs x → AreAll P at ws y → x ++ u ≡ y ++ v → Walked P at vs ws x y u v
  walk one at [] [] x y u v p q e = inl (refl, p ∙ sym q)
  walk one at [] (b ∷ ws) x y u v p q e = inr (inl (beyond_none at b ws x y u v p q e))
  walk one at (a ∷ vs) [] x y u v p q e = inr (inr (beyond_none at a vs y x v u q p (sym e)))
  walk one at (a ∷ vs) (b ∷ ws) x y u v p q e =
      let together = regrouped x p.0 p.1 u y q.0 q.1 v p.2 q.2 e in
      let firsts = one at a b p.0 q.0 (p.1 ++ u) (q.1 ++ v) p.3 q.3 together in
      let behind = rest_same p.0 q.0 (p.1 ++ u) (q.1 ++ v) firsts.1 together in
      let others : AreAll P (at + length p.0) ws q.1 = subst (λ (t : List ℕ). AreAll P (at + length t) ws q.1) (sym firsts.1) q.4 in
      walked_one at a b vs ws x p.0 p.1 y q.0 q.1 u v firsts.0 firsts.1 p.2 q.2 (walk one (at + length p.0) vs ws p.1 q.1 u v p.4 others behind)

-- ---- so many values, and values up to an end

module _ {A : Type 0} (P : A → List ℕ → Type 0) (S : Stop → List ℕ → Type 0) where
  abbrev Row : List A → List ℕ → Type 0
  Row vs x = AreAll (λ (_ : ℕ). P) 0 vs x

  abbrev pub IsRow : ℕ → List A → List ℕ → Type 0
  IsRow n vs x = Row vs x × (length vs ≡ n)

  -- behind fewer values than n, in the next one
  abbrev pub StopsRow : ℕ → Stop → List ℕ → Type 0
  StopsRow n s x = (vs : List A) × (front rest : List ℕ) × (t : Stop) × (x ≡ front ++ rest) × Row vs front × (length vs < n) × (s ≡ moved (length front) t) × S t rest

  walk_row : Determined P S → (vs ws : List A) (x y u v : List ℕ) → Row vs x → Row ws y → x ++ u ≡ y ++ v → Walked (λ (_ : ℕ). P) 0 vs ws x y u v
  walk_row d = walk (λ (_ : ℕ). P) (λ at. d.one) 0

  one_row : (vs ws : List A) (x y u v : List ℕ) → length vs ≡ length ws → Walked (λ (_ : ℕ). P) 0 vs ws x y u v → (vs ≡ ws) × (x ≡ y)
  one_row vs ws x y u v lengths (inl both) = both
  one_row vs ws x y u v lengths (inr (inl w)) = absurd (omega (arith, lengths, w.more))
  one_row vs ws x y u v lengths (inr (inr w)) = absurd (omega (arith, lengths, w.more))

  -- a stop behind values, where more values stand
  beyond_stop : Determined P S → (vs ws : List A) (t s : Stop) (x front rest y u v : List ℕ) → x ≡ front ++ rest → s ≡ moved (length front) t → S t rest → Beyond (λ (_ : ℕ). P) 0 vs ws front y (rest ++ u) v → Short s x y
  beyond_stop d vs ws t s x front rest y u v p is stop w =
      let short = d.hinders t w.next rest w.front u (w.rest ++ v) stop w.holds w.parts in
      (is ∙ ap (moved (length front)) short.0, omega (arith, short.1, w.long, split_length x front rest p))

  hinders_row : Determined P S → (n : ℕ) (s : Stop) (ws : List A) (x y u v : List ℕ) (p : StopsRow n s x) → length ws ≡ n → Walked (λ (_ : ℕ). P) 0 p.0 ws p.1 y (p.2 ++ u) v → Short s x y
  hinders_row d n s ws x y u v p lengths (inl both) = absurd (omega (arith, lengths, p.6, ap length both.0))
  hinders_row d n s ws x y u v p lengths (inr (inl w)) = beyond_stop d p.0 ws p.3 s x p.1 p.2 y u v p.4 p.7 p.8 w
  hinders_row d n s ws x y u v p lengths (inr (inr w)) = absurd (omega (arith, lengths, p.6, w.more))

  -- where the second row goes beyond the first, and then stops
  short_behind : (s : Stop) (x y y1 y2 : List ℕ) → y ≡ y1 ++ y2 → Short s x y1 → Short s x y
  short_behind s x y y1 y2 q short = (short.0, omega (arith, short.1, split_length y y1 y2 q))

  agree_rows : Determined P S → (vs ws : List A) (s s1 t t1 : Stop) (x x1 x2 y y1 y2 u v : List ℕ) → x ≡ x1 ++ x2 → y ≡ y1 ++ y2 → s ≡ moved (length x1) s1 → t ≡ moved (length y1) t1 → S s1 x2 → S t1 y2
      → x1 ++ (x2 ++ u) ≡ y1 ++ (y2 ++ v) → Walked (λ (_ : ℕ). P) 0 vs ws x1 y1 (x2 ++ u) (y2 ++ v) → Agree s t x y
  agree_rows d vs ws s s1 t t1 x x1 x2 y y1 y2 u v p q is it stop stop' e (inl both) =
      let behind = rest_same x1 y1 (x2 ++ u) (y2 ++ v) both.1 e in
      agree_moved (length x1) (length y1) s1 s t1 t x2 x y2 y (ap length both.1) is it (split_length x x1 x2 p) (split_length y y1 y2 q) (d.agree s1 t1 x2 y2 u v stop stop' behind)
  agree_rows d vs ws s s1 t t1 x x1 x2 y y1 y2 u v p q is it stop stop' e (inr (inl w)) =
      inr (inl (short_behind s x y y1 y2 q (beyond_stop d vs ws s1 s x x1 x2 y1 u (y2 ++ v) p is stop w)))
  agree_rows d vs ws s s1 t t1 x x1 x2 y y1 y2 u v p q is it stop stop' e (inr (inr w)) =
      inr (inr (short_behind t y x x1 x2 p (beyond_stop d ws vs t1 t y y1 y2 x1 v (x2 ++ u) q it stop' w)))

  agree_row : Determined P S → (n : ℕ) (s t : Stop) (x y u v : List ℕ) → StopsRow n s x → StopsRow n t y → x ++ u ≡ y ++ v → Agree s t x y
  agree_row d n s t x y u v p q e =
      let together = regrouped x p.1 p.2 u y q.1 q.2 v p.4 q.4 e in
      agree_rows d p.0 q.0 s p.3 t q.3 x p.1 p.2 y q.1 q.2 u v p.4 q.4 p.7 q.7 p.8 q.8 together (walk_row d p.0 q.0 p.1 q.1 (p.2 ++ u) (q.2 ++ v) p.5 q.5 together)

  pub determined_row : Determined P S → (n : ℕ) → Determined (IsRow n) (StopsRow n)
  determined_row d n = record {
    one = (λ vs ws x y u v p q e. one_row vs ws x y u v (p.1 ∙ sym q.1) (walk_row d vs ws x y u v p.0 q.0 e));
    hinders = (λ s ws x y u v p q e. hinders_row d n s ws x y u v p q.1 (walk_row d p.0 ws p.1 y (p.2 ++ u) v p.5 q.0 (regrouped_left x p.1 p.2 u y v p.4 e)));
    agree = agree_row d n;
  }

-- values that go on, up to one that doesn't
module _ {A : Type 0} (P : A → List ℕ → Type 0) (S : Stop → List ℕ → Type 0) (GoesOn : A → Type 0) (end : A) where
  abbrev Going : A → List ℕ → Type 0
  Going a x = P a x × GoesOn a

  abbrev pub IsUntil : List A → List ℕ → Type 0
  IsUntil vs x = (front rest : List ℕ) × (x ≡ front ++ rest) × AreAll (λ (_ : ℕ). Going) 0 vs front × P end rest

  abbrev pub StopsUntil : Stop → List ℕ → Type 0
  StopsUntil s x = (vs : List A) × (front rest : List ℕ) × (t : Stop) × (x ≡ front ++ rest) × AreAll (λ (_ : ℕ). Going) 0 vs front × (s ≡ moved (length front) t) × S t rest

  determined_going : Determined P S → Determined Going S
  determined_going d = record {
    one = (λ a b x y u v p q e. d.one a b x y u v p.0 q.0 e);
    hinders = (λ s a x y u v p q e. d.hinders s a x y u v p q.0 e);
    agree = d.agree;
  }

  walk_until : Determined P S → (vs ws : List A) (x y u v : List ℕ) → AreAll (λ (_ : ℕ). Going) 0 vs x → AreAll (λ (_ : ℕ). Going) 0 ws y → x ++ u ≡ y ++ v → Walked (λ (_ : ℕ). Going) 0 vs ws x y u v
  walk_until d = walk (λ (_ : ℕ). Going) (λ at a b x y u v p q e. d.one a b x y u v p.0 q.0 e) 0

  -- nothing stands beyond the end
  none_beyond : Determined P S → (GoesOn end → ⊥) → (vs ws : List A) (x x2 y u v : List ℕ) → P end x2 → Beyond (λ (_ : ℕ). Going) 0 vs ws x y (x2 ++ u) v → ⊥
  none_beyond d ends vs ws x x2 y u v p w =
      let same = d.one end w.next x2 w.front u (w.rest ++ v) p w.holds.0 w.parts in
      ends (subst GoesOn (sym same.0) w.holds.1)

  one_until : Determined P S → (GoesOn end → ⊥) → (vs ws : List A) (x x1 x2 y y1 y2 u v : List ℕ) → x ≡ x1 ++ x2 → y ≡ y1 ++ y2 → P end x2 → P end y2 → x1 ++ (x2 ++ u) ≡ y1 ++ (y2 ++ v)
      → Walked (λ (_ : ℕ). Going) 0 vs ws x1 y1 (x2 ++ u) (y2 ++ v) → (vs ≡ ws) × (x ≡ y)
  one_until d ends vs ws x x1 x2 y y1 y2 u v p q ep eq e (inl both) =
      let behind = rest_same x1 y1 (x2 ++ u) (y2 ++ v) both.1 e in
      let last = d.one end end x2 y2 u v ep eq behind in
      (both.0, p ∙ ap (λ t. t ++ x2) both.1 ∙ ap (λ t. y1 ++ t) last.1 ∙ sym q)
  one_until d ends vs ws x x1 x2 y y1 y2 u v p q ep eq e (inr (inl w)) = absurd (none_beyond d ends vs ws x1 x2 y1 u (y2 ++ v) ep w)
  one_until d ends vs ws x x1 x2 y y1 y2 u v p q ep eq e (inr (inr w)) = absurd (none_beyond d ends ws vs y1 y2 x1 v (x2 ++ u) eq w)

  hinders_until : Determined P S → (GoesOn end → ⊥) → (vs ws : List A) (s s1 : Stop) (x x1 x2 y y1 y2 u v : List ℕ) → x ≡ x1 ++ x2 → y ≡ y1 ++ y2 → s ≡ moved (length x1) s1 → S s1 x2 → P end y2
      → x1 ++ (x2 ++ u) ≡ y1 ++ (y2 ++ v) → Walked (λ (_ : ℕ). Going) 0 vs ws x1 y1 (x2 ++ u) (y2 ++ v) → Short s x y
  hinders_until d ends vs ws s s1 x x1 x2 y y1 y2 u v p q is stop eq e (inl both) =
      let behind = rest_same x1 y1 (x2 ++ u) (y2 ++ v) both.1 e in
      short_moved (length x1) (length y1) s1 s x2 x y2 y (ap length both.1) is (split_length x x1 x2 p) (split_length y y1 y2 q) (d.hinders s1 end x2 y2 u v stop eq behind)
  hinders_until d ends vs ws s s1 x x1 x2 y y1 y2 u v p q is stop eq e (inr (inl w)) =
      short_behind Going S s x y y1 y2 q (beyond_stop Going S (determined_going d) vs ws s1 s x x1 x2 y1 u (y2 ++ v) p is stop w)
  hinders_until d ends vs ws s s1 x x1 x2 y y1 y2 u v p q is stop eq e (inr (inr w)) = absurd (none_beyond d ends ws vs y1 y2 x1 v (x2 ++ u) eq w)

  pub determined_until : Determined P S → (GoesOn end → ⊥) → Determined IsUntil StopsUntil
  determined_until d ends = record {
    one = (λ vs ws x y u v p q e.
        let together = regrouped x p.0 p.1 u y q.0 q.1 v p.2 q.2 e in
        one_until d ends vs ws x p.0 p.1 y q.0 q.1 u v p.2 q.2 p.4 q.4 together (walk_until d vs ws p.0 q.0 (p.1 ++ u) (q.1 ++ v) p.3 q.3 together));
    hinders = (λ s ws x y u v p q e.
        let together = regrouped x p.1 p.2 u y q.0 q.1 v p.4 q.2 e in
        hinders_until d ends p.0 ws s p.3 x p.1 p.2 y q.0 q.1 u v p.4 q.2 p.6 p.7 q.4 together (walk_until d p.0 ws p.1 q.0 (p.2 ++ u) (q.1 ++ v) p.5 q.3 together));
    agree = (λ s t x y u v p q e.
        let together = regrouped x p.1 p.2 u y q.1 q.2 v p.4 q.4 e in
        agree_rows Going S (determined_going d) p.0 q.0 s p.3 t q.3 x p.1 p.2 y q.1 q.2 u v p.4 q.4 p.6 q.6 p.7 q.7 together (walk_until d p.0 q.0 p.1 q.1 (p.2 ++ u) (q.2 ++ v) p.5 q.5 together));
  }
