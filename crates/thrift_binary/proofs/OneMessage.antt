-- A message is determined by the text at whose front it stands.
use Rattle.std.proofs.Common.{◌≡◌, ℕ, ◌<◌, ◌⊎◌, Bool, List, [], ◌∷◌, length, ℤ, pos, negsuc, ◌<ℤ◌, refl, sym, ap, ◌∙◌, subst, arith, inl, inr, w32, get_or, append-nil}
use mir.Val.{SFits}
use Rattle.std.specs.Str.{IsUtf8}
use Rattle.std.proofs.lemmas.Int.{ints}
use Rattle.std.proofs.Math.Facts.{Fits-of_z}
use Rattle.cat_values.specs.declared.text.TheConstants.{TEXT_LIMIT}
use Rattle.thrift_binary.specs.declared.head.Head.{Head}
use Rattle.thrift_binary.specs.declared.limits.TheConstants.{DEPTH_LIMIT}
use Rattle.thrift_binary.specs.Taking.{Stop, Cut, Bad, Large}
use Rattle.thrift_binary.specs.Tree.{Fields, Struct}
use Rattle.thrift_binary.specs.Wire.{int_bytes, IsThen, StopsShort, IsInt, IsLength, IsBody, IsString, StopsString, IsWire, StopsWire}
use Rattle.thrift_binary.specs.Messages.{Message, Opening, Strict, Old, IsStrictWord, IsOpening, StopsOpening, IsName, StopsName, IsNamed, StopsNamed, IsOldName, StopsOldName, IsKind, StopsKind, IsKinded, StopsKinded, IsOldRest, StopsOldRest, IsHeadRest, StopsHeadRest, is_strict, IsHead, StopsHead, IsMessage, StopsMessage}
use Rattle.thrift_binary.proofs.Determined.{Determined, Agree, determined_then, determined_by, determined_where, determined_judged, determined_wide, pair_same}
use Rattle.thrift_binary.proofs.OneReading.{same_int, same_counted, text_low, count_fits, first_byte, determined_int, determined_string, determined_body}
use Rattle.thrift_binary.proofs.OneTree.{determined_arguments}

-- ---- the first word

strict_kind : (a b : ℕ) (x : List ℕ) → IsStrictWord a x → IsStrictWord b x → a ≡ b
strict_kind a b x p q = ap (λ xs. get_or xs 3 0) (sym p.1 ∙ q.1)

-- a number that isn't negative has no first byte of 128
high_byte : (m : ℕ) → SFits w32 (pos m) → get_or (int_bytes (pos m)) 0 0 < 128
high_byte m fits = omega (arith, ints, Fits-of_z fits)

count_no_strict : (m kind : ℕ) (x : List ℕ) → IsInt (pos m) x → IsStrictWord kind x → ⊥
count_no_strict m kind x p q =
    let first : get_or (int_bytes (pos m)) 0 0 ≡ 128 = ap (λ xs. get_or xs 0 0) (sym p.0 ∙ q.1) in
    absurd (omega (arith, first, high_byte m p.1))

large_no_strict : (n : ℤ) (kind : ℕ) (x : List ℕ) → IsInt n x → pos TEXT_LIMIT <ℤ n → IsStrictWord kind x → ⊥
large_no_strict (pos m) kind x p large q = count_no_strict m kind x p q
large_no_strict (negsuc m) kind x p large q = absurd (omega (arith, ints, large))

length_no_strict : (n kind : ℕ) (x : List ℕ) → IsLength n x → IsStrictWord kind x → ⊥
length_no_strict n kind x p q = count_no_strict n kind x (p.0, count_fits n TEXT_LIMIT text_low p.1) q

module _ (Kinds : ℕ → Type 0) where
  abbrev NoOpening : Stop → List ℕ → Type 0
  NoOpening stop x =
      ((n : ℤ) × IsInt n x × (n <ℤ pos 0) × ((kind : ℕ) → IsStrictWord kind x → ⊥) × (stop ≡ Bad 1 0))
      ⊎ ((kind : ℕ) × IsStrictWord kind x × (Kinds kind → ⊥) × (stop ≡ Bad 2 3))
      ⊎ ((n : ℤ) × IsInt n x × (pos TEXT_LIMIT <ℤ n) × (stop ≡ Large 0))

  opening_wide : (o : Opening) (x : List ℕ) → IsOpening Kinds o x → length x ≡ 4
  opening_wide (Strict kind) x p = ap length p.0.1
  opening_wide (Old n) x p = ap length p.0

  no_opening_wide : (s : Stop) (x : List ℕ) → NoOpening s x → length x ≡ 4
  no_opening_wide s x (inl h) = ap length h.1.0
  no_opening_wide s x (inr (inl h)) = ap length h.1.1
  no_opening_wide s x (inr (inr h)) = ap length h.1.0

  same_opening : (a b : Opening) (x : List ℕ) → IsOpening Kinds a x → IsOpening Kinds b x → a ≡ b
  same_opening (Strict a) (Strict b) x p q = ap Strict (strict_kind a b x p.0 q.0)
  same_opening (Strict a) (Old n) x p q = absurd (length_no_strict n a x q p.0)
  same_opening (Old n) (Strict b) x p q = absurd (length_no_strict n b x p q.0)
  same_opening (Old m) (Old n) x p q = ap Old (same_counted TEXT_LIMIT text_low m n x p q)

  opening_no_fault : (s : Stop) (a : Opening) (x : List ℕ) → NoOpening s x → IsOpening Kinds a x → ⊥
  opening_no_fault s (Strict a) x (inl h) q = h.3 a q.0
  opening_no_fault s (Strict a) x (inr (inl h)) q = h.2 (subst Kinds (strict_kind a h.0 x q.0 h.1) q.1)
  opening_no_fault s (Strict a) x (inr (inr h)) q = large_no_strict h.0 a x h.1 h.2 q.0
  opening_no_fault s (Old n) x (inl h) q =
      let same : h.0 ≡ pos n = same_int h.0 (pos n) x h.1 (q.0, count_fits n TEXT_LIMIT text_low q.1) in
      absurd (omega (arith, ints, same, h.2))
  opening_no_fault s (Old n) x (inr (inl h)) q = length_no_strict n h.0 x q h.1
  opening_no_fault s (Old n) x (inr (inr h)) q =
      let same : h.0 ≡ pos n = same_int h.0 (pos n) x h.1 (q.0, count_fits n TEXT_LIMIT text_low q.1) in
      absurd (omega (arith, ints, same, h.2, q.1))

  same_no_opening : (s t : Stop) (x : List ℕ) → NoOpening s x → NoOpening t x → s ≡ t
  same_no_opening s t x (inl h) (inl k) = h.4 ∙ sym k.4
  same_no_opening s t x (inl h) (inr (inl k)) = absurd (h.3 k.0 k.1)
  same_no_opening s t x (inl h) (inr (inr k)) =
      let same : h.0 ≡ k.0 = same_int h.0 k.0 x h.1 k.1 in
      absurd (omega (arith, ints, same, h.2, k.2))
  same_no_opening s t x (inr (inl h)) (inl k) = absurd (k.3 h.0 h.1)
  same_no_opening s t x (inr (inl h)) (inr (inl k)) = h.3 ∙ sym k.3
  same_no_opening s t x (inr (inl h)) (inr (inr k)) = absurd (large_no_strict k.0 h.0 x k.1 k.2 h.1)
  same_no_opening s t x (inr (inr h)) (inl k) =
      let same : h.0 ≡ k.0 = same_int h.0 k.0 x h.1 k.1 in
      absurd (omega (arith, ints, same, h.2, k.2))
  same_no_opening s t x (inr (inr h)) (inr (inl k)) = absurd (large_no_strict h.0 k.0 x h.1 h.2 k.1)
  same_no_opening s t x (inr (inr h)) (inr (inr k)) = h.3 ∙ sym k.3

  determined_opening : Determined (IsOpening Kinds) (StopsOpening Kinds)
  determined_opening =
      determined_judged (IsOpening Kinds) (StopsOpening Kinds) NoOpening 4 (record {
        stops = (λ s x p. p);
        wide = opening_wide;
        fault_wide = no_opening_wide;
        same = same_opening;
        no_fault = opening_no_fault;
        same_fault = same_no_opening;
      })

  -- ---- what stands behind it
  determined_kinded : Determined (IsKinded Kinds) (StopsKinded Kinds)
  determined_kinded =
      determined_then (IsKind Kinds) (StopsKind Kinds) (λ _. IsInt) (λ _. StopsShort 4)
      (determined_where (λ kind x. x ≡ kind ∷ []) (StopsShort 1) Kinds (StopsKind Kinds) (Bad 2 0)
      (determined_wide (λ kind x. x ≡ kind ∷ []) 1 (λ a x p. ap length p) (λ a b x p q. first_byte a b x [] [] p q))
      (λ s x p. p))
      (λ _. determined_int)

name_stops : (s : Stop) (x : List ℕ) → StopsName s x → StopsString s x ⊎ ((name : List ℕ) × IsString name x × (IsUtf8 name → ⊥) × (s ≡ Bad 5 4))
name_stops s x (inl p) = inl p
name_stops s x (inr p) = inr (p.0.0, p.0.1, p.0.2, p.1)

determined_named : Determined IsNamed StopsNamed
determined_named =
    determined_then IsName StopsName (λ _. IsInt) (λ _. StopsShort 4)
    (determined_where IsString StopsString IsUtf8 StopsName (Bad 5 4) determined_string name_stops)
    (λ _. determined_int)

determined_old_name : (n : ℕ) → Determined (IsOldName n) (StopsOldName n)
determined_old_name n = determined_where (IsBody n) (StopsShort n) IsUtf8 (StopsOldName n) (Bad 5 0) (determined_body n) (λ s x p. p)

-- heads with equal parts are equal
same_head : (a b : Head) → a.name ≡ b.name → a.kind ≡ b.kind → a.sequence ≡ b.sequence → a ≡ b
same_head a b names kinds numbers =
    let by_name : List ℕ → Head = λ n. record { name = n; kind = a.kind; sequence = a.sequence } in
    let by_kind : ℕ → Head = λ k. record { name = b.name; kind = k; sequence = a.sequence } in
    let by_number : ℤ → Head = λ z. record { name = b.name; kind = b.kind; sequence = z } in
    ap by_name names ∙ ap by_kind kinds ∙ ap by_number numbers

same_message : (a b : Message) → a.strict ≡ b.strict → a.head ≡ b.head → a.arguments ≡ b.arguments → a ≡ b
same_message a b forms heads values =
    let by_form : Bool → Message = λ f. record { strict = f; head = a.head; arguments = a.arguments } in
    let by_head : Head → Message = λ h. record { strict = b.strict; head = h; arguments = a.arguments } in
    let by_value : Fields → Message = λ v. record { strict = b.strict; head = b.head; arguments = v } in
    ap by_form forms ∙ ap by_head heads ∙ ap by_value values

determined_old_rest : (Kinds : ℕ → Type 0) (n : ℕ) → Determined (IsOldRest Kinds n) (StopsOldRest Kinds n)
determined_old_rest Kinds n =
    determined_by (λ (a : List ℕ × (ℕ × ℤ)). IsThen (IsOldName n) (λ _. IsKinded Kinds) a.0 a.1) (StopsOldRest Kinds n) (IsOldRest Kinds n) (StopsOldRest Kinds n)
    (λ head a. (head.name ≡ a.0) × (head.kind ≡ a.1.0) × (head.sequence ≡ a.1.1))
    (determined_then (IsOldName n) (StopsOldName n) (λ _. IsKinded Kinds) (λ _. StopsKinded Kinds) (determined_old_name n) (λ _. determined_kinded Kinds))
    (λ head x p. ((head.name, (head.kind, head.sequence)), p, (refl, refl, refl)))
    (λ c d a p q. same_head c d (p.0 ∙ sym q.0) (p.1 ∙ sym q.1) (p.2 ∙ sym q.2))
    (λ s x p. p)

determined_strict_rest : (Kinds : ℕ → Type 0) (kind : ℕ) → Determined (IsHeadRest Kinds (Strict kind)) StopsNamed
determined_strict_rest Kinds kind =
    determined_by IsNamed StopsNamed (IsHeadRest Kinds (Strict kind)) StopsNamed
    (λ head a. (kind ≡ head.kind) × (head.name ≡ a.0) × (head.sequence ≡ a.1))
    determined_named
    (λ head x p. ((head.name, head.sequence), p.1, (p.0, refl, refl)))
    (λ c d a p q. same_head c d (p.1 ∙ sym q.1) (sym p.0 ∙ q.0) (p.2 ∙ sym q.2))
    (λ s x p. p)

determined_rest : (Kinds : ℕ → Type 0) (o : Opening) → Determined (IsHeadRest Kinds o) (StopsHeadRest Kinds o)
determined_rest Kinds (Strict kind) = determined_strict_rest Kinds kind
determined_rest Kinds (Old n) = determined_old_rest Kinds n

determined_head : (Kinds : ℕ → Type 0) → Determined (IsHead Kinds) (StopsHead Kinds)
determined_head Kinds =
    determined_by (λ (a : Opening × Head). IsThen (IsOpening Kinds) (IsHeadRest Kinds) a.0 a.1) (StopsHead Kinds) (IsHead Kinds) (StopsHead Kinds)
    (λ formed a. (formed.0 ≡ is_strict a.0) × (formed.1 ≡ a.1))
    (determined_then (IsOpening Kinds) (StopsOpening Kinds) (IsHeadRest Kinds) (StopsHeadRest Kinds) (determined_opening Kinds) (determined_rest Kinds))
    (λ formed x p. ((p.0, formed.1), p.2, (p.1, refl)))
    (λ c d a p q. pair_same c d (p.0 ∙ sym q.0) (p.1 ∙ sym q.1))
    (λ s x p. p)

pub determined_message : (Kinds : ℕ → Type 0) → Determined (IsMessage Kinds) (StopsMessage Kinds)
determined_message Kinds =
    determined_by (λ (a : (Bool × Head) × Fields). IsThen (IsHead Kinds) (λ _ (v : Fields). IsWire (Struct v) DEPTH_LIMIT 12) a.0 a.1) (StopsMessage Kinds) (IsMessage Kinds) (StopsMessage Kinds)
    (λ m a. (m.strict ≡ a.0.0) × (m.head ≡ a.0.1) × (m.arguments ≡ a.1))
    (determined_then (IsHead Kinds) (StopsHead Kinds) (λ _ (v : Fields). IsWire (Struct v) DEPTH_LIMIT 12) (λ _. StopsWire DEPTH_LIMIT 12) (determined_head Kinds) (λ _. determined_arguments DEPTH_LIMIT))
    (λ m x p. (((m.strict, m.head), m.arguments), p, (refl, refl, refl)))
    (λ c d a p q. same_message c d (p.0 ∙ sym q.0) (p.1 ∙ sym q.1) (p.2 ∙ sym q.2))
    (λ s x p. p)

-- ---- at the end of the input a message is cut

cut_at_once : (Kinds : ℕ → Type 0) → StopsMessage Kinds Cut []
cut_at_once Kinds = inl (inl (inl (refl, omega (arith))))

pub some_message : (Kinds : ℕ → Type 0) (m : Message) (x : List ℕ) → IsMessage Kinds m x → 0 < length x
some_message Kinds m x p =
    let d = determined_message Kinds in
    let short = d.hinders Cut m [] x x [] (cut_at_once Kinds) p (sym (append-nil x)) in
    short.1

cut_agreed : (s : Stop) → Agree Cut s [] [] → s ≡ Cut
cut_agreed s (inl same) = sym same
cut_agreed s (inr (inl short)) = absurd (omega (arith, short.1))
cut_agreed s (inr (inr short)) = short.0

-- with no byte nothing is wrong yet
pub nothing_wrong : (Kinds : ℕ → Type 0) (s : Stop) → StopsMessage Kinds s [] → s ≡ Cut
nothing_wrong Kinds s p =
    let d = determined_message Kinds in
    cut_agreed s (d.agree Cut s [] [] [] [] (cut_at_once Kinds) p refl)
