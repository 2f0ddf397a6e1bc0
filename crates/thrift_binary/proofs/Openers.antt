-- The heads of messages, from their parts.
use Rattle.std.proofs.Common.{◌≡◌, ℕ, ◌<◌, ℤ, List, [], ◌∷◌, length, get_or, Option, Some, refl, sym, ap, ◌∙◌, subst, arith, inl, inr, length-append, w32, to_z, of_z}
use mir.Val.{SFits}
use Rattle.std.proofs.lemmas.Int.{to_z-of_z}
use Rattle.thrift_binary.specs.declared.fault.WireFault.{WireFault}
use Rattle.thrift_binary.specs.declared.fault.WireFault.TheVariants.{Truncated, BadWire, TooLarge, ReadFault, NoMemory}
use Rattle.thrift_binary.specs.declared.head.Head.{Head}
use Rattle.thrift_binary.specs.declared.heads.FirstWord.{FirstWord}
use Rattle.thrift_binary.specs.declared.limits.TheConstants.{DEPTH_LIMIT}
use Rattle.thrift_binary.specs.declared.progress.Progress.{Progress}
use Rattle.thrift_binary.specs.Taking.{Stop, Bad, Took, IsFaultOf}
use Rattle.thrift_binary.specs.Tree.{Wire}
use Rattle.thrift_binary.specs.Wire.{IsInt, IsWire, StopsWire}
use Rattle.thrift_binary.specs.Messages.{Opening, Strict, Old, IsStrictWord, IsOpening, IsName, IsNamed, IsOldName, IsKind, StopsKind, IsKinded, IsOldRest, IsHeadRest, StopsHeadRest, StopsHead, is_strict, StopsMessage}
use Rattle.thrift_binary.specs.Openings.{meant, IsHeadOrEnd, IsMessageOrEnd, IsInside}
use Rattle.thrift_binary.proofs.Words.{single, four}
use Rattle.thrift_binary.proofs.Reading.{Took-then, Took-place, Took-room, Faulted, fault_behind, not_again}
use Rattle.thrift_binary.proofs.Structs.{only_struct}

-- ---- words and kinds

pub strict_yes : (xs : List ℕ) → length xs ≡ 4 → get_or xs 0 0 ≡ 128 → get_or xs 1 0 ≡ 1 → IsStrictWord (get_or xs 3 0) xs
strict_yes xs len first second = (get_or xs 2 0, four xs len ∙ ap (λ a. a ∷ get_or xs 1 0 ∷ get_or xs 2 0 ∷ get_or xs 3 0 ∷ []) first ∙ ap (λ b. 128 ∷ b ∷ get_or xs 2 0 ∷ get_or xs 3 0 ∷ []) second)

pub strict_first : (kind : ℕ) (xs : List ℕ) → IsStrictWord kind xs → get_or xs 0 0 ≡ 128
strict_first kind xs s = ap (λ ys. get_or ys 0 0) s.1

pub strict_second : (kind : ℕ) (xs : List ℕ) → IsStrictWord kind xs → get_or xs 1 0 ≡ 1
strict_second kind xs s = ap (λ ys. get_or ys 1 0) s.1

pub other_kind : (Kinds : ℕ → Type 0) (place : ℕ) (xs : List ℕ) → length xs ≡ 1 → (Kinds (get_or xs 0 0) → ⊥) → (s : Stop) × StopsKind Kinds s xs × IsFaultOf place s (BadWire 2 place)
other_kind Kinds place xs len none = (Bad 2 0, inr (get_or xs 0 0, single xs len, none, refl), ap (BadWire 2) (omega arith))

-- ---- heads

pub kinded_read : (Kinds : ℕ → Type 0) (a b c : Option (List ℕ)) (p q r : Progress) (kind : ℕ) (z : ℤ) → SFits w32 z → Took a b p q (IsKind Kinds kind) → Took b c q r (IsInt z) → Took a c p r (IsKinded Kinds (kind, to_z w32 (of_z w32 z)))
kinded_read Kinds a b c p q r kind z fits first second =
    subst (λ y. Took a c p r (IsKinded Kinds (kind, y))) (sym (to_z-of_z w32 z fits))
    (Took-then a b c p q r (IsKind Kinds kind) (IsInt z) (IsKinded Kinds (kind, z)) (λ front rest x y. (front, rest, refl, x, y)) first second)

pub named_read : (a b c : Option (List ℕ)) (p q r : Progress) (name : List ℕ) (z : ℤ) → SFits w32 z → Took a b p q (IsName name) → Took b c q r (IsInt z) → Took a c p r (IsNamed (name, to_z w32 (of_z w32 z)))
named_read a b c p q r name z fits first second =
    subst (λ y. Took a c p r (IsNamed (name, y))) (sym (to_z-of_z w32 z fits))
    (Took-then a b c p q r (IsName name) (IsInt z) (IsNamed (name, z)) (λ front rest x y. (front, rest, refl, x, y)) first second)

pub old_read : (Kinds : ℕ → Type 0) (n : ℕ) (a b c : Option (List ℕ)) (p q r : Progress) (name : List ℕ) (kind : ℕ) (z : ℤ) → SFits w32 z → Took a b p q (IsOldName n name) → Took b c q r (IsKinded Kinds (kind, z)) → Took a c p r (IsOldRest Kinds n (record { name = name; kind = kind; sequence = to_z w32 (of_z w32 z) }))
old_read Kinds n a b c p q r name kind z fits first second =
    subst (λ y. Took a c p r (IsOldRest Kinds n (record { name = name; kind = kind; sequence = y }))) (sym (to_z-of_z w32 z fits))
    (Took-then a b c p q r (IsOldName n name) (IsKinded Kinds (kind, z)) (IsOldRest Kinds n (record { name = name; kind = kind; sequence = z })) (λ front rest x y. (front, rest, refl, x, y)) first second)

-- a word, and what stands behind it, are a head
pub head_read : (Kinds : ℕ → Type 0) (a b c : Option (List ℕ)) (p q r : Progress) (found : FirstWord) (head : Head) → Took a b p q (IsOpening Kinds (meant found)) → Took b c q r (IsHeadRest Kinds (meant found) head) → Took a c p r (IsHeadOrEnd Kinds (Some head))
head_read Kinds a b c p q r found head first second =
    Took-then a b c p q r (IsOpening Kinds (meant found)) (IsHeadRest Kinds (meant found) head) (IsHeadOrEnd Kinds (Some head)) (λ front rest x y. (is_strict (meant found), (meant found, refl, (front, rest, refl, x, y)))) first second

pub head_stop : (Kinds : ℕ → Type 0) (a b c : Option (List ℕ)) (p q r : Progress) (found : FirstWord) (e : WireFault) → Took a b p q (IsOpening Kinds (meant found)) → Faulted b c q r e (StopsHeadRest Kinds (meant found)) → Faulted a c p r e (StopsHead Kinds)
head_stop Kinds a b c p q r found e first fault =
    fault_behind a b c p q r e (IsOpening Kinds (meant found)) (StopsHeadRest Kinds (meant found)) (StopsHead Kinds) (λ front rest s x y. inr (meant found, front, rest, s, refl, x, refl, y)) first fault

-- a reader that begins a message
pub began : (a a' b : Option (List ℕ)) (p p' q : Progress) (e : WireFault) (Q : Stop → List ℕ → Type 0) → a' ≡ a → p' ≡ p → Faulted a' b p' q e Q → Faulted a b p q e Q
began a a' b p p' q e Q same is fault = subst (λ x. Faulted x b p q e Q) same (subst (λ x. Faulted a' b x q e Q) is fault)

pub began_took : (a a' b : Option (List ℕ)) (p p' q : Progress) (P : List ℕ → Type 0) → a' ≡ a → p' ≡ p → Took a' b p' q P → Took a b p q P
began_took a a' b p p' q P same is took = subst (λ x. Took x b p q P) same (subst (λ x. Took a' b x q P) is took)

-- ---- how far a reader has come

opening_length : (Kinds : ℕ → Type 0) (opening : Opening) (bytes : List ℕ) → IsOpening Kinds opening bytes → length bytes ≡ 4
opening_length Kinds (Strict kind) bytes h = ap length h.0.1
opening_length Kinds (Old n) bytes h = ap length h.0

pub opening_forward : (Kinds : ℕ → Type 0) (a b : Option (List ℕ)) (p q : Progress) (found : FirstWord) → Took a b p q (IsOpening Kinds (meant found)) → p.place < q.place
opening_forward Kinds a b p q found took = omega (arith, Took-place a b p q _ took, opening_length Kinds (meant found) took.bytes took.holds)

pub head_forward : (Kinds : ℕ → Type 0) (a b : Option (List ℕ)) (p q : Progress) (head : Head) → Took a b p q (IsHeadOrEnd Kinds (Some head)) → p.place < q.place
head_forward Kinds a b p q head took =
    let h = took.holds.1 in
    omega (arith, Took-place a b p q _ took, opening_length Kinds h.0 h.2.0 h.2.3, ap length h.2.2, length-append h.2.0 h.2.1)

-- the input ends behind bytes that were taken
pub inside_behind : (a b c : Option (List ℕ)) (p q r : Progress) (e : WireFault) (P : List ℕ → Type 0) (Q : Stop → List ℕ → Type 0) → p.place < q.place → Took a b p q P → Faulted b c q r e Q → IsInside p e
inside_behind a b c p q r (Truncated at) P Q forward first (inl h) = λ unspent. (let t = h.tells.4 in omega (arith, forward, t))
inside_behind a b c p q r (Truncated at) P Q forward first (inr h) = absurd (not_again a b b c p q r (Truncated at) P first h)
inside_behind a b c p q r (BadWire code at) P Q forward first fault = tt
inside_behind a b c p q r (TooLarge at) P Q forward first fault = tt
inside_behind a b c p q r ReadFault P Q forward first fault = tt
inside_behind a b c p q r NoMemory P Q forward first fault = tt

-- ---- messages

pub message_read : (Kinds : ℕ → Type 0) (a b c : Option (List ℕ)) (p q r : Progress) (head : Head) → p.room ≡ DEPTH_LIMIT → Took a b p q (IsHeadOrEnd Kinds (Some head)) → Took b c q r (λ bytes. (w : Wire) × IsWire w q.room 12 bytes) → Took a c p r (IsMessageOrEnd Kinds (Some head))
message_read Kinds a b c p q r head room first second =
    let inside : q.room ≡ DEPTH_LIMIT = Took-room a b p q _ first ∙ room in
    Took-then a b c p q r (IsHeadOrEnd Kinds (Some head)) (λ bytes. (w : Wire) × IsWire w q.room 12 bytes) (IsMessageOrEnd Kinds (Some head))
    (λ front rest x y. (let v = only_struct y.0 DEPTH_LIMIT rest (subst (λ n. IsWire y.0 n 12 rest) inside y.1) in (record { strict = x.0; head = head; arguments = v.0 }, refl, (front, rest, refl, x.1, v.1))))
    first second

pub message_stop : (Kinds : ℕ → Type 0) (a b c : Option (List ℕ)) (p q r : Progress) (head : Head) (e : WireFault) → p.room ≡ DEPTH_LIMIT → Took a b p q (IsHeadOrEnd Kinds (Some head)) → Faulted b c q r e (StopsWire q.room 12) → Faulted a c p r e (StopsMessage Kinds)
message_stop Kinds a b c p q r head e room first fault =
    let inside : q.room ≡ DEPTH_LIMIT = Took-room a b p q _ first ∙ room in
    fault_behind a b c p q r e (IsHeadOrEnd Kinds (Some head)) (StopsWire q.room 12) (StopsMessage Kinds)
    (λ front rest s x y. inr ((x.0, head), front, rest, s, refl, x.1, refl, subst (λ n. StopsWire n 12 s rest) inside y)) first fault
