-- At the front of every text of bytes a message is spelled, or the text stops to spell one; so every text has an ending.
use Rattle.std.proofs.Common.{◌≡◌, ◌≢◌, ℕ, zero, suc, ◌+◌, ◌<◌, ◌≤◌, ◌⊎◌, Bool, true, false, List, [], ◌∷◌, ◌++◌, length, get_or, take, drop, ℤ, pos, negsuc, refl, sym, ap, ◌∙◌, subst, append_assoc, append-nil, length-append, length-drop, arith, inl, inr}
use Rattle.std.specs.Str.{IsUtf8, is_utf8}
use Rattle.std.proofs.lemmas.Bool.{cases_lt, cases_eq, cases_Bool, both_ways}
use Rattle.std.proofs.lemmas.Int.{ints}
use Rattle.std.proofs.lemmas.List.{take-append-drop, length-take}
use Rattle.std.proofs.lemmas.Str.{IsUtf8-from_is_utf8, is_utf8-from_IsUtf8}
use Rattle.cat_values.specs.declared.text.TheConstants.{TEXT_LIMIT}
use Rattle.thrift_binary.specs.declared.head.Head.{Head}
use Rattle.thrift_binary.specs.declared.limits.TheConstants.{DEPTH_LIMIT}
use Rattle.thrift_binary.specs.Laws.{AreBytes, HasAnEnding}
use Rattle.thrift_binary.specs.Taking.{Stop, Cut, Bad, Large, room_at}
use Rattle.thrift_binary.specs.Tree.{Wire, Fields, Struct}
use Rattle.thrift_binary.specs.Wire.{IsThen, StopsShort, IsInt, IsBody, IsString, StopsString, IsWire, StopsWire}
use Rattle.thrift_binary.specs.Messages.{Message, Opening, Strict, Old, Asks, Replies, IsStrictWord, IsOpening, StopsOpening, IsName, StopsName, IsNamed, StopsNamed, IsOldName, StopsOldName, IsKind, StopsKind, IsKinded, StopsKinded, StopsOldRest, IsHeadRest, StopsHeadRest, is_strict, IsHead, StopsHead, IsMessage, StopsMessage, Ending, Boundary, Truncated, Bad_at, Large_at, Ends, SpellsFrom}
use Rattle.thrift_binary.proofs.Words.{single}
use Rattle.thrift_binary.proofs.Openers.{strict_yes, strict_first, strict_second}
use Rattle.thrift_binary.proofs.Structs.{only_struct}
use Rattle.thrift_binary.proofs.Determined.{split_length}
use Rattle.thrift_binary.proofs.OneMessage.{some_message}
use Rattle.thrift_binary.proofs.Beginnings.{Total, Begins, Judged, bytes_right, bytes_left, bytes_as, bad_wrong, large_wrong, total_then, total_by, total_wide, total_where}
use Rattle.thrift_binary.proofs.BegunValues.{either, int_is, total_int, total_body, total_string, total_wire}

utf8_told : (bs : List ℕ) → (is_utf8 bs ≡ true) ⊎ (is_utf8 bs ≡ false) → IsUtf8 bs ⊎ (IsUtf8 bs → ⊥)
utf8_told bs (inl is) = inl (IsUtf8-from_is_utf8 bs is)
utf8_told bs (inr none) = inr (λ u. both_ways (is_utf8 bs) none (is_utf8-from_IsUtf8 bs u))

utf8_or_not : (bs : List ℕ) → IsUtf8 bs ⊎ (IsUtf8 bs → ⊥)
utf8_or_not bs = utf8_told bs (cases_Bool (is_utf8 bs))

empty_or_not : (xs : List ℕ) → (xs ≡ []) ⊎ (xs ≢ [])
empty_or_not [] = inl refl
empty_or_not (x ∷ xs) = inr (λ (e : x ∷ xs ≡ []). cc)

-- ---- the first word

strict_told : (x : List ℕ) → length x ≡ 4 → (get_or x 0 0 ≡ 128) ⊎ (get_or x 0 0 ≢ 128) → (get_or x 1 0 ≡ 1) ⊎ (get_or x 1 0 ≢ 1) → ((kind : ℕ) × IsStrictWord kind x) ⊎ ((kind : ℕ) → IsStrictWord kind x → ⊥)
strict_told x len (inl first) (inl second) = inl (get_or x 3 0, strict_yes x len first second)
strict_told x len (inr none) second = inr (λ kind is. none (strict_first kind x is))
strict_told x len (inl first) (inr none) = inr (λ kind is. none (strict_second kind x is))

module _ (Kinds : ℕ → Type 0) (known : (kind : ℕ) → Kinds kind ⊎ (Kinds kind → ⊥)) where
  kind_judged : (kind : ℕ) (x : List ℕ) → IsStrictWord kind x → Kinds kind ⊎ (Kinds kind → ⊥) → Judged (IsOpening Kinds) (StopsOpening Kinds) x
  kind_judged kind x is (inl one) = inl (Strict kind, (is, one))
  kind_judged kind x is (inr none) = inr (Bad 2 3, inr (inr (inl (kind, is, none, refl))), bad_wrong 2 3)

  old_judged : (n : ℕ) (x : List ℕ) → IsInt (pos n) x → (TEXT_LIMIT < n) ⊎ (n ≤ TEXT_LIMIT) → Judged (IsOpening Kinds) (StopsOpening Kinds) x
  old_judged n x is (inl large) = inr (Large 0, inr (inr (inr (pos n, is, omega (arith, ints, large), refl))), large_wrong 0)
  old_judged n x is (inr small) = inl (Old n, (is.0, small))

  word_judged : (z : ℤ) (x : List ℕ) → IsInt z x → ((kind : ℕ) → IsStrictWord kind x → ⊥) → Judged (IsOpening Kinds) (StopsOpening Kinds) x
  word_judged (pos n) x is none = old_judged n x is (cases_lt TEXT_LIMIT n)
  word_judged (negsuc n) x is none = inr (Bad 1 0, inr (inl (negsuc n, is, omega (arith, ints), none, refl)), bad_wrong 1 0)

  opening_judged : (x : List ℕ) → length x ≡ 4 → AreBytes x → ((kind : ℕ) × IsStrictWord kind x) ⊎ ((kind : ℕ) → IsStrictWord kind x → ⊥) → Judged (IsOpening Kinds) (StopsOpening Kinds) x
  opening_judged x len bytes (inl word) = kind_judged word.0 x word.1 (known word.0)
  opening_judged x len bytes (inr none) = let z = int_is x len bytes in word_judged z.0 x z.1 none

  total_opening : Total (IsOpening Kinds) (StopsOpening Kinds)
  total_opening =
      total_wide (IsOpening Kinds) (StopsOpening Kinds) 4 (λ x few. inl (refl, few))
      (λ x len bytes. opening_judged x len bytes (strict_told x len (cases_eq (get_or x 0 0) 128) (cases_eq (get_or x 1 0) 1)))

  -- ---- what stands behind it
  total_kind : Total (IsKind Kinds) (StopsKind Kinds)
  total_kind =
      total_where (λ kind x. x ≡ kind ∷ []) (StopsShort 1) Kinds (StopsKind Kinds) (Bad 2 0)
      (total_wide (λ kind x. x ≡ kind ∷ []) (StopsShort 1) 1 (λ x few. (refl, few)) (λ x len bytes. inl (get_or x 0 0, single x len)))
      known (bad_wrong 2 0) (λ s x kind p none is. inr (kind, p, none, is)) (λ s x p. inl p)

  total_name : Total IsName StopsName
  total_name = total_where IsString StopsString IsUtf8 StopsName (Bad 5 4) total_string utf8_or_not (bad_wrong 5 4) (λ s x body p none is. inr ((body, p, none), is)) (λ s x p. inl p)

  total_named : Total IsNamed StopsNamed
  total_named = total_then IsName StopsName (λ _. IsInt) (λ _. StopsShort 4) total_name (λ name x p. total_int)

  total_old_name : (n : ℕ) → Total (IsOldName n) (StopsOldName n)
  total_old_name n = total_where (IsBody n) (StopsShort n) IsUtf8 (StopsOldName n) (Bad 5 0) (total_body n) utf8_or_not (bad_wrong 5 0) (λ s x name p none is. inr (name, p, none, is)) (λ s x p. inl p)

  total_kinded : Total (IsKinded Kinds) (StopsKinded Kinds)
  total_kinded = total_then (IsKind Kinds) (StopsKind Kinds) (λ _. IsInt) (λ _. StopsShort 4) total_kind (λ kind x p. total_int)

  total_rest : (o : Opening) → Total (IsHeadRest Kinds o) (StopsHeadRest Kinds o)
  total_rest (Strict kind) =
      total_by IsNamed StopsNamed (IsHeadRest Kinds (Strict kind)) StopsNamed total_named
      (λ named x p. (record { name = named.0; kind = kind; sequence = named.1 }, (refl, p))) (λ s x p. p)
  total_rest (Old n) =
      total_by (λ (a : List ℕ × (ℕ × ℤ)). IsThen (IsOldName n) (λ _. IsKinded Kinds) a.0 a.1) (StopsOldRest Kinds n) (IsHeadRest Kinds (Old n)) (StopsOldRest Kinds n)
      (total_then (IsOldName n) (StopsOldName n) (λ _. IsKinded Kinds) (λ _. StopsKinded Kinds) (total_old_name n) (λ name x p. total_kinded))
      (λ a x p. (record { name = a.0; kind = a.1.0; sequence = a.1.1 }, p)) (λ s x p. p)

  total_head : Total (IsHead Kinds) (StopsHead Kinds)
  total_head =
      total_by (λ (a : Opening × Head). IsThen (IsOpening Kinds) (IsHeadRest Kinds) a.0 a.1) (StopsHead Kinds) (IsHead Kinds) (StopsHead Kinds)
      (total_then (IsOpening Kinds) (StopsOpening Kinds) (IsHeadRest Kinds) (StopsHeadRest Kinds) total_opening (λ o x p. total_rest o))
      (λ a x p. ((is_strict a.0, a.1), (a.0, refl, p))) (λ s x p. p)

  -- ---- messages
  total_arguments : Total (λ (v : Fields). IsWire (Struct v) DEPTH_LIMIT 12) (StopsWire DEPTH_LIMIT 12)
  total_arguments =
      total_by (λ (w : Wire). IsWire w DEPTH_LIMIT 12) (StopsWire DEPTH_LIMIT 12) (λ (v : Fields). IsWire (Struct v) DEPTH_LIMIT 12) (StopsWire DEPTH_LIMIT 12)
      (total_wire DEPTH_LIMIT 12 (inr (inr (inr (inr (inr (inr (inr (inl refl)))))))))
      (λ w x p. only_struct w DEPTH_LIMIT x p) (λ s x p. p)

  total_message : Total (IsMessage Kinds) (StopsMessage Kinds)
  total_message =
      total_by (λ (a : (Bool × Head) × Fields). IsThen (IsHead Kinds) (λ _ (v : Fields). IsWire (Struct v) DEPTH_LIMIT 12) a.0 a.1) (StopsMessage Kinds) (IsMessage Kinds) (StopsMessage Kinds)
      (total_then (IsHead Kinds) (StopsHead Kinds) (λ _ (v : Fields). IsWire (Struct v) DEPTH_LIMIT 12) (λ _. StopsWire DEPTH_LIMIT 12) total_head (λ formed x p. total_arguments))
      (λ a x p. (record { strict = a.0.0; head = a.0.1; arguments = a.1 }, p)) (λ s x p. p)

  -- ---- texts
  abbrev Spelled : ℕ → List ℕ → Type 0
  Spelled start text = (ms : List Message) × (end : Ending) × SpellsFrom Kinds start text ms end

  -- a text with no whole message
  ended : (start : ℕ) (text : List ℕ) (end : Ending) → Ends Kinds start text end → Spelled start text
  ended start text end e =
      let here : start ≡ start + 0 = omega arith in
      ([], end, record { whole = []; rest = text; parts = refl; spelled = refl; ends = subst (λ k. Ends Kinds k text end) here e })

  -- a text behind a message
  message_first : (start : ℕ) (m : Message) (text front rest : List ℕ) → text ≡ front ++ rest → IsMessage Kinds m front → length front ≤ room_at start → Spelled (start + length front) rest → Spelled start text
  message_first start m text front rest parts p within s =
      let spelled = s.2 in
      let here : start + length front + length spelled.whole ≡ start + length (front ++ spelled.whole) = omega (arith, length-append front spelled.whole) in (
        m ∷ s.0,
        s.1,
        record {
          whole = front ++ spelled.whole;
          rest = spelled.rest;
          parts = parts ∙ ap (λ t. front ++ t) spelled.parts ∙ sym (append_assoc front spelled.whole spelled.rest);
          spelled = (front, spelled.whole, refl, p, within, spelled.spelled);
          ends = subst (λ k. Ends Kinds k spelled.rest s.1) here spelled.ends;
        },
      )

  -- a message that is cut: the text ends, or the message is too large
  cut_ends : (start : ℕ) (text window after : List ℕ) → text ≡ window ++ after → text ≢ [] → StopsMessage Kinds Cut window → length window ≤ room_at start → ((byte : ℕ) (more : List ℕ) → after ≡ byte ∷ more → length window ≡ room_at start) → Spelled start text
  cut_ends start text window [] parts some stops within full =
      let whole : window ≡ text = sym (append-nil window) ∙ sym parts in
      ended start text (Truncated (start + length text)) (some, subst (λ t. StopsMessage Kinds Cut t) whole stops, subst (λ t. length t ≤ room_at start) whole within, refl)
  cut_ends start text window (byte ∷ more) parts some stops within full = ended start text (Large_at (start + length window)) (inr (window, more, byte, parts, stops, full byte more refl, refl))

  broken_ends : (start : ℕ) (text window after : List ℕ) (s : Stop) (front rest : List ℕ) → text ≡ window ++ after → window ≡ front ++ rest → text ≢ [] → StopsMessage Kinds s front → (s ≡ Cut → rest ≡ []) → length window ≤ room_at start
      → ((byte : ℕ) (more : List ℕ) → after ≡ byte ∷ more → length window ≡ room_at start) → Spelled start text
  broken_ends start text window after Cut front rest parts inside some stops last within full =
      let whole : front ≡ window = sym (append-nil front) ∙ ap (λ t. front ++ t) (sym (last refl)) ∙ sym inside in
      cut_ends start text window after parts some (subst (λ t. StopsMessage Kinds Cut t) whole stops) within full
  broken_ends start text window after (Bad code q) front rest parts inside some stops last within full =
      ended start text (Bad_at code (start + q)) (front, rest ++ after, q, parts ∙ ap (λ t. t ++ after) inside ∙ append_assoc front rest after, stops, omega (arith, within, split_length window front rest inside), refl)
  broken_ends start text window after (Large q) front rest parts inside some stops last within full =
      ended start text (Large_at (start + q)) (inl (front, rest ++ after, q, parts ∙ ap (λ t. t ++ after) inside ∙ append_assoc front rest after, stops, omega (arith, within, split_length window front rest inside), refl))

  text_next : (fuel start : ℕ) → ((at : ℕ) (rest : List ℕ) → AreBytes rest → length rest < fuel → Spelled at rest) → (text window after : List ℕ) → text ≡ window ++ after → AreBytes text → length text < suc fuel → text ≢ [] → length window ≤ room_at start
      → ((byte : ℕ) (more : List ℕ) → after ≡ byte ∷ more → length window ≡ room_at start) → Begins (IsMessage Kinds) (StopsMessage Kinds) window → Spelled start text
  text_next fuel start others text window after parts bytes few some within full (inl w) =
      let split : text ≡ w.front ++ (w.rest ++ after) = parts ∙ ap (λ t. t ++ after) w.parts ∙ append_assoc w.front w.rest after in
      message_first start w.value text w.front (w.rest ++ after) split w.holds (omega (arith, within, split_length window w.front w.rest w.parts))
      (others (start + length w.front) (w.rest ++ after) (bytes_right w.front (w.rest ++ after) (bytes_as text (w.front ++ (w.rest ++ after)) split bytes))
      (omega (arith, few, split_length text w.front (w.rest ++ after) split, some_message Kinds w.value w.front w.holds)))
  text_next fuel start others text window after parts bytes few some within full (inr b) = broken_ends start text window after b.stop b.front b.rest parts b.parts some b.holds b.last within full

  -- the part of a text that a message may have is full where more follows
  window_full : (room : ℕ) (text : List ℕ) (byte : ℕ) (more : List ℕ) → drop room text ≡ byte ∷ more → length (take room text) ≡ room
  window_full room text byte more is = omega (arith, ap length is, length-drop room text, length-take room text)

  text_spelled : (fuel start : ℕ) (text : List ℕ) → AreBytes text → length text < fuel → (text ≡ []) ⊎ (text ≢ []) → Spelled start text
  text_spelled fuel start text bytes few (inl none) = ended start text Boundary none
  text_spelled zero start text bytes few (inr some) = absurd (omega (arith, few))
  text_spelled (suc fuel) start text bytes few (inr some) =
      let parts : text ≡ take (room_at start) text ++ drop (room_at start) text = sym (take-append-drop (room_at start) text) in
      let t = total_message in
      text_next fuel start (λ at rest all less. text_spelled fuel at rest all less (empty_or_not rest)) text (take (room_at start) text) (drop (room_at start) text) parts bytes few some
      (omega (arith, length-take (room_at start) text)) (window_full (room_at start) text)
      (t.begins (take (room_at start) text) (bytes_left (take (room_at start) text) (drop (room_at start) text) (bytes_as text (take (room_at start) text ++ drop (room_at start) text) parts bytes)))

  pub has_an_ending : HasAnEnding Kinds
  has_an_ending start text bytes = text_spelled (suc (length text)) start text bytes (omega arith) (empty_or_not text)

pub asks_told : (kind : ℕ) → Asks kind ⊎ (Asks kind → ⊥)
asks_told kind = either (cases_eq kind 1) (cases_eq kind 4)

pub replies_told : (kind : ℕ) → Replies kind ⊎ (Replies kind → ⊥)
replies_told kind = either (cases_eq kind 2) (cases_eq kind 3)
