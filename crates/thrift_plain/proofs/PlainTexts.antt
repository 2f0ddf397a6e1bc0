-- Messages and whole texts, as the plain decoder takes them.
use Rattle.std.proofs.Common.{◌≡◌, ◌≢◌, ◌≤◌, ◌<◌, inl, inr, ℕ, ◌+◌, ◌-◌, Bool, ℤ, List, [], ◌∷◌, ◌++◌, length, map, refl, sym, ap, ◌∙◌, subst, append_assoc, append-nil, take, drop, length-append, arith}
use Rattle.std.proofs.Math.Seq.{take-append_seam}
use Rattle.std.proofs.lemmas.List.{take-append-drop}
use Rattle.std.specs.Prelude.{◌==◌, false}
use Rattle.thrift_binary.specs.declared.head.Head.{Head}
use Rattle.thrift_binary.specs.declared.limits.TheConstants.{DEPTH_LIMIT}
use Rattle.thrift_binary.specs.Taking.{Stop, Cut, Bad, Large, room_at}
use Rattle.thrift_binary.specs.Tree.{Wire, Flag, Number, Eight, Bytes, Struct, Items, Pairs, Fields}
use Rattle.thrift_binary.specs.Wire.{IsWire, IsNumber, StopsWire}
use Rattle.thrift_binary.specs.Messages.{Message, Asks, IsHead, StopsHead, IsMessage, StopsMessage, AreMessages, Ends, Truncated, Bad_at, Large_at}
use Rattle.thrift_plain.specs.Plain.{flat, wire_tokens, ending_of, Decodes}
use Rattle.thrift_plain.specs.PlainReading.{Told, Passed, ValueAdded}
use Rattle.thrift_plain.specs.declared.plain_messages.PlainMessage.{PlainMessage}
use Rattle.thrift_plain.specs.declared.plain_messages.PlainEnd.{PlainEnd}
use Rattle.thrift_plain.specs.declared.plain_messages.Token.{Token}
use Rattle.thrift_plain.specs.declared.plain_reader.Halt.{Halt}
use Rattle.thrift_plain.specs.declared.plain_reader.Halt.TheVariants as told
use Rattle.thrift_plain.proofs.PlainTaking.{Faulted, passed_then, fault_then}

no_number : (n : ℤ) (bytes : List ℕ) → IsNumber 12 n bytes → ⊥
no_number n bytes (inl h) = omega (arith, h.0)
no_number n bytes (inr (inl h)) = omega (arith, h.0)
no_number n bytes (inr (inr (inl h))) = omega (arith, h.0)
no_number n bytes (inr (inr (inr h))) = omega (arith, h.0)

-- a value of the type of structs is one
struct_of : (w : Wire) (depth : ℕ) (bytes : List ℕ) → IsWire w depth 12 bytes → (v : Fields) × (w ≡ Struct v)
struct_of (Flag value) depth bytes h = absurd (omega (arith, h.0))
struct_of (Number n) depth bytes h = absurd (no_number n bytes h)
struct_of (Eight eight) depth bytes h = absurd (omega (arith, h.0))
struct_of (Bytes body) depth bytes h = absurd (omega (arith, h.0))
struct_of (Struct v) depth bytes h = (v, refl)
struct_of (Items of es) depth bytes h = absurd (elim h.0 [ inl e ↦ omega (arith, e) | inr e ↦ omega (arith, e) ])
struct_of (Pairs key value ps) depth bytes h = absurd (omega (arith, h.0))

module _ (old mid : List ℕ) (strict : Bool) (head : Head) (first : Passed old mid (IsHead Asks (strict, head))) where
  pub message_fault : (halt : Halt) → Faulted mid halt (StopsWire DEPTH_LIMIT 12) → Faulted old halt (StopsMessage Asks)
  message_fault halt stop = fault_then (IsHead Asks) (StopsHead Asks) (λ _ (arguments : Fields). IsWire (Struct arguments) DEPTH_LIMIT 12) (λ _. StopsWire DEPTH_LIMIT 12) old mid (strict, head) halt first stop

  pub message_taken : (new : List ℕ) (tokens : List Token) → Passed mid new (ValueAdded [] tokens DEPTH_LIMIT 12)
      → Passed old new (λ bytes. (t : Message) × (record { strict = strict; head = head; arguments = tokens } ≡ flat t) × IsMessage Asks t bytes)
  message_taken new tokens value = passed_then old mid new (IsHead Asks (strict, head)) (ValueAdded [] tokens DEPTH_LIMIT 12) _
      (λ front rest x y.
      let s = struct_of y.0 DEPTH_LIMIT rest y.1 in (
        record { strict = strict; head = head; arguments = s.0 },
        ap (λ (t : List Token). record { strict = strict; head = head; arguments = t }) (y.2 ∙ ap (wire_tokens 12) s.1),
        (front, rest, refl, x, subst (λ w. IsWire w DEPTH_LIMIT 12 rest) s.1 y.1),
      )) first value

messages_more : (Kinds : ℕ → Type 0) (start : ℕ) (ms : List Message) (m : Message) (whole front : List ℕ) → AreMessages Kinds start ms whole → IsMessage Kinds m front → length front ≤ room_at (start + length whole) → AreMessages Kinds start (ms ++ m ∷ []) (whole ++ front)
messages_more Kinds start [] m whole front h is few =
    (front, [], ap (λ t. t ++ front) h ∙ sym (append-nil front), is, subst (λ n. length front ≤ room_at n) (omega (arith, ap length h)) few, refl)
messages_more Kinds start (m' ∷ ms) m whole front (first, rest, parts, is', few', more) is few = (
  first,
  rest ++ front,
  ap (λ t. t ++ front) parts ∙ append_assoc first rest front,
  is',
  few',
  messages_more Kinds (start + length first) ms m rest front more is (subst (λ n. length front ≤ room_at n) (omega (arith, ap length parts, length-append first rest)) few),
)

flat_more : (ms : List Message) (m : Message) → map flat (ms ++ m ∷ []) ≡ map flat ms ++ flat m ∷ []
flat_more [] m = refl
flat_more (m' ∷ ms) m = ap (λ t. flat m' ∷ t) (flat_more ms m)

-- fronts of one length are equal
front_same : (x y u v : List ℕ) → length x ≡ length y → x ++ u ≡ y ++ v → x ≡ y
front_same x y u v len e = sym (take-append_seam x u) ∙ ap (take (length x)) e ∙ ap (λ n. take n (y ++ v)) len ∙ take-append_seam y v

-- so far these messages were decoded, and this is left
pub record Decoded (text rest : List ℕ) (start : ℕ) (given : List PlainMessage) : Type 0 where
  pub messages : List Message
  pub whole : List ℕ
  pub parts : text ≡ whole ++ rest
  pub place : start ≡ length whole
  pub spelled : AreMessages Asks 0 messages whole
  pub same : given ≡ map flat messages

pub nothing_decoded : (text : List ℕ) → Decoded text text 0 []
nothing_decoded text = record { messages = []; whole = []; parts = refl; place = refl; spelled = refl; same = refl }

pub message_decoded : (text rest new : List ℕ) (start size : ℕ) (given given' : List PlainMessage) (p : PlainMessage) → Decoded text rest start given
    → ((t : Message) × (front more : List ℕ) × (p ≡ flat t) × (rest ≡ front ++ more) × (size ≡ length front) × (0 < size) × IsMessage Asks t front × (size ≤ room_at start))
    → (taken : List ℕ) → rest ≡ taken ++ new → length taken ≡ size → given' ≡ given ++ p ∷ [] → Decoded text new (start + size) given'
message_decoded text rest new start size given given' p so_far (t, front, more, is, parts, count, some, spelled, few) taken split len put =
    let same : taken ≡ front = front_same taken front new more (len ∙ count) (sym split ∙ parts) in
    record {
      messages = so_far.messages ++ t ∷ [];
      whole = so_far.whole ++ front;
      parts = so_far.parts ∙ ap (λ x. so_far.whole ++ x) (split ∙ ap (λ x. x ++ new) same) ∙ sym (append_assoc so_far.whole front new);
      place = omega (arith, so_far.place, count, length-append so_far.whole front);
      spelled = messages_more Asks 0 so_far.messages t so_far.whole front so_far.spelled spelled (omega (arith, subst (λ n. size ≤ room_at n) so_far.place few, count));
      same = put ∙ ap (λ x. x ++ p ∷ []) so_far.same ∙ ap (λ x. map flat so_far.messages ++ x ∷ []) is ∙ sym (flat_more so_far.messages t);
    }

pub text_decoded : (text rest : List ℕ) (start : ℕ) (given : List PlainMessage) (end : PlainEnd) → Decoded text rest start given → Ends Asks start rest (ending_of end) → Decodes text given end
text_decoded text rest start given end so_far ends = (
  so_far.messages,
  record {
    whole = so_far.whole;
    rest = rest;
    parts = so_far.parts;
    spelled = so_far.spelled;
    ends = subst (λ n. Ends Asks n rest (ending_of end)) (omega (arith, so_far.place)) ends;
  },
  so_far.same,
)

-- no message is empty
message_some : (t : Message) (bytes : List ℕ) → IsMessage Asks t bytes → 0 < length bytes
message_some t bytes (head, rest, parts, is, under) =
    omega (arith, ap length parts, length-append head rest, ap length under.4, length-append under.3 (0 ∷ []))

pub nonempty : (xs : List ℕ) → false ≡ (length xs == 0) → xs ≢ []
nonempty xs f e = let g = subst (λ x. false ≡ (length x == 0)) e f in cc

-- a text that was split
pub split_parts : (rest window behind : List ℕ) (n : ℕ) → window ≡ take n rest → behind ≡ drop n rest → rest ≡ window ++ behind
split_parts rest window behind n front back = sym (take-append-drop n rest) ∙ ap (λ x. x ++ drop n rest) (sym front) ∙ ap (λ x. window ++ x) (sym back)

-- ---- how a message's window stops

cut_here : (old front more : List ℕ) (s : Stop) (S : Stop → List ℕ → Type 0) → old ≡ front ++ more → S s front → Told (length old) more s told.Cut → S Cut old
cut_here old front more Cut S parts holds t = subst (S Cut) (sym (parts ∙ ap (λ x. front ++ x) t.1 ∙ append-nil front)) holds
cut_here old front more (Bad code q) S parts holds t = absurd (let e = t.1 in cc)
cut_here old front more (Large q) S parts holds t = absurd (let e = t.1 in cc)

cut_of : (old : List ℕ) (S : Stop → List ℕ → Type 0) → Faulted old told.Cut S → S Cut old
cut_of old S (inl h) = cut_here old h.front h.more h.stop S h.parts h.holds h.tells
cut_of old S (inr e) = absurd (let f = e in cc)

-- something bad, or too large, at this place of the bytes
abbrev StopsAt : (ℕ → Stop) → List ℕ → ℕ → (Stop → List ℕ → Type 0) → Type 0
StopsAt at old left S = (front more : List ℕ) × (q : ℕ) × (old ≡ front ++ more) × S (at q) front × (left + q ≡ length old)

bad_here : (old front more : List ℕ) (s : Stop) (code left : ℕ) (S : Stop → List ℕ → Type 0) → old ≡ front ++ more → S s front → Told (length old) more s (told.Bad code left) → StopsAt (Bad code) old left S
bad_here old front more Cut code left S parts holds t = absurd (let e = t.0 in cc)
bad_here old front more (Bad code' q) code left S parts holds t =
    let e = t.1 in
    let same : code' ≡ code = cc in
    let here : t.0 ≡ left = cc in
    (front, more, q, parts, subst (λ c. S (Bad c q) front) same holds, omega (arith, t.2, here))
bad_here old front more (Large q) code left S parts holds t = absurd (let e = t.1 in cc)

bad_of : (old : List ℕ) (code left : ℕ) (S : Stop → List ℕ → Type 0) → Faulted old (told.Bad code left) S → StopsAt (Bad code) old left S
bad_of old code left S (inl h) = bad_here old h.front h.more h.stop code left S h.parts h.holds h.tells
bad_of old code left S (inr e) = absurd (let f = e in cc)

large_here : (old front more : List ℕ) (s : Stop) (left : ℕ) (S : Stop → List ℕ → Type 0) → old ≡ front ++ more → S s front → Told (length old) more s (told.Large left) → StopsAt Large old left S
large_here old front more Cut left S parts holds t = absurd (let e = t.0 in cc)
large_here old front more (Bad code q) left S parts holds t = absurd (let e = t.1 in cc)
large_here old front more (Large q) left S parts holds t =
    let e = t.1 in
    let here : t.0 ≡ left = cc in
    (front, more, q, parts, holds, omega (arith, t.2, here))

large_of : (old : List ℕ) (left : ℕ) (S : Stop → List ℕ → Type 0) → Faulted old (told.Large left) S → StopsAt Large old left S
large_of old left S (inl h) = large_here old h.front h.more h.stop left S h.parts h.holds h.tells
large_of old left S (inr e) = absurd (let f = e in cc)

none_behind : (window behind : List ℕ) → (length window < length (window ++ behind) → ⊥) → window ++ behind ≡ window
none_behind window [] all = append-nil window
none_behind window (byte ∷ more) all = absurd (all (omega (arith, length-append window (byte ∷ more))))

past_limit : (start : ℕ) (window behind : List ℕ) → length window < length (window ++ behind) → length window ≡ room_at start → StopsMessage Asks Cut window → Ends Asks start (window ++ behind) (Large_at (start + length window))
past_limit start window [] more full cut = absurd (omega (arith, more, length-append window []))
past_limit start window (byte ∷ rest) more full cut = inr (window, rest, byte, refl, cut, full, refl)

module _ (start size : ℕ) (rest window behind : List ℕ) (split : rest ≡ window ++ behind) (len : length window ≡ size) where
  pub ends_truncated : rest ≢ [] → (size < length rest → ⊥) → size ≤ room_at start → Faulted window told.Cut (StopsMessage Asks) → Ends Asks start rest (Truncated (start + size))
  ends_truncated some all room stop =
      let whole : window ++ behind ≡ window = none_behind window behind (λ less. all (omega (arith, less, len, ap length split))) in
      let is : rest ≡ window = split ∙ whole in
      (some, subst (StopsMessage Asks Cut) (sym is) (cut_of window (StopsMessage Asks) stop), omega (arith, ap length is, len, room), omega (arith, ap length is, len))

  pub ends_past : (room : ℕ) → size < length rest → size ≡ room → room ≡ room_at start → Faulted window told.Cut (StopsMessage Asks) → Ends Asks start rest (Large_at (start + room))
  ends_past room more full is stop =
      let at : start + length window ≡ start + room = omega (arith, len, full) in
      subst (λ n. Ends Asks start rest (Large_at n)) at (subst (λ x. Ends Asks start x (Large_at (start + length window))) (sym split)
      (past_limit start window behind (omega (arith, more, len, ap length split)) (len ∙ full ∙ is) (cut_of window (StopsMessage Asks) stop)))

  ends_bad_at : (code left : ℕ) → size ≤ room_at start → Faulted window (told.Bad code left) (StopsMessage Asks) → Ends Asks start rest (Bad_at code (start + (size - left)))
  ends_bad_at code left room stop =
      let h = bad_of window code left (StopsMessage Asks) stop in
      (h.0, h.1 ++ behind, h.2, split ∙ ap (λ x. x ++ behind) h.3 ∙ append_assoc h.0 h.1 behind, h.4, omega (arith, room, len, ap length h.3, length-append h.0 h.1), omega (arith, h.5, len))

  ends_large_at : (left : ℕ) → size ≤ room_at start → Faulted window (told.Large left) (StopsMessage Asks) → Ends Asks start rest (Large_at (start + (size - left)))
  ends_large_at left room stop =
      let h = large_of window left (StopsMessage Asks) stop in
      inl (h.0, h.1 ++ behind, h.2, split ∙ ap (λ x. x ++ behind) h.3 ∙ append_assoc h.0 h.1 behind, h.4, omega (arith, room, len, ap length h.3, length-append h.0 h.1), omega (arith, h.5, len))

  pub ends_bad : (code left code' left' : ℕ) → code' ≡ code → left' ≡ left → size ≤ room_at start → Faulted window (told.Bad code left) (StopsMessage Asks) → Ends Asks start rest (Bad_at code' (start + (size - left')))
  ends_bad code left code' left' code_is left_is room stop =
      subst (λ x. Ends Asks start rest (Bad_at code' (start + (size - x)))) (sym left_is) (subst (λ x. Ends Asks start rest (Bad_at x (start + (size - left)))) (sym code_is) (ends_bad_at code left room stop))

  pub ends_large : (left left' : ℕ) → left' ≡ left → size ≤ room_at start → Faulted window (told.Large left) (StopsMessage Asks) → Ends Asks start rest (Large_at (start + (size - left')))
  ends_large left left' left_is room stop = subst (λ x. Ends Asks start rest (Large_at (start + (size - x)))) (sym left_is) (ends_large_at left room stop)

  pub message_next : (p : PlainMessage) (left : List ℕ) → size ≤ room_at start → Passed window left (λ bytes. (t : Message) × (p ≡ flat t) × IsMessage Asks t bytes) → (n : ℕ) → n ≡ size - length left
      → (t : Message) × (front more : List ℕ) × (p ≡ flat t) × (rest ≡ front ++ more) × (n ≡ length front) × (0 < n) × IsMessage Asks t front × (n ≤ room_at start)
  message_next p left room passed n is =
      let count : n ≡ length passed.bytes = omega (arith, is, len, ap length passed.parts, length-append passed.bytes left) in (
        passed.holds.0,
        passed.bytes,
        left ++ behind,
        passed.holds.1,
        split ∙ ap (λ x. x ++ behind) passed.parts ∙ append_assoc passed.bytes left behind,
        count,
        omega (arith, count, message_some passed.holds.0 passed.bytes passed.holds.2),
        passed.holds.2,
        omega (arith, is, room),
      )
