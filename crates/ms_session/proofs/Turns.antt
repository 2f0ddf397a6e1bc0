-- One message more is carried out and answered.
use Rattle.std.proofs.Common.{◌≡◌, ◌==◌, ◌≢◌, ℕ, ◌+◌, ◌≤◌, Bool, true, false, cond, List, [], ◌∷◌, ◌++◌, length, map, Option, Some, None, refl, sym, ap, ◌∙◌, subst, append_assoc, arith, length-append}
use Rattle.std.specs.List.{AllByRecursion, concat, flat_map}
use Rattle.std.proofs.lemmas.Bool.{false≢true}
use Rattle.std.proofs.lemmas.List.{append-nil, map-append}
use Rattle.std.proofs.lemmas.List.Concat.{flat_map-append}
use Rattle.std.proofs.lemmas.List.Folds.{concat-append}
use Rattle.hms_outside.specs.Told.{Goes, Held, Same, Sent}
use Rattle.cat_types.specs.declared.replies.Reply.{Reply}
use Rattle.desk.specs.History.{Entry}
use Rattle.thrift_binary.specs.declared.head.Head.{Head}
use Rattle.thrift_binary.specs.Messages.{Message, Asks, IsMessage, AreMessages}
use Rattle.thrift_binary.specs.Taking.{room_at}
use Rattle.thrift_binary.proofs.OneText.{one_more}
use Rattle.ms_session.specs.Replies.{reply_bytes, sent_for}
use Rattle.ms_session.specs.Turns.{Carried, IsTurn, Replied, Replies, Shelf, ShelfPasses, Timed, Turn, ends_of, moments_in, moments_of, replies_of}

-- ---- moments

timed_untold : (moments : List ℕ) (c : Option (List ℕ)) → Timed moments None c
timed_untold [] c = tt
timed_untold (m ∷ ms) c = (None, tt, timed_untold ms c)

timed_same : (moments : List ℕ) (a b c : Option (List ℕ)) → Goes Same a b → Timed moments b c → Timed moments a c
timed_same moments None b c same timed = timed_untold moments c
timed_same moments (Some x) None c same timed = absurd same
timed_same moments (Some x) (Some y) c same timed = subst (λ (z : List ℕ). Timed moments (Some z) c) same timed

timed-append : (ms ns : List ℕ) (a b c : Option (List ℕ)) → Timed ms a b → Timed ns b c → Timed (ms ++ ns) a c
timed-append [] ns a b c first second = timed_same ns a b c first second
timed-append (m ∷ ms) ns a b c first second = (first.0, first.1, timed-append ms ns first.0 b c first.2 second)

-- ---- the folder

passed_more : (turns : List Turn) (turn : Turn) (a b : Shelf) → ShelfPasses turns a b → turn.before ≡ b → ShelfPasses (turns ++ turn ∷ []) a turn.after
passed_more [] turn a b so_far from = (from ∙ so_far, refl)
passed_more (t ∷ ts) turn a b so_far from = (so_far.0, passed_more ts turn t.after b so_far.1 from)

-- ---- messages

spells_more : (turns : List Turn) (turn : Turn) (front rest : List ℕ) → AreMessages Asks 0 (map (λ t. t.message) turns) front → IsMessage Asks turn.message rest → length rest ≤ room_at (length front)
    → AreMessages Asks 0 (map (λ t. t.message) (turns ++ turn ∷ [])) (front ++ rest)
spells_more turns turn front rest all one within =
    let here : length front ≡ 0 + length front = omega arith in
    subst (λ (ms : List Message). AreMessages Asks 0 ms (front ++ rest)) (sym (map-append (λ (t : Turn). t.message) turns (turn ∷ [])))
    (one_more Asks (map (λ t. t.message) turns) turn.message 0 front rest all one (subst (λ (n : ℕ). length rest ≤ room_at n) here within))

each_more : (turns : List Turn) (turn : Turn) → AllByRecursion IsTurn turns → IsTurn turn → AllByRecursion IsTurn (turns ++ turn ∷ [])
each_more [] turn all one = (one, tt)
each_more (t ∷ ts) turn all one = (all.0, each_more ts turn all.1 one)

own_more : (turns : List Turn) (turn : Turn) → flat_map (λ t. t.entries) (turns ++ turn ∷ []) ≡ flat_map (λ t. t.entries) turns ++ turn.entries
own_more turns turn = flat_map-append (λ t. t.entries) turns (turn ∷ []) ∙ ap (λ (es : List Entry). flat_map (λ t. t.entries) turns ++ es) (append-nil turn.entries)

-- one more message was carried out
pub carried_more : (turns : List Turn) (turn : Turn) (front rest : List ℕ) (a b c : Option (List ℕ)) (f g : Shelf) (xs ys : List Entry)
    → Carried turns front a b f g xs → IsMessage Asks turn.message rest → length rest ≤ room_at (length front) → IsTurn turn → turn.entries ≡ ys → Timed (moments_of ys) b c → turn.before ≡ g
    → Carried (turns ++ turn ∷ []) (front ++ rest) a c f turn.after (xs ++ ys)
carried_more turns turn front rest a b c f g xs ys so_far message within is own timed from = record {
  spelled = spells_more turns turn front rest so_far.spelled message within;
  each = each_more turns turn so_far.each is;
  own = ap (λ (es : List Entry). es ++ ys) so_far.own ∙ ap (λ (es : List Entry). flat_map (λ t. t.entries) turns ++ es) (sym own) ∙ sym (own_more turns turn);
  moments = subst (λ (ms : List ℕ). Timed ms a c) (sym (flat_map-append (λ e. moments_in e.0.step) xs ys)) (timed-append (moments_of xs) (moments_of ys) a b c so_far.moments timed);
  passed = passed_more turns turn f g so_far.passed from;
}

-- ---- replies

ends-append : (start : ℕ) (xs ys : List (List ℕ)) → ends_of start (xs ++ ys) ≡ ends_of start xs ++ ends_of (start + length (concat xs)) ys
ends-append start [] ys = ap (λ (n : ℕ). ends_of n ys) (omega arith)
ends-append start (r ∷ rs) ys =
    let sum : start + length r + length (concat rs) ≡ start + length (concat (r ∷ rs)) = omega (arith, length-append r (concat rs)) in
    ap (λ (ns : List ℕ). (start + length r) ∷ ns) (ends-append (start + length r) rs ys ∙ ap (λ (n : ℕ). ends_of (start + length r) rs ++ ends_of n ys) sum)

replied-append : (xs ys : List (List ℕ)) (x y z : Held) → Replied xs x y → Replied ys y z → Replied (xs ++ ys) x z
replied-append xs ys x y z first second =
    let len : length y.bytes ≡ length x.bytes + length (concat xs) = ap length first.bytes_grew ∙ length-append x.bytes (concat xs) in
    record {
      bytes_grew = second.bytes_grew ∙ ap (λ (b : List ℕ). b ++ concat ys) first.bytes_grew ∙ append_assoc x.bytes (concat xs) (concat ys) ∙ ap (λ (t : List ℕ). x.bytes ++ t) (sym (concat-append xs ys));
      flushes_grew = second.flushes_grew ∙ ap (λ (fs : List ℕ). fs ++ ends_of (length y.bytes) ys) first.flushes_grew
          ∙ append_assoc x.flushes (ends_of (length x.bytes) xs) (ends_of (length y.bytes) ys)
          ∙ ap (λ (n : ℕ). x.flushes ++ (ends_of (length x.bytes) xs ++ ends_of n ys)) len
          ∙ ap (λ (es : List ℕ). x.flushes ++ es) (sym (ends-append (length x.bytes) xs ys));
    }

-- one more message was answered, or wants no reply
pub replied_more : (turns : List Turn) (turn : Turn) (x y z : Held) → Replied (replies_of turns) x y → Replied (sent_for turn.message.head turn.reply) y z → Replied (replies_of (turns ++ turn ∷ [])) x z
replied_more turns turn x y z first second =
    let more : replies_of (turns ++ turn ∷ []) ≡ replies_of turns ++ sent_for turn.message.head turn.reply = flat_map-append (λ (t : Turn). sent_for t.message.head t.reply) turns (turn ∷ []) ∙ ap (λ (rs : List (List ℕ)). replies_of turns ++ rs) (append-nil (sent_for turn.message.head turn.reply)) in
    subst (λ (rs : List (List ℕ)). Replied rs x z) (sym more) (replied-append (replies_of turns) (sent_for turn.message.head turn.reply) x y z first second)

-- nothing was sent
pub replied_none : (h : Option Held) → Goes (Replied []) h h
replied_none None = tt
replied_none (Some x) = record { bytes_grew = sym (append-nil x.bytes); flushes_grew = sym (append-nil x.flushes) }

sent_whole : (bytes : List ℕ) (x y : Held) → Sent bytes x y → Replied (bytes ∷ []) x y
sent_whole bytes x y sent = record { bytes_grew = sent.bytes_grew ∙ ap (λ (t : List ℕ). x.bytes ++ t) (sym (append-nil bytes)); flushes_grew = sent.flushes_grew }

-- a reply that is wanted was sent
pub reply_sent : (head : Head) (reply : Reply) (h h' : Option Held) → (head.kind == 4) ≡ false → Goes (Sent (reply_bytes head reply)) h h' → Replies head reply h h'
reply_sent head reply None h' wanted sent = tt
reply_sent head reply (Some x) None wanted sent = absurd sent
reply_sent head reply (Some x) (Some y) wanted sent = subst (λ (b : Bool). Replied (cond b [] (reply_bytes head reply ∷ [])) x y) (sym wanted) (sent_whole (reply_bytes head reply) x y sent)

-- a message that wants no reply is sent none
pub no_reply : (head : Head) (reply : Reply) (h : Option Held) → (head.kind == 4) ≡ true → Replies head reply h h
no_reply head reply h one_way = subst (λ (b : Bool). Goes (Replied (cond b [] (reply_bytes head reply ∷ []))) h h) (sym one_way) (replied_none h)

pub is_wanted : (kind : ℕ) → (kind == 4) ≡ false → kind ≢ 4
is_wanted kind wanted is = false≢true (sym (subst (λ (k : ℕ). (k == 4) ≡ false) is wanted))
