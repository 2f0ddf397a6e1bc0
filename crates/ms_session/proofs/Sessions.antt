-- A session goes on, and ends.
use Rattle.std.proofs.Common.{◌≡◌, ℕ, ◌+◌, ◌<◌, ◌≤◌, ◌⊎◌, List, [], ◌∷◌, ◌++◌, length, Option, Some, None, Err, refl, sym, ap, ◌∙◌, subst, arith, inl, inr, length-append}
use Rattle.std.specs.Io.KnownBytes.{Consumes, IsAtEnd}
use Rattle.std.proofs.KnownBytes.{Consumes-nil, Consumes-trans}
use Rattle.hms_outside.specs.Told.{Goes, Held, Same}
use Rattle.hms_outside.proofs.SinkLemmas.{Goes-then}
use Rattle.cat_types.specs.declared.replies.Reply.{Reply}
use Rattle.desk.specs.History.{Entry}
use Rattle.thrift_binary.specs.declared.head.Head.{Head}
use Rattle.thrift_binary.specs.declared.fault.WireFault.{WireFault}
use Rattle.thrift_binary.specs.declared.fault.WireFault.TheVariants.{Truncated, BadWire, TooLarge, ReadFault, NoMemory}
use Rattle.thrift_binary.specs.declared.progress.Progress.{Progress}
use Rattle.thrift_binary.specs.Messages.{Asks, Message, IsMessage, StopsMessage}
use Rattle.thrift_binary.specs.Openings.{IsInside}
use Rattle.thrift_binary.specs.Taking.{Stop, Cut, Tells, Took, fresh, room_at}
use Rattle.thrift_binary.proofs.Reading.{Took-place, Took-weaker}
use Rattle.ms_calls.specs.declared.request.Asked.{Asked}
use Rattle.ms_calls.specs.declared.request.Asked.TheVariants as ask
use Rattle.ms_structs.specs.Getting.{Begun, ReadsTree}
use Rattle.ms_session.specs.Requests.{IsNext, SaysRequest, asks}
use Rattle.ms_session.specs.Session.{Interrupted, IsPart, IsShutdown, Met, Served, Session, end_of_fault}
use Rattle.ms_session.specs.Turns.{AnswersBy, Begins, Carried, Due, IsTurn, Replied, Replies, Turn, replies_of}
use Rattle.ms_session.specs.declared.end.End.TheVariants as ended
use Rattle.ms_session.specs.declared.request.Request.{Request}
use Rattle.ms_session.proofs.Turns.{carried_more, replied_more, replied_none}

-- ---- what came next

-- a message, which is what this request says
pub record Came (request : Request) (bytes : List ℕ) : Type 0 where
  pub message : Message
  pub spelled : IsMessage Asks message bytes
  pub head : message.head ≡ request.head
  pub asked : asks message ≡ request.asked

-- the next message, as it was read
abbrev pub Next : Option Request → List ℕ → Type 0
Next said bytes = (w : Option Message) × IsNext w bytes × SaysRequest w said

a_request : (request : Request) (bytes : List ℕ) (w : Option Message) → IsNext w bytes → SaysRequest w (Some request) → Came request bytes
a_request request bytes None is says = absurd says
a_request request bytes (Some m) is says = record { message = m; spelled = is; head = says.0; asked = says.2 }

pub came : (a b : Option (List ℕ)) (p q : Progress) (request : Request) → Took a b p q (Next (Some request)) → Took a b p q (Came request)
came a b p q request took = Took-weaker a b p q (Next (Some request)) (Came request) (λ bytes h. a_request request bytes h.0 h.1 h.2) took

nothing : (bytes : List ℕ) (w : Option Message) → IsNext w bytes → SaysRequest w None → bytes ≡ []
nothing bytes None is says = is
nothing bytes (Some m) is says = absurd says

-- ---- how far a session has come

-- messages up to this place were carried out and answered whole
pub record SoFar (old new : Met) (place : ℕ) (entries : List Entry) : Type 0 where
  pub turns : List Turn
  pub bytes : List ℕ
  pub lost : Consumes old.left new.left bytes
  pub here : place ≡ length bytes
  pub carried : Carried turns bytes old.clock new.clock old.shelf new.shelf entries
  pub replied : Goes (Replied (replies_of turns)) old.held new.held

-- the same, but for what the source has left
abbrev pub later : Met → Option (List ℕ) → Met
later met left = record { left = left; held = met.held; clock = met.clock; shelf = met.shelf }

-- nothing so far
pub nothing_yet : (met : Met) (place : ℕ) → place ≡ 0 → SoFar met met place []
nothing_yet met place at = record {
  turns = [];
  bytes = [];
  lost = Consumes-nil met.left;
  here = at;
  carried = record { spelled = refl; each = tt; own = refl; moments = same met.clock; passed = refl };
  replied = replied_none met.held;
}
  where
    same : (a : Option (List ℕ)) → Goes Same a a
    same None = tt
    same (Some x) = refl

-- ---- one message more

-- a message that was taken, with its entries, the folder before and after it, and its reply
abbrev turn_of : (met new : Met) (p q : Progress) (request : Request) → Took met.left new.left (fresh p) q (Came request) → List Entry → Reply → Turn
turn_of met new p q request took entries reply = record { message = took.holds.message; entries = entries; before = met.shelf; after = new.shelf; reply = reply }

-- it was carried out behind others
one_carried : (old met new : Met) (p q : Progress) (xs ys : List Entry) (request : Request) (so_far : SoFar old met p.place xs) (took : Took met.left new.left (fresh p) q (Came request))
    → (Went : Head → Reply → Option Held → Option Held → Type 0) (answers : AnswersBy Went request ys met.clock new.clock met.shelf new.shelf met.held new.held)
    → Carried (so_far.turns ++ turn_of met new p q request took ys answers.1 ∷ []) (so_far.bytes ++ took.bytes) old.clock new.clock old.shelf new.shelf (xs ++ ys)
one_carried old met new p q xs ys request so_far took Went answers =
    let turn = turn_of met new p q request took ys answers.1 in
    let fits : length took.bytes ≤ room_at p.place = omega (arith, took.within) in
    let is : IsTurn turn = (answers.0, subst (λ (a : Asked). Due a ys met.shelf new.shelf answers.0) (sym took.holds.asked) answers.2, answers.3) in
    carried_more so_far.turns turn so_far.bytes took.bytes old.clock met.clock new.clock old.shelf met.shelf xs ys so_far.carried took.holds.spelled (subst (λ (n : ℕ). length took.bytes ≤ room_at n) so_far.here fits) is refl answers.4 refl

-- one more message was carried out, and answered whole
pub one_more : (old met new : Met) (p q : Progress) (xs ys : List Entry) (request : Request) → SoFar old met p.place xs → Took met.left new.left (fresh p) q (Came request)
    → AnswersBy Replies request ys met.clock new.clock met.shelf new.shelf met.held new.held → SoFar old new q.place (xs ++ ys)
one_more old met new p q xs ys request so_far took answers =
    let turn = turn_of met new p q request took ys answers.1 in
    record {
      turns = so_far.turns ++ turn ∷ [];
      bytes = so_far.bytes ++ took.bytes;
      lost = Consumes-trans old.left met.left new.left so_far.bytes took.bytes so_far.lost took.consumed;
      here = omega (arith, Took-place met.left new.left (fresh p) q (Came request) took, so_far.here, length-append so_far.bytes took.bytes);
      carried = one_carried old met new p q xs ys request so_far took Replies answers;
      replied = Goes-then old.held met.held new.held _ _ _ (replied_more so_far.turns turn) so_far.replied (subst (λ (h : Head). Replies h answers.1 met.held new.held) (sym took.holds.head) answers.5);
    }

-- one more message was carried out, and not answered whole
pub one_part : (old met new : Met) (p q : Progress) (xs ys : List Entry) (request : Request) → SoFar old met p.place xs → Took met.left new.left (fresh p) q (Came request)
    → AnswersBy Begins request ys met.clock new.clock met.shelf new.shelf met.held new.held → Interrupted old new (xs ++ ys)
one_part old met new p q xs ys request so_far took answers =
    let begins = subst (λ (h : Head). Begins h answers.1 met.held new.held) (sym took.holds.head) answers.5 in
    record {
      turns = so_far.turns;
      last = turn_of met new p q request took ys answers.1;
      taken = so_far.bytes ++ took.bytes;
      lost = Consumes-trans old.left met.left new.left so_far.bytes took.bytes so_far.lost took.consumed;
      carried = one_carried old met new p q xs ys request so_far took Begins answers;
      wanted = begins.0;
      replied = Goes-then old.held met.held new.held _ _ _ (λ u v w whole more. record { between = v; whole = whole; part = more }) so_far.replied begins.1;
    }

-- ---- ends

-- the rest, and how the source lost it with the messages
served : (old met : Met) (left : Option (List ℕ)) (at : ℕ) (xs : List Entry) (rest : List ℕ) (Rest : ℕ → List ℕ → Type 0) → SoFar old met at xs → Consumes met.left left rest → Rest at rest → Served old (later met left) xs Rest
served old met left at xs rest Rest so_far lost behind = record {
  turns = so_far.turns;
  taken = so_far.bytes;
  rest = rest;
  lost = Consumes-trans old.left met.left left so_far.bytes rest so_far.lost lost;
  carried = so_far.carried;
  replied = so_far.replied;
  behind = subst (λ (n : ℕ). Rest n rest) so_far.here behind;
}

-- nothing more was there
pub no_more : (old met : Met) (left : Option (List ℕ)) (p q : Progress) (xs : List Entry) → SoFar old met p.place xs → Took met.left left (fresh p) q (Next None) → IsAtEnd left → Session old (later met left) xs ended.Done
no_more old met left p q xs so_far took end = served old met left p.place xs took.bytes _ so_far took.consumed (nothing took.bytes took.holds.0 took.holds.1 took.holds.2, end)

-- the message that came ends the session
pub shut : (old met : Met) (left : Option (List ℕ)) (p q : Progress) (xs : List Entry) (request : Request) → SoFar old met p.place xs → Took met.left left (fresh p) q (Came request) → request.asked ≡ ask.Shutdown → Session old (later met left) xs ended.Shutdown
shut old met left p q xs request so_far took is =
    let fits : length took.bytes ≤ room_at p.place = omega (arith, took.within) in
    served old met left p.place xs took.bytes IsShutdown so_far took.consumed (took.holds.message, took.holds.spelled, took.holds.asked ∙ is, fits)

-- these bytes stopped to be a message, and the reader told it
stopped : (old met : Met) (left : Option (List ℕ)) (p : Progress) (xs : List Entry) (front : List ℕ) (stop : Stop) (e : WireFault) → SoFar old met p.place xs → p.fault ≡ None → IsInside p e
    → StopsMessage Asks stop front → Tells met.left left p.place (p.place + room_at p.place) front stop e → Session old (later met left) xs (end_of_fault e)
stopped old met left p xs front stop (Truncated at) so_far unspent inside stops t =
    let some : p.place < at = inside unspent in
    served old met left p.place xs front _ so_far t.1
    (((λ none. absurd (omega (arith, some, t.4, ap length none))), subst (λ (s : Stop). StopsMessage Asks s front) t.0 stops, omega (arith, t.3), t.4), t.2)
stopped old met left p xs front stop (BadWire code at) so_far unspent inside stops t =
    served old met left p.place xs front _ so_far t.2 (t.0, subst (λ (s : Stop). StopsMessage Asks s front) t.1 stops, omega (arith, t.3), t.4)
stopped old met left p xs front stop (TooLarge at) so_far unspent inside stops (inl t) =
    served old met left p.place xs front _ so_far t.2 (inl (t.0, subst (λ (s : Stop). StopsMessage Asks s front) t.1 stops, omega (arith, t.3), t.4))
stopped old met left p xs front stop (TooLarge at) so_far unspent inside stops (inr t) =
    served old met left p.place xs (front ++ t.0 ∷ []) _ so_far t.2 (inr (front, t.0, refl, subst (λ (s : Stop). StopsMessage Asks s front) t.1 stops, omega (arith, t.3), omega (arith, t.3, t.4)))
stopped old met left p xs front stop ReadFault so_far unspent inside stops t =
    served old met left p.place xs front _ so_far t.1 (subst (λ (s : Stop). StopsMessage Asks s front) t.0 stops, omega (arith, t.2))
stopped old met left p xs front stop NoMemory so_far unspent inside stops t =
    inl (served old met left p.place xs front IsPart so_far t.1 (inl (stop, stops), omega (arith, t.2)))

-- what came of a message that memory was refused to
part : (bytes : List ℕ) → Begun IsNext (StopsMessage Asks) bytes → ((stop : Stop) × StopsMessage Asks stop bytes) ⊎ ((message : Message) × IsMessage Asks message bytes)
part bytes (inl stops) = inl stops
part bytes (inr (None, is)) = inl (Cut, subst (StopsMessage Asks Cut) (sym is) (inl (inl (inl (refl, omega arith)))))
part bytes (inr (Some m, is)) = inr (m, is)

-- the session ends by a fault of the reader
pub faulted : (old met : Met) (left : Option (List ℕ)) (p q : Progress) (xs : List Entry) (e : WireFault) → SoFar old met p.place xs → p.fault ≡ None → IsInside p e
    → ReadsTree {T = Option Request} met.left left (fresh p) q (Err e) IsNext SaysRequest (StopsMessage Asks) → Session old (later met left) xs (end_of_fault e)
faulted old met left p q xs e so_far unspent inside (inl (inl h)) = stopped old met left p xs h.bytes h.stop e so_far unspent inside h.holds h.tells
faulted old met left p q xs e so_far unspent inside (inl (inr again)) = let is : None ≡ Some e = sym unspent ∙ again.before in absurd cc
faulted old met left p q xs e so_far unspent inside (inr h) =
    let fits : length h.bytes ≤ room_at p.place = omega (arith, h.within) in
    subst (λ (f : WireFault). Session old (later met left) xs (end_of_fault f)) (sym h.memory) (inl (served old met left p.place xs h.bytes IsPart so_far h.consumed (part h.bytes h.holds, fits)))

-- a session that memory was refused to before it began
pub not_begun : (met : Met) → Session met met [] ended.NoMemory
not_begun met = inl (served met met met.left 0 [] [] IsPart (nothing_yet met 0 refl) (Consumes-nil met.left) (inl (Cut, inl (inl (inl (refl, omega arith)))), omega arith))
