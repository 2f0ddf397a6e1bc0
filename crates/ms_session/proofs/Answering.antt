-- One message is carried out, and its reply sent.
use Rattle.std.proofs.Common.{◌≡◌, ◌==◌, true, false, ℕ, ◌⊎◌, List, [], ◌∷◌, ◌++◌, take, IsTrue, Bool, Option, Some, None, Result, Ok, Err, IfOk, MatchResult, OnErr, OnOk, refl, sym, subst, inl, inr}
use Rattle.std.proofs.lemmas.List.{append-nil}
use Rattle.hms_outside.specs.Clocks.{Ticks}
use Rattle.hms_outside.specs.Told.{Goes, Grew, Held, Same, Sent}
use Rattle.cat_types.specs.declared.calls.Call.{Call}
use Rattle.cat_types.specs.declared.replies.Reply.{Reply}
use Rattle.cat_types.specs.declared.steps.Step.TheVariants as step
use Rattle.desk.specs.Adds.{Adds}
use Rattle.desk.specs.Entries.{Others}
use Rattle.desk.specs.History.{Entry}
use Rattle.desk.proofs.Additions.{adds_none, adds_one}
use Rattle.ms_calls.specs.Refusals.{out_of_memory}
use Rattle.ms_calls.specs.declared.request.Asked.{Asked}
use Rattle.ms_calls.specs.declared.request.Asked.TheVariants.{Client}
use Rattle.ms_session.specs.Replies.{reply_bytes}
use Rattle.ms_session.specs.Turns.{Answers, AnswersCall, AnswersBy, Begins, Did, Due, GrewPart, Replies, IsReplyTo, Shelf, Timed, moments_of}
use Rattle.ms_session.specs.declared.request.Request.{Request}
use Rattle.ms_session.proofs.Results.{is_reply, only_replies, reply_in}
use Rattle.ms_session.proofs.Turns.{is_wanted, no_reply, reply_sent}

same_clock : (a : Option (List ℕ)) → Goes Same a a
same_clock None = tt
same_clock (Some x) = refl

-- a call took its one step at the clock's next moment
pub called : {E : Type 0} (alone : Bool) (me : ℕ) (old new between : List Entry) (e : Entry) (call : Call) (moment : ℕ) (clock clock' : Option (List ℕ)) (shelf : Shelf) (result : Result Reply E)
    → e.0.caller ≡ me → e.0.step ≡ step.Client call moment → Others me between → new ≡ (old ++ between) ++ e ∷ [] → (IsTrue alone → new ≡ old ++ e ∷ [])
    → Ticks clock clock' moment → AnswersCall e.1.answer → IfOk result (IsReplyTo e.1.answer) → Adds alone me old new (Did (Client call) clock clock' shelf shelf result)
called alone me old new between e call moment clock clock' shelf result mine is others grew sole ticks call_answer replied =
    adds_one alone me old new between e (Did (Client call) clock clock' shelf shelf result) mine others grew sole
    (reply_in e.1.answer, (e, moment, refl, is, is_reply e.1.answer call_answer, refl), rw is (clock', ticks, same_clock clock'), only_replies e.1.answer result replied)

-- nothing else is a step
pub not_called : {E : Type 0} (alone : Bool) (me : ℕ) (es : List Entry) (clock : Option (List ℕ)) (shelf : Shelf) (asked : Asked) (due : Reply) (result : Result Reply E) → Due asked [] shelf shelf due → IfOk result (λ reply. reply ≡ due)
    → Adds alone me es es (Did asked clock clock shelf shelf result)
not_called alone me es clock shelf asked due result is replied = adds_none alone me es (Did asked clock clock shelf shelf result) (due, is, same_clock clock, replied)

-- nothing of a reply was written
unwritten : (bytes : List ℕ) (h : Option Held) → Goes (GrewPart bytes) h h
unwritten bytes None = tt
unwritten bytes (Some x) = (0, record { bytes_grew = sym (append-nil x.bytes); flushes_stay = refl })

-- a front of a reply was written
part_written : (n : ℕ) (bytes : List ℕ) (h h' : Option Held) → Goes (Grew (take n bytes)) h h' → Goes (GrewPart bytes) h h'
part_written n bytes None h' grew = tt
part_written n bytes (Some x) None grew = absurd grew
part_written n bytes (Some x) (Some y) grew = (n, grew)

-- a reply was sent, as far as the sink took it
sent : {T E : Type 0} (r : Request) (own : List Entry) (c c' : Option (List ℕ)) (f f' : Shelf) (h h' : Option Held) (due reply : Reply) (bytes : List ℕ) (result : Result T E) → (r.head.kind == 4) ≡ false
    → Due r.asked own f f' due → (reply ≡ due) ⊎ (reply ≡ out_of_memory) → Timed (moments_of own) c c' → bytes ≡ reply_bytes r.head reply
    → OnOk result (Goes (Sent bytes) h h') → OnErr result ((n : ℕ) × Goes (Grew (take n bytes)) h h') → Answers r own c c' f f' h h' result
sent r own c c' f f' h h' due reply bytes (Ok x) wanted is which timed same ok err =
    (due, reply, is, which, timed, reply_sent r.head reply h h' wanted (subst (λ (b : List ℕ). Goes (Sent b) h h') same ok))
sent r own c c' f f' h h' due reply bytes (Err e) wanted is which timed same ok err =
    (due, reply, is, which, timed, (is_wanted r.head.kind wanted, subst (λ (b : List ℕ). Goes (GrewPart b) h h') same (part_written err.0 bytes h h' err.1)))

-- the reply that was gathered was sent
pub answered : {T E F : Type 0} (r : Request) (own : List Entry) (c c' : Option (List ℕ)) (f f' : Shelf) (h h' : Option Held) (done : Result Reply F) (bytes : List ℕ) (result : Result T E) → (r.head.kind == 4) ≡ false
    → Did r.asked c c' f f' done own → MatchResult done (λ reply. (bytes ≡ reply_bytes r.head reply) ⊎ (bytes ≡ reply_bytes r.head out_of_memory)) (λ _. bytes ≡ reply_bytes r.head out_of_memory)
    → OnOk result (Goes (Sent bytes) h h') → OnErr result ((n : ℕ) × Goes (Grew (take n bytes)) h h') → Answers r own c c' f f' h h' result
answered r own c c' f f' h h' (Ok reply) bytes result wanted did (inl same) ok err = sent r own c c' f f' h h' did.0 reply bytes result wanted did.1 (inl did.3) did.2 same ok err
answered r own c c' f f' h h' (Ok reply) bytes result wanted did (inr same) ok err = sent r own c c' f f' h h' did.0 out_of_memory bytes result wanted did.1 (inr refl) did.2 same ok err
answered r own c c' f f' h h' (Err e) bytes result wanted did same ok err = sent r own c c' f f' h h' did.0 out_of_memory bytes result wanted did.1 (inr refl) did.2 same ok err

-- no reply was gathered
pub unanswered : {F : Type 0} (r : Request) (own : List Entry) (c c' : Option (List ℕ)) (f f' : Shelf) (h : Option Held) (done : Result Reply F) → (r.head.kind == 4) ≡ false → Did r.asked c c' f f' done own → AnswersBy Begins r own c c' f f' h h
unanswered r own c c' f f' h done wanted did = (did.0, out_of_memory, did.1, inr refl, did.2, (is_wanted r.head.kind wanted, unwritten _ h))

-- no reply is wanted
pub unasked : {F : Type 0} (r : Request) (own : List Entry) (c c' : Option (List ℕ)) (f f' : Shelf) (h : Option Held) (done : Result Reply F) → (r.head.kind == 4) ≡ true → Did r.asked c c' f f' done own → AnswersBy Replies r own c c' f f' h h
unasked r own c c' f f' h done one_way did = (did.0, did.0, did.1, inl refl, did.2, no_reply r.head did.0 h one_way)
