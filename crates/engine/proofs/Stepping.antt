-- What a call did.
use Rattle.std.proofs.Common.{◌≡◌, ℕ, ◌+◌, ◌==◌, ◌||◌, Bool, true, List, [], ◌∷◌, Option, None, Some, refl, sym, ◌∙◌, ap, subst, eq-eqb}
use Rattle.std.specs.Prelude.{cond, is_some}
use Rattle.cat_types.specs.declared.calls.Call.{Call}
use Rattle.cat_types.specs.declared.changes.Change.{Change}
use Rattle.cat_types.specs.declared.changes.Op.{Op}
use Rattle.cat_types.specs.declared.replies.Reply.{Reply}
use Rattle.cat_types.specs.declared.steps.Answer.TheVariants as answer
use Rattle.cat_types.specs.declared.steps.Step.TheVariants.{Client}
use Rattle.cat_objects.specs.Catalogue.{Catalogue}
use Rattle.cat_objects.specs.Changes.{are_puts, are_some, has_operation, is_any, is_one, takes_call, takes_change}
use Rattle.rulings.specs.Decisions.{Decides, Decision, accepted, refused, told}
use Rattle.catalogue.specs.Polls.{poll_of}
use Rattle.catalogue.specs.Rules.{decision}
use Rattle.rulings.specs.declared.bars.Bars.{Bars}
use Rattle.rulings.specs.declared.decided.Decided.{Decided}
use Rattle.rulings.specs.declared.decided.Decided.TheVariants as decided
use Rattle.catalogue.specs.declared.poll.Poll.{Poll}
use Rattle.desk.specs.Polls.{poll_reply}
use Rattle.desk.specs.State.{State, Written, bars_of, decision_of, due, kept, next_event, reply_by, reply_in, with_dumps, with_written, writing, written_by, written_change}
use Rattle.desk.proofs.Polled.{write_nothing}
use Rattle.engine.proofs.Steps.{failed_by, nothing, same_dumps, stepped_failed, stepped_quiet, stepped_written, unit, well}
use Rattle.engine.proofs.Tests.{all_of, first_of, last_of}
use Rattle.engine.specs.Inside.{IsSure, Logged, Seen, Stepped, refused_by}
use Rattle.engine.specs.Opening.{takes}
use Rattle.ms_journal.specs.declared.fault.StoreFault.{StoreFault}

-- ---- what a decision writes and replies

no_change : (d : Decision) (s : State) (moment : ℕ) (reply : Reply) → decided.Reply reply ≡ told d → (written_by d s moment ≡ None) × (reply ≡ reply_by d)
no_change (refused refusal) s moment reply is = (refl, cc)
no_change (accepted None result) s moment reply is = (refl, cc)
no_change (accepted (Some change) result) s moment reply is = absurd cc

-- operations that a call makes are some
calls_operate : (ops : List Op) → (is_one is_any ops || are_puts ops) ≡ true → are_some ops ≡ true
calls_operate [] is = absurd cc
calls_operate (op ∷ ops) is = refl

-- a change that is taken has an operation
operates : (cat : Catalogue) (id : ℕ) (change : Change) → takes_call cat id change ≡ true → has_operation change ≡ true
operates cat id change is = calls_operate change.ops (last_of (takes_change cat id change) _ is)

-- and its event is taken
event_taken : (s : State) (moment : ℕ) (change : Change) → takes_call s.catalogue (s.newest + 1) change ≡ true → takes s (kept (next_event s moment change)) ≡ true
event_taken s moment change is =
    all_of (s.newest + 1 == s.newest + 1) _ (eq-eqb (s.newest + 1) (s.newest + 1) refl) (first_of (takes_change s.catalogue (s.newest + 1) change) _ is)

a_change : (d : Decision) (s : State) (moment : ℕ) (change : Change) (reply : Reply) → decided.Change change reply ≡ told d → has_operation change ≡ true → (written_by d s moment ≡ Some (kept (next_event s moment change))) × (reply ≡ reply_by d)
a_change (refused refusal) s moment change reply is some = absurd cc
a_change (accepted None result) s moment change reply is some = absurd cc
a_change (accepted (Some other) result) s moment change reply is some =
    let same : change ≡ other = cc in
    (ap (λ (c : Change). written_change s moment (Some c)) (sym same) ∙ ap (λ (b : Bool). cond b (Some (kept (next_event s moment change))) None) some, cc)

-- ---- the answer

due_reply : (s : State) (caller : ℕ) (call : Call) (moment : ℕ) (reply : Reply) → poll_of call ≡ None → reply ≡ reply_by (decision_of s call moment) → answer.Reply reply ≡ (due s caller (Client call moment)).answer
due_reply s caller call moment reply none is =
    ap (λ (r : Reply). answer.Reply r) (is ∙ ap (λ (o : Option Poll). reply_in s o (decision_of s call moment)) (sym none))

-- a call that changes nothing
pub stepped_reply : (s : State) (caller : ℕ) (call : Call) (moment : ℕ) (reply : Reply) (v : Seen) → poll_of call ≡ None → IsSure v → decided.Reply reply ≡ told (decision_of s call moment) → Stepped s caller (Client call moment) (answer.Reply reply) s v v
stepped_reply s caller call moment reply v none sure is =
    let w = no_change (decision_of s call moment) s moment reply is in
    stepped_quiet s s caller (Client call moment) (answer.Reply reply) v refl (due_reply s caller call moment reply none w.1) w.0 (ap (λ (o : Option Written). with_dumps s.dumps (with_written o s)) (sym w.0)) sure

-- a decision over what is equal
pub decides_so : (s : State) (cat : Catalogue) (bars : Bars) (newest : ℕ) (call : Call) (moment : ℕ) (d : Decided) → cat ≡ s.catalogue → bars ≡ bars_of s → newest ≡ s.newest → Decides (decision cat bars call moment (newest + 1)) d
    → Decides (decision_of s call moment) d
decides_so s cat bars newest call moment d same barred numbered is =
    subst (λ (n : ℕ). Decides (decision s.catalogue (bars_of s) call moment (n + 1)) d) numbered
    (subst (λ (b : Bars). Decides (decision s.catalogue b call moment (newest + 1)) d) barred
    (subst (λ (c : Catalogue). Decides (decision c bars call moment (newest + 1)) d) same is))

-- a poll, which writes nothing
pub stepped_poll : (s : State) (caller : ℕ) (call : Call) (moment : ℕ) (poll : Poll) (reply : Reply) (v : Seen) → poll_of call ≡ Some poll → IsSure v → reply ≡ poll_reply s.events s.newest poll → Stepped s caller (Client call moment) (answer.Reply reply) s v v
stepped_poll s caller call moment poll reply v is sure told =
    let none : writing s (Client call moment) ≡ None = nothing (writing s (Client call moment)) (write_nothing s call moment (ap (λ (o : Option Poll). is_some o) is)) in
    stepped_quiet s s caller (Client call moment) (answer.Reply reply) v refl
    (ap (λ (r : Reply). answer.Reply r) (told ∙ ap (λ (o : Option Poll). reply_in s o (decision_of s call moment)) (sym is)))
    none (ap (λ (o : Option Written). with_dumps s.dumps (with_written o s)) (sym none)) sure

-- a change whose event was written
pub stepped_change : (s t : State) (caller : ℕ) (call : Call) (moment : ℕ) (change : Change) (reply : Reply) (v u : Seen) → poll_of call ≡ None → decided.Change change reply ≡ told (decision_of s call moment) → takes_call s.catalogue (s.newest + 1) change ≡ true
    → t ≡ with_written (Some (kept (next_event s moment change))) s → Logged (kept (next_event s moment change)) (well unit) v u
    → Stepped s caller (Client call moment) (answer.Reply reply) t v u
stepped_change s t caller call moment change reply v u none is takes_it done log =
    let w = a_change (decision_of s call moment) s moment change reply is (operates s.catalogue (s.newest + 1) change takes_it) in
    stepped_written s t caller (Client call moment) (answer.Reply reply) (kept (next_event s moment change)) unit v u refl (due_reply s caller call moment reply none w.1) w.0 (event_taken s moment change takes_it)
    (done ∙ ap (λ (o : Option Written). with_written o s) (sym w.0) ∙ sym (same_dumps s (writing s (Client call moment)))) log

-- one whose event wasn't written
pub stepped_fault : (s t : State) (caller : ℕ) (call : Call) (moment : ℕ) (change : Change) (reply : Reply) (f : StoreFault) (v u : Seen) → decided.Change change reply ≡ told (decision_of s call moment) → takes_call s.catalogue (s.newest + 1) change ≡ true
    → t ≡ s → Logged (kept (next_event s moment change)) (failed_by (Unit {0}) f) v u
    → Stepped s caller (Client call moment) (refused_by f) t v u
stepped_fault s t caller call moment change reply f v u is takes_it stays log =
    let w = a_change (decision_of s call moment) s moment change reply is (operates s.catalogue (s.newest + 1) change takes_it) in
    stepped_failed (Unit {0}) s t caller (Client call moment) (kept (next_event s moment change)) f v u refl w.0 (event_taken s moment change takes_it) stays log
