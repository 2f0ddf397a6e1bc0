-- What a dump and a trim do at a desk, and what they are answered.
use Rattle.std.proofs.Common.{◌≡◌, ◌≤◌, ℕ, ℤ, Bool, List, [], ◌∷◌, ◌++◌, Option, Some, None, IsTrue, Result, Ok, Err, IfOk, refl, sym, ap, ◌∙◌, subst, inl, inr}
use Rattle.std.specs.List.{AllByRecursion}
use Rattle.std.specs.Prelude.{⊤}
use Rattle.hms_outside.specs.Causes.{Rose}
use Rattle.hms_outside.specs.Told.{Goes as Leads, Same}
use Rattle.cat_types.specs.declared.replies.Reply.{Reply}
use Rattle.cat_types.specs.declared.replies.Reply.TheVariants.{Big}
use Rattle.cat_types.specs.declared.steps.Answer.{Answer}
use Rattle.cat_types.specs.declared.steps.Answer.TheVariants as answer
use Rattle.cat_types.specs.declared.steps.DumpRefusal.{DumpRefusal}
use Rattle.cat_types.specs.declared.steps.DumpRefusal.TheVariants.{BadRange, DatabaseGone, IsReplica, MissingEvents, NoSuchDb, UsedUp}
use Rattle.cat_types.specs.declared.steps.Step.{Step}
use Rattle.cat_types.specs.declared.steps.Step.TheVariants.{Client, DumpBegin, DumpEnd, DumpEvents, DumpParts, DumpSeal, DumpTable, Trim}
use Rattle.desk.specs.Adds.{Adds}
use Rattle.desk.specs.Entries.{Others}
use Rattle.desk.specs.History.{Entry, Legal, Start, point_of}
use Rattle.desk.specs.State.{MayAnswer, State}
use Rattle.desk.specs.Walks.{DumpRun, Goes, MayFail, Place, Walked, Wanted, begin_step, broken, done, end, events, parts, place_begun, seal, step_at, tables, unbegun, whole}
use Rattle.desk.proofs.Additions.{adds_one, adds_weaker}
use Rattle.ms_calls.specs.Replies.{CanReply}
use Rattle.ms_calls.specs.Refusals.{out_of_memory, store_fault}
use Rattle.ms_calls.specs.declared.method.Method.TheVariants as method
use Rattle.ms_calls.specs.declared.request.Asked.TheVariants as ask
use Rattle.ms_structs.specs.Notifications.{cut_long}
use Rattle.repl_dump.specs.Dumps.{Dumps}
use Rattle.repl_dump.specs.declared.dumping.DumpAnswer.{DumpAnswer}
use Rattle.repl_dump.specs.declared.dumping.DumpAnswer.TheVariants as dumped
use Rattle.ms_session.specs.DumpReplies.{AnswersTrim, IsTrimReply, dump_reply, told_refusal}
use Rattle.ms_session.specs.Turns.{Did, Files, Shelf, Timed, moments_in, moments_of, shelf_of}
use Rattle.ms_session.proofs.Results.{last_may}

-- ---- steps that are no calls

abbrev pub IsNoCall : Step → Type 0
IsNoCall (Client call moment) = ⊥
IsNoCall (DumpBegin db from to limit) = ⊤
IsNoCall (DumpTable dump after) = ⊤
IsNoCall (DumpParts dump table born after) = ⊤
IsNoCall (DumpSeal dump) = ⊤
IsNoCall (DumpEvents dump after) = ⊤
IsNoCall (DumpEnd dump) = ⊤
IsNoCall (Trim upto) = ⊤

-- no entry of these is a call's
abbrev pub NoCalls : List Entry → Type 0
NoCalls entries = AllByRecursion (λ (e : Entry). IsNoCall e.0.step) entries

none_both : (xs ys : List Entry) → NoCalls xs → NoCalls ys → NoCalls (xs ++ ys)
none_both [] ys one two = two
none_both (x ∷ xs) ys one two = (one.0, none_both xs ys one.1 two)

pub same_step : (a b : Step) → Some a ≡ Some b → a ≡ b
same_step a b is = cc

at_place : (dump : ℕ) (place : Place) (s : Step) → step_at dump place ≡ Some s → IsNoCall s
at_place dump (tables after) s is = subst IsNoCall (same_step (DumpTable dump after) s is) tt
at_place dump (parts table born after) s is = subst IsNoCall (same_step (DumpParts dump table born after) s is) tt
at_place dump seal s is = subst IsNoCall (same_step (DumpSeal dump) s is) tt
at_place dump (events after) s is = subst IsNoCall (same_step (DumpEvents dump after) s is) tt
at_place dump end s is = subst IsNoCall (same_step (DumpEnd dump) s is) tt
at_place dump done s is = absurd cc

on_way : (dump begin : ℕ) (from : Place) (entries : List Entry) (to : Place) → Goes dump begin from entries to → NoCalls entries
on_way dump begin from [] to goes = tt
on_way dump begin from (e ∷ es) to goes = (at_place dump from e.0.step goes.0, on_way dump begin goes.1.0 es to goes.1.1.1)

at_begin : (wanted : Wanted) (e : Entry) → e.0.step ≡ begin_step wanted → IsNoCall e.0.step
at_begin wanted e is = subst IsNoCall (sym is) tt

in_walk : (wanted : Wanted) (began : _) (entries : List Entry) (to : Place) → Walked wanted began entries to → NoCalls entries
in_walk wanted began entries to w = subst NoCalls (sym w.is) (at_begin wanted w.beginning w.step, on_way began.dump began.begin (place_begun began.begin began.first) w.others to w.goes)

at_failure : (dump : ℕ) (place : Place) (failed : List Entry) → MayFail dump place failed → NoCalls failed
at_failure dump place [] may = tt
at_failure dump place (e ∷ []) may = (at_place dump place e.0.step may.0, tt)
at_failure dump place (e ∷ (other ∷ more)) may = absurd may

pub in_run : (wanted : Wanted) (entries : List Entry) → DumpRun wanted entries → NoCalls entries
in_run wanted entries (unbegun u) = subst NoCalls (sym u.is) (at_begin wanted u.beginning u.step, tt)
in_run wanted entries (whole began w) = in_walk wanted began entries done w
in_run wanted entries (broken began b) =
    let ends : IsNoCall b.ending.0.step = subst IsNoCall (sym b.ends.0) tt in
    subst NoCalls (sym b.is) (none_both b.walked (b.failed ++ b.ending ∷ []) (in_walk wanted began b.walked b.place b.goes) (none_both b.failed (b.ending ∷ []) (at_failure began.dump b.place b.failed b.fails) (ends, tt)))

-- no entry of a dump is a call's
pub in_dump : (wanted : Wanted) (given : DumpAnswer) (old new : Option Files) (own : List Entry) → Dumps wanted given old new own → NoCalls own
in_dump wanted (dumped.Done dir last) old new own d = in_walk wanted d.began own done d.walk
in_dump wanted (dumped.Refused refusal) old new own d = in_run wanted own d.0.run
in_dump wanted dumped.FolderFault old new own d = in_run wanted own d.run
in_dump wanted dumped.StoreFault old new own d = in_run wanted own d.0.run
in_dump wanted dumped.NoMemory old new own (inl none) = subst NoCalls (sym none.0) tt
in_dump wanted dumped.NoMemory old new own (inr d) = in_run wanted own d.run

-- ---- no moment of the clock is taken

no_moment : (s : Step) → IsNoCall s → moments_in s ≡ []
no_moment (Client call moment) free = absurd free
no_moment (DumpBegin db from to limit) free = refl
no_moment (DumpTable dump after) free = refl
no_moment (DumpParts dump table born after) free = refl
no_moment (DumpSeal dump) free = refl
no_moment (DumpEvents dump after) free = refl
no_moment (DumpEnd dump) free = refl
no_moment (Trim upto) free = refl

no_moments : (entries : List Entry) → NoCalls entries → moments_of entries ≡ []
no_moments [] none = refl
no_moments (e ∷ es) none = ap (λ (ms : List ℕ). ms ++ moments_of es) (no_moment e.0.step none.0) ∙ no_moments es none.1

same_clock : (a : Option (List ℕ)) → Leads Same a a
same_clock None = tt
same_clock (Some x) = refl

untimed : (entries : List Entry) (clock : Option (List ℕ)) → NoCalls entries → Timed (moments_of entries) clock clock
untimed entries clock none = subst (λ (ms : List ℕ). Timed ms clock clock) (sym (no_moments entries none)) (same_clock clock)

-- ---- a dump

-- a dump was carried out, and how it ended makes the reply
pub dumps_so : {E : Type 0} (alone : Bool) (me : ℕ) (old new : List Entry) (db : List ℕ) (from to limit : Option ℤ) (given : DumpAnswer) (clock : Option (List ℕ)) (files files' : Option Files) (faults faults' : ℕ) (result : Result Reply E)
    → Adds alone me old new (Dumps (record { db = db; from = from; to = to; limit = limit }) given files files') → faults ≤ faults' → (given ≡ dumped.FolderFault → Rose faults faults') → IfOk result (λ reply. reply ≡ dump_reply given)
    → Adds alone me old new (Did (ask.Dump db from to limit) clock clock (shelf_of files faults) (shelf_of files' faults') result)
dumps_so alone me old new db from to limit given clock files files' faults faults' result added later cause told =
    let wanted : Wanted = record { db = db; from = from; to = to; limit = limit } in
    adds_weaker alone me old new (Dumps wanted given files files') (Did (ask.Dump db from to limit) clock clock (shelf_of files faults) (shelf_of files' faults') result)
    (λ own d. (dump_reply given, (given, record { dumps = d; later = later; cause = cause }, refl), untimed own clock (in_dump wanted given files files' own d), told)) added

can_tell : (refusal : DumpRefusal) → CanReply (Some method.ReplDump) (told_refusal refusal)
can_tell NoSuchDb = refl
can_tell IsReplica = refl
can_tell BadRange = refl
can_tell (DatabaseGone born) = refl
can_tell (MissingEvents first) = refl
can_tell UsedUp = refl

can_dump : (given : DumpAnswer) → CanReply (Some method.ReplDump) (dump_reply given)
can_dump (dumped.Done dir last) = refl
can_dump (dumped.Refused refusal) = can_tell refusal
can_dump dumped.FolderFault = refl
can_dump dumped.StoreFault = refl
can_dump dumped.NoMemory = refl

-- its method can have the reply to a dump
pub can_reply_dump : {E : Type 0} (given : DumpAnswer) (result : Result Reply E) → IfOk result (λ reply. reply ≡ dump_reply given) → IfOk result (CanReply (Some method.ReplDump))
can_reply_dump given (Ok reply) told = subst (CanReply (Some method.ReplDump)) (sym told) (can_dump given)
can_reply_dump given (Err e) told = tt

-- ---- a trim

-- the one reply that an answer to a trim makes
abbrev trim_reply : Answer → Reply
trim_reply (answer.Kept first) = Big (cut_long first)
trim_reply answer.StoreFault = store_fault
trim_reply answer.NoMemory = out_of_memory
trim_reply other = out_of_memory

is_trim_reply : (a : Answer) → AnswersTrim a → IsTrimReply a (trim_reply a)
is_trim_reply (answer.Kept first) trim = refl
is_trim_reply answer.StoreFault trim = refl
is_trim_reply answer.NoMemory trim = refl
is_trim_reply (answer.Reply told) trim = absurd trim
is_trim_reply (answer.Began dump source born begin last first) trim = absurd trim
is_trim_reply (answer.Table item) trim = absurd trim
is_trim_reply answer.NoTable trim = absurd trim
is_trim_reply (answer.Parts items more) trim = absurd trim
is_trim_reply (answer.Sealed number) trim = absurd trim
is_trim_reply (answer.Events found more) trim = absurd trim
is_trim_reply answer.Ended trim = absurd trim
is_trim_reply (answer.DumpRefused refusal) trim = absurd trim
is_trim_reply answer.NotOpen trim = absurd trim

only_trim_reply : (a : Answer) (reply : Reply) → IsTrimReply a reply → (reply ≡ trim_reply a) × CanReply (Some method.TrimEvents) reply
only_trim_reply (answer.Kept first) reply is = (is, subst (CanReply (Some method.TrimEvents)) (sym is) refl)
only_trim_reply answer.StoreFault reply is = (is, subst (CanReply (Some method.TrimEvents)) (sym is) refl)
only_trim_reply answer.NoMemory reply is = (is, subst (CanReply (Some method.TrimEvents)) (sym is) refl)
only_trim_reply (answer.Reply told) reply is = absurd is
only_trim_reply (answer.Began dump source born begin last first) reply is = absurd is
only_trim_reply (answer.Table item) reply is = absurd is
only_trim_reply answer.NoTable reply is = absurd is
only_trim_reply (answer.Parts items more) reply is = absurd is
only_trim_reply (answer.Sealed number) reply is = absurd is
only_trim_reply (answer.Events found more) reply is = absurd is
only_trim_reply answer.Ended reply is = absurd is
only_trim_reply (answer.DumpRefused refusal) reply is = absurd is
only_trim_reply answer.NotOpen reply is = absurd is

only_trim_replies : {E : Type 0} (a : Answer) (result : Result Reply E) → IfOk result (IsTrimReply a) → IfOk result (λ reply. reply ≡ trim_reply a)
only_trim_replies a (Ok reply) is = (only_trim_reply a reply is).0
only_trim_replies a (Err e) is = tt

-- its method can have the reply to a trim
pub can_reply_trim : {E : Type 0} (a : Answer) (result : Result Reply E) → IfOk result (IsTrimReply a) → IfOk result (CanReply (Some method.TrimEvents))
can_reply_trim a (Ok reply) is = (only_trim_reply a reply is).1
can_reply_trim a (Err e) is = tt

answers_trim : (s : State) (before caller after : ℕ) (upto : ℤ) (a : Answer) → MayAnswer s before caller (Trim upto) a after → AnswersTrim a
answers_trim s before caller after upto (answer.Kept first) may = tt
answers_trim s before caller after upto answer.StoreFault may = tt
answers_trim s before caller after upto answer.NoMemory may = tt
answers_trim s before caller after upto (answer.Reply told) may = absurd cc
answers_trim s before caller after upto (answer.Began dump source born begin last first) may = absurd cc
answers_trim s before caller after upto (answer.Table item) may = absurd cc
answers_trim s before caller after upto answer.NoTable may = absurd cc
answers_trim s before caller after upto (answer.Parts items more) may = absurd cc
answers_trim s before caller after upto (answer.Sealed number) may = absurd cc
answers_trim s before caller after upto (answer.Events found more) may = absurd cc
answers_trim s before caller after upto answer.Ended may = absurd cc
answers_trim s before caller after upto (answer.DumpRefused refusal) may = absurd cc
answers_trim s before caller after upto answer.NotOpen may = absurd cc

-- what a desk answered to a trim is an answer to one
pub trim_answered : (s : Start) (old between new : List Entry) (e : Entry) (upto : ℤ) → e.0.step ≡ Trim upto → new ≡ (old ++ between) ++ e ∷ [] → Legal s new → AnswersTrim e.1.answer
trim_answered s old between new e upto is grew legal =
    let last = last_may (point_of s) (old ++ between) e (subst (λ (es : List Entry). Legal s es) grew legal) in
    answers_trim last.0.state last.0.fault e.0.caller e.1.fault upto e.1.answer (subst (λ (t : Step). MayAnswer last.0.state last.0.fault e.0.caller t e.1.answer e.1.fault) is last.1.1)

-- a trim took its one step
pub trimmed : {E : Type 0} (alone : Bool) (me : ℕ) (old new between : List Entry) (e : Entry) (upto : ℤ) (clock : Option (List ℕ)) (shelf : Shelf) (result : Result Reply E)
    → e.0.caller ≡ me → e.0.step ≡ Trim upto → Others me between → new ≡ (old ++ between) ++ e ∷ [] → (IsTrue alone → new ≡ old ++ e ∷ [])
    → AnswersTrim e.1.answer → IfOk result (IsTrimReply e.1.answer) → Adds alone me old new (Did (ask.Trim upto) clock clock shelf shelf result)
trimmed alone me old new between e upto clock shelf result mine is others grew sole trim replied =
    adds_one alone me old new between e (Did (ask.Trim upto) clock clock shelf shelf result) mine others grew sole
    (trim_reply e.1.answer, (e, refl, is, is_trim_reply e.1.answer trim, refl), untimed (e ∷ []) clock (subst IsNoCall (sym is) tt, tt), only_trim_replies e.1.answer result replied)

-- the same of the same number
pub trim_again : {E : Type 0} (alone : Bool) (me : ℕ) (old new : List Entry) (a b : ℤ) (clock : Option (List ℕ)) (shelf : Shelf) (result : Result Reply E) → a ≡ b → Adds alone me old new (Did (ask.Trim a) clock clock shelf shelf result)
    → Adds alone me old new (Did (ask.Trim b) clock clock shelf shelf result)
trim_again alone me old new a b clock shelf result is h = subst (λ (z : ℤ). Adds alone me old new (Did (ask.Trim z) clock clock shelf shelf result)) is h
