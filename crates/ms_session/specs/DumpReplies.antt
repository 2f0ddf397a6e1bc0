-- The replies to a dump and to a trim.
use Rattle.std.specs.Prelude.{◌≡◌, ℕ, List, ◌++◌, codes}
use Rattle.cat_types.specs.declared.replies.Reply.{Reply}
use Rattle.cat_types.specs.declared.replies.Reply.TheVariants.{Big, Dumped, Refused}
use Rattle.cat_types.specs.declared.steps.Answer.{Answer}
use Rattle.cat_types.specs.declared.steps.Answer.TheVariants as answer
use Rattle.cat_types.specs.declared.steps.DumpRefusal.{DumpRefusal}
use Rattle.cat_types.specs.declared.steps.DumpRefusal.TheVariants.{BadRange, DatabaseGone, IsReplica, MissingEvents, NoSuchDb, UsedUp}
use Rattle.ms_calls.specs.Refusals.{out_of_memory, store_fault}
use Rattle.ms_structs.specs.Notifications.{cut_long}
use Rattle.repl_dump.specs.Refusals.{refusal_text}
use Rattle.repl_dump.specs.declared.dumping.DumpAnswer.{DumpAnswer}
use Rattle.repl_dump.specs.declared.dumping.DumpAnswer.TheVariants as dumped
use Rattle.rulings.specs.Refusals.{refusal_reply}
use Rattle.rulings.specs.declared.refusal.Refusal.TheVariants.{NoSuchObject}

-- a dump is refused, with this text for the cause
abbrev pub dump_refused : List ℕ → Reply
dump_refused cause = Refused 14 (codes "dump refused: " ++ cause)

-- a database that isn't there is refused as any object that isn't there; all else as a refused dump
abbrev pub told_refusal : DumpRefusal → Reply
told_refusal NoSuchDb = refusal_reply NoSuchObject
told_refusal IsReplica = dump_refused (refusal_text IsReplica)
told_refusal BadRange = dump_refused (refusal_text BadRange)
told_refusal (DatabaseGone born) = dump_refused (refusal_text (DatabaseGone born))
told_refusal (MissingEvents first) = dump_refused (refusal_text (MissingEvents first))
told_refusal UsedUp = dump_refused (refusal_text UsedUp)

-- the reply that tells how a dump ended: its directory and its last event, or why there is none
abbrev pub dump_reply : DumpAnswer → Reply
dump_reply (dumped.Done dir last) = Dumped dir last
dump_reply (dumped.Refused refusal) = told_refusal refusal
dump_reply dumped.FolderFault = dump_refused (codes "folder fault")
dump_reply dumped.StoreFault = store_fault
dump_reply dumped.NoMemory = out_of_memory

-- A desk's answer to a trim makes this reply: the number of the first kept event, the greatest i64 in place of a greater one; or the refusal that tells a store fault or want of memory. What a desk answers to no trim makes none.
abbrev pub IsTrimReply : Answer → Reply → Type 0
IsTrimReply (answer.Kept first) reply = reply ≡ Big (cut_long first)
IsTrimReply answer.StoreFault reply = reply ≡ store_fault
IsTrimReply answer.NoMemory reply = reply ≡ out_of_memory
IsTrimReply other reply = ⊥

-- an answer is one that a trim may get: the first kept event, a fault of the store, or want of memory
abbrev pub AnswersTrim : Answer → Type 0
AnswersTrim (answer.Kept first) = Unit {0}
AnswersTrim answer.StoreFault = Unit {0}
AnswersTrim answer.NoMemory = Unit {0}
AnswersTrim other = ⊥
