-- How one message is carried out at a desk, and how many are, one by one.
use Rattle.std.specs.Prelude.{◌≡◌, ◌≢◌, ◌≤◌, ℕ, ℤ, ◌+◌, ◌⊎◌, List, [], ◌∷◌, ◌++◌, length, map, take, Option, Result, IfOk, MatchResult}
use Rattle.std.specs.List.{AllByRecursion, concat, flat_map}
use Rattle.hms_outside.specs.Causes.{Rose}
use Rattle.hms_outside.specs.Clocks.{Ticks}
use Rattle.hms_outside.specs.Told.{Goes, Grew, Held, Same}
use Rattle.cat_types.specs.declared.calls.Call.{Call}
use Rattle.cat_types.specs.declared.replies.Reply.{Reply}
use Rattle.cat_types.specs.declared.steps.Answer.{Answer}
use Rattle.cat_types.specs.declared.steps.Answer.TheVariants as answer
use Rattle.cat_types.specs.declared.steps.Step.{Step}
use Rattle.cat_types.specs.declared.steps.Step.TheVariants as step
use Rattle.desk.specs.History.{Entry}
use Rattle.desk.specs.Walks.{Wanted}
use Rattle.thrift_binary.specs.declared.head.Head.{Head}
use Rattle.thrift_binary.specs.Codes.{oneway_kind}
use Rattle.thrift_binary.specs.Messages.{Message, Asks, AreMessages}
use Rattle.ms_calls.specs.Refusals.{bad_argument, out_of_memory, store_fault, unknown_method}
use Rattle.ms_calls.specs.declared.request.Asked.{Asked}
use Rattle.ms_calls.specs.declared.request.Asked.TheVariants.{Client, Dump, Trim, Plain, Unknown, BadArgument, Shutdown}
use Rattle.repl_dump.specs.Dumps.{Dumps}
use Rattle.repl_dump.specs.declared.dumping.DumpAnswer.{DumpAnswer}
use Rattle.repl_dump.specs.declared.dumping.DumpAnswer.TheVariants.{FolderFault}
use Rattle.ms_session.specs.DumpReplies.{IsTrimReply, dump_reply}
use Rattle.ms_session.specs.Replies.{reply_bytes, sent_for}
use Rattle.ms_session.specs.Requests.{asks}
use Rattle.ms_session.specs.declared.request.Request.{Request}

-- ---- one message

-- A desk's answer to a call makes this reply: its own, or the refusal that tells a store fault or want of memory. What a desk answers to no call makes none.
abbrev pub IsReplyTo : Answer → Reply → Type 0
IsReplyTo (answer.Reply told) reply = reply ≡ told
IsReplyTo answer.StoreFault reply = reply ≡ store_fault
IsReplyTo answer.NoMemory reply = reply ≡ out_of_memory
IsReplyTo other reply = ⊥

-- an answer is one that a call may get: a reply, a fault of the store, or want of memory
abbrev pub AnswersCall : Answer → Type 0
AnswersCall (answer.Reply told) = Unit {0}
AnswersCall answer.StoreFault = Unit {0}
AnswersCall answer.NoMemory = Unit {0}
AnswersCall other = ⊥

-- the files of a folder, by name
abbrev pub Files : Type 0
Files = List (List ℕ × List ℕ)

-- what is told of a folder: its files, as far as they are known, and how often it has failed
pub record Shelf : Type 0 where
  pub files : Option Files
  pub faults : ℕ

-- a shelf with these files and this count of faults
abbrev pub shelf_of : Option Files → ℕ → Shelf
shelf_of files faults = record { files = files; faults = faults }

-- the desk took no step, the folder stayed, and this reply is due
abbrev pub WithoutSteps : Reply → List Entry → Shelf → Shelf → Reply → Type 0
WithoutSteps told entries before after reply = (entries ≡ []) × (reply ≡ told) × (after ≡ before)

-- a call was one step, its answer makes the reply, and the folder stayed
abbrev pub CalledOnce : Call → List Entry → Shelf → Shelf → Reply → Type 0
CalledOnce call entries before after reply = (e : Entry) × (moment : ℕ) × (entries ≡ e ∷ []) × (e.0.step ≡ step.Client call moment) × IsReplyTo e.1.answer reply × (after ≡ before)

-- a trim was one step, its answer makes the reply, and the folder stayed
abbrev pub TrimmedOnce : ℤ → List Entry → Shelf → Shelf → Reply → Type 0
TrimmedOnce upto entries before after reply = (e : Entry) × (entries ≡ e ∷ []) × (e.0.step ≡ step.Trim upto) × IsTrimReply e.1.answer reply × (after ≡ before)

-- a dump took its steps, left its files, and ended so; the folder's count of faults never fell, and it rose in a dump that the folder failed
pub record DumpedTo (wanted : Wanted) (given : DumpAnswer) (entries : List Entry) (before after : Shelf) : Type 0 where
  pub dumps : Dumps wanted given before.files after.files entries
  pub later : before.faults ≤ after.faults
  pub cause : given ≡ FolderFault → Rose before.faults after.faults

-- a dump was carried out, and how it ended makes the reply
abbrev pub DumpedSo : Wanted → List Entry → Shelf → Shelf → Reply → Type 0
DumpedSo wanted entries before after reply = (given : DumpAnswer) × DumpedTo wanted given entries before after × (reply ≡ dump_reply given)

-- the entries of the caller for what a message asks, the folder before and after it, and the reply that is due: a call and a trim are one step each, and a dump is its walk; nothing else is a step, and no reply is due to the end of the session; only a dump may change the folder
abbrev pub Due : Asked → List Entry → Shelf → Shelf → Reply → Type 0
Due (Client call) entries before after reply = CalledOnce call entries before after reply
Due (Dump db from to limit) entries before after reply = DumpedSo (record { db = db; from = from; to = to; limit = limit }) entries before after reply
Due (Trim upto) entries before after reply = TrimmedOnce upto entries before after reply
Due (Plain told) entries before after reply = WithoutSteps told entries before after reply
Due Unknown entries before after reply = WithoutSteps unknown_method entries before after reply
Due (BadArgument id) entries before after reply = WithoutSteps (bad_argument id) entries before after reply
Due Shutdown entries before after reply = ⊥

-- a message that was carried out, the caller's entries for it, the folder before and after it, and its reply
pub record Turn : Type 0 where
  pub message : Message
  pub entries : List Entry
  pub before : Shelf
  pub after : Shelf
  pub reply : Reply

-- the entries and the folder are those of what the message asks, and the reply is the one that is due, or want of memory in its place
abbrev pub IsTurn : Turn → Type 0
IsTurn turn = (due : Reply) × Due (asks turn.message) turn.entries turn.before turn.after due × ((turn.reply ≡ due) ⊎ (turn.reply ≡ out_of_memory))

-- the bytes of its reply
abbrev pub turn_bytes : Turn → List ℕ
turn_bytes turn = reply_bytes turn.message.head turn.reply

-- the bytes of each reply that was sent: messages that want no reply have none
abbrev pub replies_of : List Turn → List (List ℕ)
replies_of turns = flat_map (λ turn. sent_for turn.message.head turn.reply) turns

-- ---- the clock and the folder

-- the moments of the clock that a step was taken at: a call has one, and no other step
abbrev pub moments_in : Step → List ℕ
moments_in (step.Client call moment) = moment ∷ []
moments_in other = []

-- the moments of entries, in their order
abbrev pub moments_of : List Entry → List ℕ
moments_of entries = flat_map (λ e. moments_in e.0.step) entries

-- the clock was asked for these moments in order, and for no others
abbrev pub Timed : List ℕ → Option (List ℕ) → Option (List ℕ) → Type 0
Timed [] old new = Goes Same old new
Timed (moment ∷ moments) old new = (between : Option (List ℕ)) × Ticks old between moment × Timed moments between new

-- the folder passes from turn to turn: the first begins with it, each later one with what the one before it left, and the last leaves it so
abbrev pub ShelfPasses : List Turn → Shelf → Shelf → Type 0
ShelfPasses [] shelf shelf' = shelf' ≡ shelf
ShelfPasses (turn ∷ turns) shelf shelf' = (turn.before ≡ shelf) × ShelfPasses turns turn.after shelf'

-- what was done for what a message asks, and its reply, where there was memory for that
abbrev pub Did : {E : Type 0} → Asked → Option (List ℕ) → Option (List ℕ) → Shelf → Shelf → Result Reply E → List Entry → Type 0
Did asked clock clock' shelf shelf' result own = (due : Reply) × Due asked own shelf shelf' due × Timed (moments_of own) clock clock' × IfOk result (λ reply. reply ≡ due)

-- ---- replies

-- how many bytes a sink held after each of these replies
abbrev pub ends_of : ℕ → List (List ℕ) → List ℕ
ends_of start [] = []
ends_of start (reply ∷ replies) = (start + length reply) ∷ ends_of (start + length reply) replies

-- these replies were added whole and in order, each with a flush behind it, and nothing else
pub record Replied (replies : List (List ℕ)) (old new : Held) : Type 0 where
  pub bytes_grew : new.bytes ≡ old.bytes ++ concat replies
  pub flushes_grew : new.flushes ≡ old.flushes ++ ends_of (length old.bytes) replies

-- ---- one message and its reply

-- a front of these bytes was added, and nothing was flushed
abbrev pub GrewPart : List ℕ → Held → Held → Type 0
GrewPart bytes old new = (count : ℕ) × Grew (take count bytes) old new

-- the reply was sent whole, where the message wants one
abbrev pub Replies : Head → Reply → Option Held → Option Held → Type 0
Replies head reply held held' = Goes (Replied (sent_for head reply)) held held'

-- the message wants a reply, and a front of it was written
abbrev pub Begins : Head → Reply → Option Held → Option Held → Type 0
Begins head reply held held' = (head.kind ≢ oneway_kind) × Goes (GrewPart (reply_bytes head reply)) held held'

-- a request was carried out with these entries, and this became of its reply
abbrev pub AnswersBy : (Head → Reply → Option Held → Option Held → Type 0) → Request → List Entry → Option (List ℕ) → Option (List ℕ) → Shelf → Shelf → Option Held → Option Held → Type 0
AnswersBy Went request entries clock clock' shelf shelf' held held' =
    (due reply : Reply) × Due request.asked entries shelf shelf' due × ((reply ≡ due) ⊎ (reply ≡ out_of_memory)) × Timed (moments_of entries) clock clock' × Went request.head reply held held'

-- a request was carried out, and its reply was sent whole, or a front of it where the sending was refused
abbrev pub Answers : {T E : Type 0} → Request → List Entry → Option (List ℕ) → Option (List ℕ) → Shelf → Shelf → Option Held → Option Held → Result T E → Type 0
Answers request entries clock clock' shelf shelf' held held' result =
    MatchResult result (λ _. AnswersBy Replies request entries clock clock' shelf shelf' held held') (λ _. AnswersBy Begins request entries clock clock' shelf shelf' held held')

-- ---- many messages

-- messages of these bytes were carried out one by one: the caller's entries are theirs in order, at the moments that the clock answered, and the folder passes from one to the next
pub record Carried (turns : List Turn) (bytes : List ℕ) (clock clock' : Option (List ℕ)) (shelf shelf' : Shelf) (entries : List Entry) : Type 0 where
  pub spelled : AreMessages Asks 0 (map (λ turn. turn.message) turns) bytes
  pub each : AllByRecursion IsTurn turns
  pub own : entries ≡ flat_map (λ turn. turn.entries) turns
  pub moments : Timed (moments_of entries) clock clock'
  pub passed : ShelfPasses turns shelf shelf'

-- the same, and behind them a front of one more reply, without a flush
pub record RepliedPart (replies : List (List ℕ)) (last : List ℕ) (old new : Held) : Type 0 where
  pub between : Held
  pub whole : Replied replies old between
  pub part : GrewPart last between new
