-- What follows from the session relation for dumps.
use Rattle.std.specs.Prelude.{◌≡◌, ◌≢◌, ◌≤◌, ◌==◌, ◌&&◌, ⊤, ℕ, ◌+◌, ◌-◌, ◌^◌, min, Bool, true, false, List, [], ◌∷◌, length, codes, Option, None, Some}
use Rattle.std.specs.List.{AllByRecursion, filter}
use Rattle.std.specs.Str.{bytes_eq}
use Rattle.cat_types.specs.declared.replies.Reply.{Reply}
use Rattle.cat_types.specs.declared.replies.Reply.TheVariants.{Refused}
use Rattle.cat_types.specs.declared.steps.Answer.{Answer}
use Rattle.cat_types.specs.declared.steps.Answer.TheVariants as answer
use Rattle.cat_types.specs.declared.steps.Step.{Step}
use Rattle.cat_types.specs.declared.steps.Step.TheVariants.{Client, DumpBegin, DumpEnd, DumpEvents, DumpParts, DumpSeal, DumpTable, Trim}
use Rattle.desk.specs.History.{Entry}
use Rattle.ms_calls.specs.declared.request.Asked.{Asked}
use Rattle.ms_calls.specs.declared.request.Asked.TheVariants as ask
use Rattle.ms_session.specs.Requests.{asks}
use Rattle.ms_session.specs.Session.{Met, Session}
use Rattle.ms_session.specs.Turns.{Carried, Shelf, Turn}
use Rattle.ms_session.specs.declared.end.End.{End}

-- ---- a session's dumps are open

-- the number of the dump that a step needs to be open; the other steps need none
abbrev pub needs : Step → Option ℕ
needs (Client call moment) = None
needs (DumpBegin db from to limit) = None
needs (DumpTable dump after) = Some dump
needs (DumpParts dump table born after) = Some dump
needs (DumpSeal dump) = Some dump
needs (DumpEvents dump after) = Some dump
needs (DumpEnd dump) = Some dump
needs (Trim upto) = None

-- the dump that a caller has opened after the answer to a step that begins one
abbrev pub begun_by : Option ℕ → Answer → Option ℕ
begun_by opened (answer.Began dump source born begin end first) = Some dump
begun_by opened other = opened

-- the dump that a caller has opened after the answer to a step that ends it
abbrev pub ended_by : Option ℕ → Answer → Option ℕ
ended_by opened answer.Ended = None
ended_by opened other = opened

-- the dump that a caller has opened after a step with this answer
abbrev pub opened_after : Option ℕ → Step → Answer → Option ℕ
opened_after opened (Client call moment) given = opened
opened_after opened (DumpBegin db from to limit) given = begun_by opened given
opened_after opened (DumpTable dump after) given = opened
opened_after opened (DumpParts dump table born after) given = opened
opened_after opened (DumpSeal dump) given = opened
opened_after opened (DumpEvents dump after) given = opened
opened_after opened (DumpEnd dump) given = ended_by opened given
opened_after opened (Trim upto) given = opened

-- the dump that a caller has opened after these entries of its own
abbrev pub opened_by : Option ℕ → List Entry → Option ℕ
opened_by opened [] = opened
opened_by opened (entry ∷ entries) = opened_by (opened_after opened entry.0.step entry.1.answer) entries

-- what a step needs is there
abbrev pub IsThere : Option ℕ → Option ℕ → Type 0
IsThere opened None = ⊤
IsThere opened (Some dump) = opened ≡ Some dump

-- each of these entries of a caller needs no dump, or the one that the caller has opened by then
abbrev pub AreOpened : Option ℕ → List Entry → Type 0
AreOpened opened [] = ⊤
AreOpened opened (entry ∷ entries) = IsThere opened (needs entry.0.step) × AreOpened (opened_after opened entry.0.step entry.1.answer) entries

-- a caller's dumps were open for each of its steps, no step was told otherwise, and each dump was ended
pub record DumpsAreOpen (entries : List Entry) : Type 0 where
  pub opened : AreOpened None entries
  pub told : AllByRecursion (λ entry. entry.1.answer ≢ answer.NotOpen) entries
  pub ended : opened_by None entries ≡ None

-- whatever others did in between, each step on a dump that a session took is of a dump which it opened and has not ended, so none is answered that the dump isn't open; and the session leaves no dump open
abbrev pub StepsAreOpened : Type 0
StepsAreOpened = (before after : Met) (end : End) (entries : List Entry) → Session before after entries end → DumpsAreOpen entries

-- ---- only dumps change the folder

-- a message that asks for no dump
abbrev pub IsNoDump : Asked → Type 0
IsNoDump (ask.Client call) = ⊤
IsNoDump (ask.Dump db from to limit) = ⊥
IsNoDump (ask.Trim upto) = ⊤
IsNoDump (ask.Plain reply) = ⊤
IsNoDump ask.Unknown = ⊤
IsNoDump (ask.BadArgument id) = ⊤
IsNoDump ask.Shutdown = ⊤

-- each message that asks for no dump leaves the folder's files and its count of faults as they were
abbrev pub OnlyDumpsChangeFiles : Type 0
OnlyDumpsChangeFiles = (turns : List Turn) (bytes : List ℕ) (clock clock' : Option (List ℕ)) (shelf shelf' : Shelf) (entries : List Entry)
    → Carried turns bytes clock clock' shelf shelf' entries → AllByRecursion (λ turn. IsNoDump (asks turn.message) → turn.after ≡ turn.before) turns

-- ---- faults of the folder are counted

-- whether a message asks for a dump
abbrev pub asks_dump : Asked → Bool
asks_dump (ask.Dump db from to limit) = true
asks_dump other = false

-- whether a reply tells that the folder failed
abbrev pub tells_folder_fault : Reply → Bool
tells_folder_fault (Refused number text) = (number == 14) && bytes_eq text (codes "dump refused: folder fault")
tells_folder_fault other = false

-- the dumps that were answered so
abbrev pub folder_faults : List Turn → List Turn
folder_faults turns = filter (λ turn. asks_dump (asks turn.message) && tells_folder_fault turn.reply) turns

-- the folder's count of faults rose for each dump of a session that is answered by a fault of the folder, up to the last value of u64
abbrev pub FolderFaultsAreCounted : Type 0
FolderFaultsAreCounted = (turns : List Turn) (bytes : List ℕ) (clock clock' : Option (List ℕ)) (shelf shelf' : Shelf) (entries : List Entry)
    → Carried turns bytes clock clock' shelf shelf' entries → min (shelf.faults + length (folder_faults turns)) (2 ^ 64 - 1) ≤ shelf'.faults
