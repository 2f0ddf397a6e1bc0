-- What a dump does.
use Rattle.std.specs.Prelude.{◌≡◌, ◌≢◌, ◌⊎◌, ℕ, List, [], ◌∷◌, Option}
use Rattle.cat_types.specs.declared.steps.Answer.{Answer}
use Rattle.cat_types.specs.declared.steps.Answer.TheVariants as answer
use Rattle.cat_values.specs.Names.{lower}
use Rattle.desk.specs.History.{Entry}
use Rattle.desk.specs.Walks.{Began, DumpRun, Walk, Wanted, began_answer}
use Rattle.dump_texts.specs.Texts.{dump_dir, dump_text, end_told}
use Rattle.hms_outside.specs.Told.{Goes as Leads}
use Rattle.repl_dump.specs.Files.{Files, Gained, OthersStay, OutsideStays, begun_of}
use Rattle.repl_dump.specs.Walking.{answers_of}
use Rattle.repl_dump.specs.declared.dumping.DumpAnswer.{DumpAnswer}
use Rattle.repl_dump.specs.declared.dumping.DumpAnswer.TheVariants as dumped

-- the answers of entries after the first
abbrev pub later_answers : List Entry → List Answer
later_answers [] = []
later_answers (entry ∷ entries) = answers_of entries

-- the first of these entries was answered so
abbrev pub FirstTold : Answer → List Entry → Type 0
FirstTold given [] = ⊥
FirstTold given (entry ∷ entries) = entry.1.answer ≡ given

-- one of these entries was answered so
abbrev pub SomeTold : Answer → List Entry → Type 0
SomeTold given [] = ⊥
SomeTold given (entry ∷ entries) = (entry.1.answer ≡ given) ⊎ SomeTold given entries

-- none of these entries was answered so
abbrev pub NoneTold : Answer → List Entry → Type 0
NoneTold given [] = Unit {0}
NoneTold given (entry ∷ entries) = (entry.1.answer ≢ given) × NoneTold given entries

-- what a finished dump did: its entries are a whole walk, its directory and its end are told, and the folder gained its text
pub record IsDone (wanted : Wanted) (dir : List ℕ) (last : ℕ) (own : List Entry) (old new : Option Files) : Type 0 where
  pub began : Began
  pub walk : Walk wanted began own
  pub dir_is : dir ≡ dump_dir (begun_of (lower wanted.db) began)
  pub last_is : last ≡ end_told began.end (later_answers own)
  pub text : Leads (Gained (dump_text (begun_of (lower wanted.db) began) (later_answers own))) old new

-- what a dump that wasn't finished leaves of the folder: where no number was drawn all files stay, and else all but those that may have changed in the number's directory
pub record LeavesFiles (stays : List ℕ → Files → Files → Type 0) (wanted : Wanted) (own : List Entry) (old new : Option Files) : Type 0 where
  pub unbegun : ((began : Began) → FirstTold (began_answer began) own → ⊥) → new ≡ old
  pub begun : (began : Began) → FirstTold (began_answer began) own → Leads (stays (dump_dir (begun_of (lower wanted.db) began))) old new

-- the entries of a dump that wasn't finished, none of which was answered that no dump is open, and what it leaves
pub record IsBroken (stays : List ℕ → Files → Files → Type 0) (wanted : Wanted) (own : List Entry) (old new : Option Files) : Type 0 where
  pub run : DumpRun wanted own
  pub stays_open : NoneTold answer.NotOpen own
  pub files : LeavesFiles stays wanted own old new

-- what a dump does that is answered so: it is done; or its entries are a dump's, with the refusal or the fault that is told among their answers; only for want of memory there may be none. No manifest is there that wasn't before, unless the folder failed
abbrev pub Dumps : Wanted → DumpAnswer → Option Files → Option Files → List Entry → Type 0
Dumps wanted (dumped.Done dir last) old new own = IsDone wanted dir last own old new
Dumps wanted (dumped.Refused refusal) old new own = IsBroken OthersStay wanted own old new × SomeTold (answer.DumpRefused refusal) own
Dumps wanted dumped.FolderFault old new own = IsBroken OutsideStays wanted own old new
Dumps wanted dumped.StoreFault old new own = IsBroken OthersStay wanted own old new × FirstTold answer.StoreFault own
Dumps wanted dumped.NoMemory old new own = ((own ≡ []) × (new ≡ old)) ⊎ IsBroken OthersStay wanted own old new
