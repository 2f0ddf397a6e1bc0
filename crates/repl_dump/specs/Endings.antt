-- How a dump that was begun ends.
use Rattle.std.specs.Prelude.{◌≡◌, ◌≢◌, ℕ, List, [], ◌∷◌, ◌++◌, Option, Result, MatchResult}
use Rattle.cat_types.specs.declared.steps.Answer.{Answer}
use Rattle.cat_types.specs.declared.steps.Answer.TheVariants as answer
use Rattle.cat_types.specs.declared.steps.Step.TheVariants.{DumpEnd}
use Rattle.desk.specs.History.{Entry}
use Rattle.desk.specs.Walks.{Began, Goes, MayFail, Place, began_answer, done, place_begun}
use Rattle.desk.specs.Walks as walk
use Rattle.dump_texts.specs.Texts.{dump_dir, dump_text, end_told}
use Rattle.hms_outside.specs.Told.{Goes as Leads}
use Rattle.repl_dump.specs.Dumps.{SomeTold}
use Rattle.repl_dump.specs.Files.{Files, Gained, OthersStay, OutsideStays, begun_of}
use Rattle.repl_dump.specs.Turns.{Stopped}
use Rattle.repl_dump.specs.Walking.{Stands, answers_of}
use Rattle.repl_dump.specs.declared.dumping.DumpAnswer.{DumpAnswer}
use Rattle.repl_dump.specs.declared.dumping.DumpAnswer.TheVariants as dumped
use Rattle.repl_dump.specs.declared.failure.Failure.{Failure}
use Rattle.repl_dump.specs.declared.failure.Failure.TheVariants as failure
use Rattle.repl_dump.specs.declared.writer.Writer.{Writer}

-- the directory of a dump that began so, whatever its database is called
abbrev pub dir_of : Began → List ℕ
dir_of began = dump_dir (begun_of [] began)

-- at a place of a dump that began so, after these answers: they were written, that of the beginning first
abbrev pub StandsBegun : Began → List Answer → Option Files → Place → Writer → Option Files → Type 0
StandsBegun began answers first place writer now = Stands (dir_of began) began.end (began_answer began ∷ answers) first place writer now

-- these entries lead to the end of a dump, with all written; or the walk stopped
abbrev pub WritesFiles : Began → Result Writer Failure → Option Files → Option Files → List Entry → Type 0
WritesFiles began result old new own = MatchResult result
    (λ writer. Goes began.dump began.begin (place_begun began.begin began.first) own walk.end × StandsBegun began (answers_of own) old walk.end writer new)
    (λ failed. Stopped began.dump began.begin (place_begun began.begin began.first) failed own)

-- how a failure is answered
abbrev pub failed_answer : Failure → DumpAnswer
failed_answer (failure.Refused refusal) = dumped.Refused refusal
failed_answer failure.FolderFault = dumped.FolderFault
failed_answer failure.NoMemory = dumped.NoMemory

-- a dump of this database ended well after its beginning: its entries are the rest of a whole walk, its directory and its end are told, and the folder gained its text
pub record EndsDone (db : List ℕ) (began : Began) (dir : List ℕ) (last : ℕ) (own : List Entry) (old new : Option Files) : Type 0 where
  pub goes : Goes began.dump began.begin (place_begun began.begin began.first) own done
  pub dir_is : dir ≡ dump_dir (begun_of db began)
  pub last_is : last ≡ end_told began.end (answers_of own)
  pub text : Leads (Gained (dump_text (begun_of db began) (answers_of own))) old new

-- which files stay after a failure: all but the dump's with items and events; after a fault of the folder those outside its directory
abbrev pub StaysBy : Failure → (List ℕ → Files → Files → Type 0)
StaysBy (failure.Refused refusal) = OthersStay
StaysBy failure.FolderFault = OutsideStays
StaysBy failure.NoMemory = OthersStay

-- a dump was broken off after its beginning, and ended; and so files stayed
pub record EndsBroken (stays : List ℕ → Files → Files → Type 0) (began : Began) (own : List Entry) (old new : Option Files) : Type 0 where
  pub place : Place
  pub walked : List Entry
  pub failed : List Entry
  pub ending : Entry
  pub is : own ≡ walked ++ (failed ++ ending ∷ [])
  pub goes : Goes began.dump began.begin (place_begun began.begin began.first) walked place
  pub before_end : place ≢ done
  pub fails : MayFail began.dump place failed
  pub ends : (ending.0.step ≡ DumpEnd began.dump) × (ending.1.answer ≡ answer.Ended)
  pub others : Leads (stays (dir_of began)) old new

-- how a dump of this database that was begun is answered after these entries: it ended well, or was broken off, by the refusal that is told
abbrev pub EndsSo : List ℕ → Began → DumpAnswer → Option Files → Option Files → List Entry → Type 0
EndsSo db began (dumped.Done dir last) old new own = EndsDone db began dir last own old new
EndsSo db began (dumped.Refused refusal) old new own = EndsBroken OthersStay began own old new × SomeTold (answer.DumpRefused refusal) own
EndsSo db began dumped.FolderFault old new own = EndsBroken OutsideStays began own old new
EndsSo db began dumped.StoreFault old new own = ⊥
EndsSo db began dumped.NoMemory old new own = EndsBroken OthersStay began own old new
