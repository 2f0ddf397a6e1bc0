-- What a walk did up to a place: its entries, and what was written of their answers.
use Rattle.std.specs.Prelude.{◌≡◌, ℕ, List, [], ◌++◌, map, Option, Result, MatchResult}
use Rattle.cat_types.specs.declared.steps.Answer.{Answer}
use Rattle.desk.specs.History.{Entry}
use Rattle.desk.specs.Walks.{Goes, Place}
use Rattle.desk.specs.Walks as walk
use Rattle.dump_texts.specs.Texts.{at_path, event_texts, files_told}
use Rattle.hms_outside.specs.Told.{Goes as Leads}
use Rattle.repl_dump.specs.Files.{Files, Gained, HasWritten}
use Rattle.repl_dump.specs.Turns.{Stopped, place_of}
use Rattle.repl_dump.specs.declared.failure.Failure.{Failure}
use Rattle.repl_dump.specs.declared.place.Place.{Place as At}
use Rattle.repl_dump.specs.declared.writer.Writer.{Writer}

-- the answers of entries, in order
abbrev pub answers_of : List Entry → List Answer
answers_of entries = map (λ entry. entry.1.answer) entries

-- no event was told before the walk comes to its events
abbrev pub IsInOrder : Place → List Answer → Type 0
IsInOrder (walk.tables after) answers = event_texts answers ≡ []
IsInOrder (walk.parts table born after) answers = event_texts answers ≡ []
IsInOrder walk.seal answers = event_texts answers ≡ []
IsInOrder (walk.events after) answers = Unit {0}
IsInOrder walk.end answers = Unit {0}
IsInOrder walk.done answers = Unit {0}

-- at a place after these answers: the writer has written them, and the folder has their files
pub record Stands (dir : List ℕ) (end : ℕ) (answers : List Answer) (first : Option Files) (place : Place) (writer : Writer) (now : Option Files) : Type 0 where
  pub written : HasWritten dir end answers writer
  pub ordered : IsInOrder place answers
  pub text : Leads (Gained (map (at_path dir) (files_told answers))) first now

-- these entries lead from one place to another, and their answers were written
pub record Wrote (dump begin : ℕ) (from to : Place) (old new : Writer) (before after : Option Files) (own : List Entry) : Type 0 where
  pub goes : Goes dump begin from own to
  pub stands : (dir : List ℕ) (end : ℕ) (answers : List Answer) (first : Option Files) → Stands dir end answers first from old before → Stands dir end (answers ++ answers_of own) first to new after

-- a walk came to its end with all written; or it stopped
abbrev pub Ends : {T : Type 0} → ℕ → ℕ → Place → Result T Failure → Writer → Writer → Option Files → Option Files → List Entry → Type 0
Ends dump begin from result old new before after own = MatchResult result (λ _. Wrote dump begin from walk.end old new before after own) (λ failed. Stopped dump begin from failed own)

-- one step was taken and written; or the walk stopped there
abbrev pub Steps : ℕ → ℕ → Place → Result At Failure → Writer → Writer → Option Files → Option Files → List Entry → Type 0
Steps dump begin from result old new before after own = MatchResult result (λ to. Wrote dump begin from (place_of to) old new before after own) (λ failed. Stopped dump begin from failed own)
