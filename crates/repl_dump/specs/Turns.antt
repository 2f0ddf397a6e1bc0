-- One step of a dump, and how it goes on.
use Rattle.std.specs.Prelude.{◌≡◌, ◌≢◌, ◌⊎◌, ℕ, ◌+◌, ◌-◌, ◌*◌, List, [], ◌∷◌, ◌++◌, length, true, Option, Some, Result, MatchResult}
use Rattle.std.specs.List.{AllByRecursion}
use Rattle.cat_types.specs.declared.steps.Answer.{Answer}
use Rattle.cat_types.specs.declared.steps.Answer.TheVariants as answer
use Rattle.cat_types.specs.declared.items.Item.{Item}
use Rattle.cat_types.specs.declared.items.Item.TheVariants as item
use Rattle.cat_values.specs.declared.list_of.TheConstants.{LIST_END}
use Rattle.desk.specs.History.{Entry}
use Rattle.desk.specs.Walks.{Goes, MayFail, Moves, Place, done, step_at}
use Rattle.desk.specs.Walks as walk
use Rattle.repl_dump.specs.Files.{Files, IsTold}
use Rattle.repl_dump.specs.declared.failure.Failure.{Failure}
use Rattle.repl_dump.specs.declared.failure.Failure.TheVariants as failure
use Rattle.repl_dump.specs.declared.place.Place.{Place as At}
use Rattle.repl_dump.specs.declared.place.Place.TheVariants as at
use Rattle.repl_dump.specs.declared.writer.Writer.{Writer}

-- where a walk stands that is at a place
abbrev pub place_of : At → Place
place_of (at.Tables after) = walk.tables after
place_of (at.Parts table born after) = walk.parts table born after
place_of at.Seal = walk.seal
place_of (at.Events after) = walk.events after
place_of at.End = walk.end

-- the step of a place was taken, and its answer leads to another one
pub record Moved (dump begin : ℕ) (from : Place) (own : List Entry) (to : Place) : Type 0 where
  pub entry : Entry
  pub is : own ≡ entry ∷ []
  pub step : step_at dump from ≡ Some entry.0.step
  pub moves : Moves begin from entry.1.answer to

-- a failure that an entry told: it was answered by a refusal
abbrev pub ToldBy : Failure → List Entry → Type 0
ToldBy (failure.Refused refusal) [] = ⊥
ToldBy (failure.Refused refusal) (entry ∷ entries) = entry.1.answer ≡ answer.DumpRefused refusal
ToldBy failure.FolderFault failed = Unit {0}
ToldBy failure.NoMemory failed = Unit {0}

-- a walk went on from a place to another before its end, where at most one step failed; a refusal was told by that step
pub record Stopped (dump begin : ℕ) (from : Place) (failed_so : Failure) (own : List Entry) : Type 0 where
  pub place : Place
  pub walked : List Entry
  pub failed : List Entry
  pub is : own ≡ walked ++ failed
  pub goes : Goes dump begin from walked place
  pub unfinished : place ≢ done
  pub fails : MayFail dump place failed
  pub told : ToldBy failed_so failed

-- how far the places are from the end, by their order
abbrev pub rank : At → ℕ
rank (at.Tables after) = 3
rank (at.Parts table born after) = 4
rank at.Seal = 2
rank (at.Events after) = 1
rank at.End = 0

-- how many steps may be left at most: a manifest has fewer than 2^31 lines, and at most four steps lie between two of them
abbrev pub steps_left : Writer → At → ℕ
steps_left writer place = 4 * (LIST_END - length writer.files) + rank place

-- ---- which answers may come at a place

-- an item is a table
abbrev pub IsTable : Item → Type 0
IsTable (item.Table at table born rec) = Unit {0}
IsTable other = ⊥

-- an item is a partition
abbrev pub IsPart : Item → Type 0
IsPart (item.Part at table born values rec) = Unit {0}
IsPart other = ⊥

-- an answer to the step for the next table: a table, or none; or its refusal
abbrev pub FitsTable : Answer → Type 0
FitsTable (answer.Table found) = IsTable found
FitsTable answer.NoTable = Unit {0}
FitsTable (answer.DumpRefused refusal) = Unit {0}
FitsTable answer.NoMemory = Unit {0}
FitsTable other = ⊥

-- an answer to the step for partitions: partitions, at least one where others follow; or its refusal
abbrev pub FitsParts : Answer → Type 0
FitsParts (answer.Parts items more) = AllByRecursion IsPart items × (more ≡ true → items ≢ [])
FitsParts (answer.DumpRefused refusal) = Unit {0}
FitsParts answer.NoMemory = Unit {0}
FitsParts other = ⊥

-- an answer to the seal
abbrev pub FitsSeal : Answer → Type 0
FitsSeal (answer.Sealed number) = Unit {0}
FitsSeal (answer.DumpRefused refusal) = Unit {0}
FitsSeal answer.NoMemory = Unit {0}
FitsSeal other = ⊥

-- an answer to the step for events: events, at least one where others follow; or its refusal
abbrev pub FitsEvents : Answer → Type 0
FitsEvents (answer.Events events more) = (more ≡ true → events ≢ [])
FitsEvents (answer.DumpRefused refusal) = Unit {0}
FitsEvents answer.NoMemory = Unit {0}
FitsEvents other = ⊥

-- an answer to the step of a place before the end
abbrev pub FitsPlace : Place → Answer → Type 0
FitsPlace (walk.tables after) given = FitsTable given
FitsPlace (walk.parts table born after) given = FitsParts given
FitsPlace walk.seal given = FitsSeal given
FitsPlace (walk.events after) given = FitsEvents given
FitsPlace walk.end given = ⊥
FitsPlace walk.done given = ⊥

-- ---- what is done with an answer

-- a failure that no answer told
abbrev pub IsOwn : Failure → Type 0
IsOwn (failure.Refused refusal) = ⊥
IsOwn failure.FolderFault = Unit {0}
IsOwn failure.NoMemory = Unit {0}

-- an answer is this refusal, or tells want of memory
abbrev pub Refuses : Failure → Answer → Type 0
Refuses (failure.Refused refusal) given = given ≡ answer.DumpRefused refusal
Refuses failure.FolderFault given = ⊥
Refuses failure.NoMemory given = given ≡ answer.NoMemory

-- a walk breaks off after an answer: by what it tells; or it leads on, but it couldn't be written
abbrev pub Breaks : Failure → ℕ → Place → Answer → Type 0
Breaks failed begin from given = Refuses failed given ⊎ (IsOwn failed × ((to : Place) × Moves begin from given to × (to ≢ done)))

-- an answer leads to a place, and was written
pub record Arrives (begin : ℕ) (from : Place) (given : Answer) (to : At) (old new : Writer) (before after : Option Files) : Type 0 where
  pub moves : Moves begin from given (place_of to)
  pub told : IsTold given old new before after

-- an answer leads on and was written, or the walk breaks off there
abbrev pub GoesOn : ℕ → Place → Answer → Result At Failure → Writer → Writer → Option Files → Option Files → Type 0
GoesOn begin from given result old new before after = MatchResult result (λ to. Arrives begin from given to old new before after) (λ failed. Breaks failed begin from given)
