-- The status and the line of each end, and how lines are told.
use Rattle.std.specs.Prelude.{◌≡◌, ℕ, List, [], ◌∷◌, ◌++◌, take, codes, Option, Result, MatchResult}
use Rattle.std.specs.Fmt.{decimal}
use Rattle.hex.specs.Hex.{encode_lower}
use Rattle.hms_outside.specs.Causes.{HasCause}
use Rattle.hms_outside.specs.Told.{Goes, Grew, Held, Same, Sent}
use Rattle.hms_outside.specs.declared.outage.Outage.{Outage}
use Rattle.cat_types.specs.declared.steps.DumpRefusal.{DumpRefusal}
use Rattle.ms_cli.specs.declared.words.Usage.{Usage}
use Rattle.ms_cli.specs.declared.words.Usage.TheVariants as usage
use Rattle.ms_journal.specs.declared.fault.OpenFault.{OpenFault}
use Rattle.ms_journal.specs.declared.fault.OpenFault.TheVariants as opening
use Rattle.repl_dump.specs.Refusals.{refusal_text}
use Rattle.ms_session.specs.declared.end.End.{End}
use Rattle.ms_session.specs.declared.end.End.TheVariants.{Done, Shutdown, Truncated, BadWire, TooLarge, ReadFault, WriteFault, NoMemory}

-- the status of a session's end
abbrev pub status_of : End → ℕ
status_of Done = 0
status_of Shutdown = 0
status_of (Truncated place) = 7
status_of (BadWire code place) = 7
status_of (TooLarge place) = 7
status_of ReadFault = 3
status_of WriteFault = 4
status_of NoMemory = 10

-- the line that tells a session's end; a good end has none
abbrev pub line_of : End → List ℕ
line_of Done = []
line_of Shutdown = []
line_of (Truncated place) = codes "wire: truncated at " ++ decimal place ++ 10 ∷ []
line_of (BadWire code place) = codes "wire: bad " ++ (decimal code ++ (codes " at " ++ (decimal place ++ 10 ∷ [])))
line_of (TooLarge place) = codes "wire: too large at " ++ decimal place ++ 10 ∷ []
line_of ReadFault = codes "read fault\n"
line_of WriteFault = codes "write fault\n"
line_of NoMemory = codes "out of memory\n"

-- the status where a store isn't made or opened
abbrev pub refusal_status : OpenFault → ℕ
refusal_status opening.NotEmpty = 6
refusal_status opening.Foreign = 6
refusal_status (opening.Broken at) = 6
refusal_status opening.DiskFault = 5
refusal_status opening.NoMemory = 10

-- the line that tells why a store isn't made or opened
abbrev pub refusal_line : OpenFault → List ℕ
refusal_line opening.NotEmpty = codes "store: not empty\n"
refusal_line opening.Foreign = codes "store: foreign\n"
refusal_line (opening.Broken at) = codes "store: broken at " ++ decimal at ++ 10 ∷ []
refusal_line opening.DiskFault = codes "store fault\n"
refusal_line opening.NoMemory = codes "out of memory\n"

-- the line that tells why words name no command
abbrev pub usage_line : Usage → List ℕ
usage_line usage.Words = codes "usage\n"
usage_line usage.LongWord = codes "usage: word\n"
usage_line usage.Id = codes "usage: HEXID\n"

-- the line that says that a store was made, with its id in lower case
abbrev pub made_line : List ℕ → List ℕ
made_line id = codes "init " ++ encode_lower id ++ 10 ∷ []

-- the line that says that a dump was made: its directory, and the event that it goes up to
abbrev pub dump_line : List ℕ → ℕ → List ℕ
dump_line dir last = codes "dump " ++ (dir ++ (codes " " ++ (decimal last ++ 10 ∷ [])))

-- the line that tells why a dump was refused
abbrev pub refused_dump_line : DumpRefusal → List ℕ
refused_dump_line refusal = codes "dump refused: " ++ (refusal_text refusal ++ 10 ∷ [])

-- the line that tells the number of the first kept event
abbrev pub kept_line : ℕ → List ℕ
kept_line first = codes "kept " ++ decimal first ++ 10 ∷ []

-- a call that tells a line: after Ok it was added whole and flushed, and after an Err a front of it was added
abbrev pub TellsLine : {T E : Type 0} → List ℕ → Result T E → Option Held → Option Held → Type 0
TellsLine line result old new = MatchResult result (λ _. Goes (Sent line) old new) (λ _. (n : ℕ) × Goes (Grew (take n line)) old new)

-- a call that had no memory for its line: an Err, and nothing was added
abbrev pub TellsNothing : {T E : Type 0} → Result T E → Option Held → Option Held → Type 0
TellsNothing result old new = MatchResult result (λ _. ⊥) (λ _. Goes Same old new)

-- a call that tells an end: a good one has no line, and the call is an Ok
abbrev pub TellsEnd : {T E : Type 0} → End → Result T E → Option Held → Option Held → Type 0
TellsEnd Done result old new = MatchResult result (λ _. Goes Same old new) (λ _. ⊥)
TellsEnd Shutdown result old new = MatchResult result (λ _. Goes Same old new) (λ _. ⊥)
TellsEnd end result old new = TellsLine (line_of end) result old new

-- the sink of errors: what it holds, where that is known, and how often it has failed
pub record Errors : Type 0 where
  pub held : Option Held
  pub faults : ℕ

-- a line was told, and that was answered so: where the sink counted no fault and refused no memory the line is there, whole and flushed
abbrev pub Lines : List ℕ → Errors → Errors → Type 0
Lines line old new = (told : Result (Unit {0}) Outage) × TellsLine line told old.held new.held × HasCause old.faults new.faults told

-- an end was told, in the same way; a good end leaves the sink of errors
abbrev pub Tells : End → Errors → Errors → Type 0
Tells end old new = (told : Result (Unit {0}) Outage) × TellsEnd end told old.held new.held × HasCause old.faults new.faults told

-- a line was to be written, and that ended so: whole and flushed, or a front of it where the output failed or memory was refused
abbrev pub Writes : List ℕ → End → Option Held → Option Held → Type 0
Writes line Done old new = Goes (Sent line) old new
Writes line WriteFault old new = (n : ℕ) × Goes (Grew (take n line)) old new
Writes line NoMemory old new = (n : ℕ) × Goes (Grew (take n line)) old new
Writes line Shutdown old new = ⊥
Writes line (Truncated place) old new = ⊥
Writes line (BadWire code place) old new = ⊥
Writes line (TooLarge place) old new = ⊥
Writes line ReadFault old new = ⊥

-- a line was written on the output, how that ended was told, and the status is that end's
abbrev pub Says : List ℕ → Option Held → Option Held → Errors → Errors → ℕ → Type 0
Says line old new errors errors' status = (ended : End) × Writes line ended old new × Tells ended errors errors' × (status ≡ status_of ended)

-- nothing was written on the output, a line was told on the sink of errors, and the status is this one
abbrev pub Fails : List ℕ → ℕ → Option Held → Option Held → Errors → Errors → ℕ → Type 0
Fails line number old new errors errors' status = (new ≡ old) × Lines line errors errors' × (status ≡ number)
