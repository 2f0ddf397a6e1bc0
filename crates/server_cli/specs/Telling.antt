-- How a server's status is told.
use Rattle.std.specs.Prelude.{◌⊎◌, Option, Result, IfSome, MatchResult}
use Rattle.engine.specs.Opening.{Opens}
use Rattle.desk.specs.State.{State}
use Rattle.hms_outside.specs.Disks.{Lies}
use Rattle.hms_outside.specs.Told.{Goes, Held, Same}
use Rattle.ms_cli.specs.Keeping.{RefusesBytes}
use Rattle.ms_cli.specs.Telling.{TellsLine, refusal_line}
use Rattle.ms_journal.specs.Faults.{IsOpeningFault}
use Rattle.ms_journal.specs.declared.fault.OpenFault.{OpenFault}

-- a call that tells nothing: an Ok, and nothing was added
abbrev pub TellsNone : {T E : Type 0} → Result T E → Option Held → Option Held → Type 0
TellsNone result old new = MatchResult result (λ _. Goes Same old new) (λ _. ⊥)

-- a call that tells why no store was opened, by opening it once more: the line of that refusal, which is so of the disk's bytes; where they do open, there is no line
abbrev pub TellsWhy : {T E : Type 0} → Option Lies → Result T E → Option Held → Option Held → Type 0
TellsWhy lies result old new =
    ((fault : OpenFault) × IsOpeningFault fault × IfSome lies (λ d. RefusesBytes fault d.held) × TellsLine (refusal_line fault) result old new)
    ⊎ (IfSome lies (λ d. (state : State) × Opens d.held state) × TellsNone result old new)
