-- Why no store was opened.
use Rattle.std.proofs.Common.{◌≡◌, Option, Some, None, ℕ, refl, inl, inr}
use Rattle.std.specs.Prelude.{IfSome, Result, Ok}
use Rattle.desk.specs.State.{State}
use Rattle.engine.specs.Opening.{IsBrokenStore, Opens}
use Rattle.hms_outside.specs.Disks.{Lies}
use Rattle.hms_outside.specs.Told.{Goes, Held, Same}
use Rattle.hms_outside.specs.declared.outage.Outage.{Outage}
use Rattle.ms_cli.specs.Telling.{TellsLine, refusal_line}
use Rattle.ms_cli.proofs.Refusing.{opening_bytes}
use Rattle.ms_journal.specs.Faults.{IsOpeningFault}
use Rattle.ms_journal.specs.Files.{IsForeign}
use Rattle.ms_journal.specs.declared.fault.OpenFault.{OpenFault}
use Rattle.ms_journal.specs.declared.fault.OpenFault.TheVariants.{Foreign, Broken}
use Rattle.server_cli.specs.Telling.{TellsWhy}

same_goes : (a : Option Held) → Goes Same a a
same_goes None = tt
same_goes (Some x) = refl

some_state : (lies : Option Lies) (state : State) → IfSome lies (λ d. Opens d.held state) → IfSome lies (λ d. (s : State) × Opens d.held s)
some_state None state opens = tt
some_state (Some d) state opens = (state, opens)

-- the bytes open
pub told_none : (lies : Option Lies) (state : State) (a : Option Held) → IfSome lies (λ d. Opens d.held state) → TellsWhy {T = Unit {0}} {E = Outage} lies (Ok tt) a a
told_none lies state a opens = inr (some_state lies state opens, same_goes a)

-- the bytes refuse it
pub told_why : {T E : Type 0} (lies : Option Lies) (fault : OpenFault) (result : Result T E) (a b : Option Held) → IsOpeningFault fault → (fault ≡ Foreign → IfSome lies (λ d. IsForeign d.held))
    → ((at : ℕ) → fault ≡ Broken at → IfSome lies (λ d. IsBrokenStore at d.held)) → TellsLine (refusal_line fault) result a b → TellsWhy lies result a b
told_why lies fault result a b kind foreign broken told = inl (fault, kind, opening_bytes fault lies kind foreign broken, told)
