-- What each refusal of opening says of the bytes.
use Rattle.std.proofs.Common.{◌≡◌, ℕ, List, Option, None, Some, subst}
use Rattle.std.specs.Prelude.{IfSome}
use Rattle.hms_outside.specs.Disks.{Lies}
use Rattle.ms_journal.specs.Files.{IsForeign, IsBroken}
use Rattle.ms_journal.specs.Faults.{RefusesOpening}
use Rattle.ms_journal.specs.declared.fault.OpenFault.{OpenFault}
use Rattle.ms_journal.specs.declared.fault.OpenFault.TheVariants as opening

pub foreign_due : (o : Option Lies) (fault : OpenFault) → IfSome o (λ d. RefusesOpening fault d.held) → fault ≡ opening.Foreign → IfSome o (λ d. IsForeign d.held)
foreign_due None fault refused is = tt
foreign_due (Some d) fault refused is = subst (λ (f : OpenFault). RefusesOpening f d.held) is refused

pub broken_due : (o : Option Lies) (fault : OpenFault) (at : ℕ) → IfSome o (λ d. RefusesOpening fault d.held) → fault ≡ opening.Broken at → IfSome o (λ d. IsBroken at d.held)
broken_due None fault at refused is = tt
broken_due (Some d) fault at refused is = subst (λ (f : OpenFault). RefusesOpening f d.held) is refused
