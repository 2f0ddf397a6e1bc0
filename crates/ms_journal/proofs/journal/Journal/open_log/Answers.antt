use Rattle.std.proofs.Common.{ap}
use Rattle.ms_journal.specs.Books.{first_logged}
use Rattle.ms_journal.proofs.Finding.{found_keeps, found_file}
use Rattle.ms_journal.proofs.Refusing.{foreign_due, broken_due}
use Rattle.ms_journal.proofs.Keeping.{opens_now}
use Rattle.ms_journal.proofs.journal.Journal.open_log.Goals as goal

pub invariant_of-journal : goal.invariant_of-journal
invariant_of-journal g c =
    let r = c.in-Ok.ensures.read in
    found_keeps _ _ r.0 _ _ _ _ _ c.in-Ok.ensures.synced r.3 r.1 r.2 (ap first_logged c.new.ensures)

pub returns-in-Ok-clause-file : goal.returns-in-Ok-clause-file
returns-in-Ok-clause-file g c =
    let r = c.in-Ok.ensures.read in
    found_file _ r.0 _ _ r.3 r.1.file

pub returns-in-Ok-clause-opens : goal.returns-in-Ok-clause-opens
returns-in-Ok-clause-opens g c =
    let r = c.in-Ok.ensures.read in
    opens_now _ _ _ _ _ _ (found_keeps _ _ r.0 _ _ _ _ _ c.in-Ok.ensures.synced r.3 r.1 r.2 (ap first_logged c.new.ensures))

pub returns-in-Err-clause-foreign : goal.returns-in-Err-clause-foreign
returns-in-Err-clause-foreign g c = foreign_due _ _ c.in-Err.ensures.refused

pub returns-in-Err-clause-broken : goal.returns-in-Err-clause-broken
returns-in-Err-clause-broken g c = λ at. broken_due _ _ at c.in-Err.ensures.refused
