use Rattle.std.proofs.lemmas.Result.{err_from_is_err_and}
use Rattle.engine.proofs.Commits.{not_shut, rose_later, shut_then_added}
use Rattle.engine.specs.Inside.{seen_by}
use Rattle.engine.proofs.committing.commit.Goals as goal

pub returns-in_err-shut_gate-clause-ran : goal.returns-in_err-shut_gate-clause-ran
returns-in_err-shut_gate-clause-ran g c =
    let p = err_from_is_err_and c.from_residual.result c.from_residual.ensures.1 in
    rw p.1 (not_shut c.args.payload.now (seen_by g.D.Disk.lies g.D.Disk.past g.D.Disk.faults c.args.journal.now) (seen_by g.D.Disk.lies g.D.Disk.past g.D.Disk.faults c.shut_gate.new.journal)
    c.in_err-shut_gate.ensures.head c.in_err-shut_gate.ensures.payloads c.in_err-shut_gate.ensures.doubt c.in_err-shut_gate.ensures.went c.in_err-shut_gate.ensures.later)

pub returns-clause-ran : goal.returns-clause-ran
returns-clause-ran g c =
    shut_then_added c.args.payload.now c.append.result (seen_by g.D.Disk.lies g.D.Disk.past g.D.Disk.faults c.args.journal.now) (seen_by g.D.Disk.lies g.D.Disk.past g.D.Disk.faults c.shut_gate.new.journal) (seen_by g.D.Disk.lies g.D.Disk.past g.D.Disk.faults c.append.new.self)
    c.in_ok-shut_gate.ensures.head c.in_ok-shut_gate.ensures.payloads c.in_ok-shut_gate.ensures.went c.in_ok-shut_gate.ensures.later
    c.append.ensures.head c.append.ensures.added c.append.ensures.settled c.append.ensures.kept c.append.ensures.doubt c.append.ensures.went c.append.ensures.later

pub returns-clause-cause : goal.returns-clause-cause
returns-clause-cause g c = λ e. rose_later _ _ _ c.in_ok-shut_gate.ensures.later (c.append.ensures.cause e)
