use Rattle.std.proofs.Common.{inl, ap}
use Rattle.std.proofs.lemmas.Result.{err_from_is_err_and}
use Rattle.thrift_binary.specs.Messages.{KindsOf, StopsHead}
use Rattle.thrift_binary.proofs.Reading.{fault_again}
use Rattle.thrift_binary.proofs.Openers.{head_read, head_stop, began, began_took}
use Rattle.thrift_binary.proofs.reader.WireReader.head_of.Goals as goal

pub returns-in_err-opening-clause-reads : goal.returns-in_err-opening-clause-reads
returns-in_err-opening-clause-reads g c =
    let p = err_from_is_err_and c.from_residual.result c.from_residual.ensures.1 in
    rw (p.1, p.2) (began _ _ _ _ _ _ c.in_err-opening.field-0.0 (StopsHead (KindsOf c.args.direction)) (ap g.S.Source.left c.begin.ensures.source) c.begin.ensures.progress (fault_again _ _ _ _ c.in_err-opening.field-0.0 _ (StopsHead (KindsOf c.args.direction)) (λ s bytes h. inl h) c.in_err-opening.ensures.reads))

pub returns-in_err-head-clause-reads : goal.returns-in_err-head-clause-reads
returns-in_err-head-clause-reads g c =
    let p = err_from_is_err_and c.from_residual-in_err-head.result c.from_residual-in_err-head.ensures.1 in
    rw (p.1, p.2) (began _ _ _ _ _ _ c.in_err-head.field-0.0 (StopsHead (KindsOf c.args.direction)) (ap g.S.Source.left c.begin.ensures.source) c.begin.ensures.progress (head_stop (KindsOf c.args.direction) _ _ _ _ _ _ c.in-Some.opening c.in_err-head.field-0.0 (rw c.in-Some.is at c.in_ok-opening.ensures.reads) c.in_err-head.ensures.reads))

pub returns-clause-reads : goal.returns-clause-reads
returns-clause-reads g c =
    began_took _ _ _ _ _ _ _ (ap g.S.Source.left c.begin.ensures.source) c.begin.ensures.progress (head_read (KindsOf c.args.direction) _ _ _ _ _ _ c.in-Some.opening c.in_ok-head.head (rw c.in-Some.is at c.in_ok-opening.ensures.reads) c.in_ok-head.ensures.reads)
