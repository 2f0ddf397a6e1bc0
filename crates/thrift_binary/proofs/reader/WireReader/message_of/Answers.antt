use Rattle.std.proofs.Common.{inl, refl}
use Rattle.std.proofs.lemmas.Result.{err_from_is_err_and}
use Rattle.thrift_binary.specs.Messages.{KindsOf, StopsMessage}
use Rattle.thrift_binary.proofs.Reading.{fault_again}
use Rattle.thrift_binary.proofs.Openers.{message_read, message_stop}
use Rattle.thrift_binary.proofs.reader.WireReader.message_of.Goals as goal

pub returns-in_err-head_of-clause-reads : goal.returns-in_err-head_of-clause-reads
returns-in_err-head_of-clause-reads g c =
    let p = err_from_is_err_and c.from_residual.result c.from_residual.ensures.1 in
    rw (p.1, p.2) (fault_again _ _ _ _ c.in_err-head_of.field-0.0 _ (StopsMessage (KindsOf c.args.direction)) (λ s bytes h. inl h) c.in_err-head_of.ensures.reads)

pub returns-in_err-skip-in-Some-clause-reads : goal.returns-in_err-skip-in-Some-clause-reads
returns-in_err-skip-in-Some-clause-reads g c =
    let p = err_from_is_err_and c.from_residual-in_err-skip-in-Some.result c.from_residual-in_err-skip-in-Some.ensures.1 in
    rw (p.1, p.2) (message_stop (KindsOf c.args.direction) _ _ _ _ _ _ c.in-Some.head c.in_err-skip-in-Some.field-0.0 refl (rw c.in-Some.is at c.in_ok-head_of.ensures.reads) c.in_err-skip-in-Some.ensures.reads)

pub returns-in_ok-skip-in-Some-clause-reads : goal.returns-in_ok-skip-in-Some-clause-reads
returns-in_ok-skip-in-Some-clause-reads g c = message_read (KindsOf c.args.direction) _ _ _ _ _ _ c.in-Some.head refl (rw c.in-Some.is at c.in_ok-head_of.ensures.reads) c.in_ok-skip-in-Some.ensures.reads
