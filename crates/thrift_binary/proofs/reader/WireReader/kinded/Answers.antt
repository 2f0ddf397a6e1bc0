use Rattle.std.proofs.Common.{Err, rules, w32}
use mir.Val.{SFits}
use Rattle.std.proofs.lemmas.Result.{err_from_is_err_and}
use Rattle.thrift_binary.specs.Wire.{IsInt, StopsShort}
use Rattle.thrift_binary.specs.Messages.{KindsOf, IsKind, StopsKind, StopsKinded}
use Rattle.thrift_binary.proofs.Reading.{reads_then, fault_again}
use Rattle.thrift_binary.proofs.Openers.{kinded_read}
use Rattle.thrift_binary.proofs.reader.WireReader.kinded.Goals as goal

pub returns-in_err-sequence-clause-reads : goal.returns-in_err-sequence-clause-reads
returns-in_err-sequence-clause-reads g c =
    let p = err_from_is_err_and c.from_residual-in_err-sequence.result c.from_residual-in_err-sequence.ensures.1 in
    rw (p.1, p.2) (fault_again _ _ _ _ c.in_err-sequence.field-0.0 _ (StopsKinded (KindsOf c.args.direction)) (λ s bytes h. h)
    (reads_then (IsKind (KindsOf c.args.direction)) (StopsKind (KindsOf c.args.direction)) (λ _. IsInt) (λ _. StopsShort 4) _ _ _ _ _ _ c.in_ok-kind.kind (Err c.in_err-sequence.field-0.0) c.in_ok-kind.ensures.reads c.in_err-sequence.ensures.reads))

pub returns-clause-reads : goal.returns-clause-reads
returns-clause-reads g c =
    let fits : SFits w32 c.in_ok-sequence.sequence = search rules in
    kinded_read (KindsOf c.args.direction) _ _ _ _ _ _ c.in_ok-kind.kind c.in_ok-sequence.sequence fits c.in_ok-kind.ensures.reads c.in_ok-sequence.ensures.reads
