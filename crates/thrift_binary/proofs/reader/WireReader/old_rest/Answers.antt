use Rattle.std.proofs.Common.{Err, inl, rules, w32}
use mir.Val.{SFits}
use Rattle.std.proofs.lemmas.Result.{err_from_is_err_and}
use Rattle.thrift_binary.specs.Messages.{KindsOf, IsOldName, StopsOldName, IsKinded, StopsKinded, StopsOldRest}
use Rattle.thrift_binary.proofs.Reading.{reads_then, fault_again}
use Rattle.thrift_binary.proofs.Openers.{old_read}
use Rattle.thrift_binary.proofs.reader.WireReader.old_rest.Goals as goal

pub returns-in_err-name-clause-reads : goal.returns-in_err-name-clause-reads
returns-in_err-name-clause-reads g c =
    let p = err_from_is_err_and c.from_residual.result c.from_residual.ensures.1 in
    rw (p.1, p.2) (fault_again _ _ _ _ c.in_err-name.field-0.0 _ (StopsOldRest (KindsOf c.args.direction) c.args.length) (λ s bytes h. inl h) c.in_err-name.ensures.reads)

pub returns-in_err-kind-clause-reads : goal.returns-in_err-kind-clause-reads
returns-in_err-kind-clause-reads g c =
    let p = err_from_is_err_and c.from_residual-in_err-kind.result c.from_residual-in_err-kind.ensures.1 in
    rw (p.1, p.2) (fault_again _ _ _ _ c.in_err-kind.field-0.0 _ (StopsOldRest (KindsOf c.args.direction) c.args.length) (λ s bytes h. h)
    (reads_then (IsOldName c.args.length) (StopsOldName c.args.length) (λ _. IsKinded (KindsOf c.args.direction)) (λ _. StopsKinded (KindsOf c.args.direction)) _ _ _ _ _ _ c.in_ok-name.name (Err c.in_err-kind.field-0.0) c.in_ok-name.ensures.reads c.in_err-kind.ensures.reads))

pub returns-clause-reads : goal.returns-clause-reads
returns-clause-reads g c =
    let fits : SFits w32 c.in_ok-kind.sequence = search rules in
    old_read (KindsOf c.args.direction) c.args.length _ _ _ _ _ _ c.in_ok-name.name c.in_ok-kind.kind c.in_ok-kind.sequence fits c.in_ok-name.ensures.reads c.in_ok-kind.ensures.reads
