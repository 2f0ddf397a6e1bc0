use Rattle.std.proofs.Common.{inl, ap}
use Rattle.std.proofs.lemmas.Result.{err_from_is_err_and}
use Rattle.thrift_binary.specs.Wire.{IsMapHead, StopsMapHead}
use Rattle.thrift_binary.proofs.Reading.{fault_again, reads_verdict}
use Rattle.thrift_binary.proofs.reader.WireReader.map.Goals as goal

pub returns-in_err-exact-clause-reads : goal.returns-in_err-exact-clause-reads
returns-in_err-exact-clause-reads g c =
    let p = err_from_is_err_and c.from_residual.result c.from_residual.ensures.1 in
    rw (p.1, p.2) (fault_again _ _ _ _ c.in_err-exact.field-0.0 _ StopsMapHead (λ s bytes h. inl h) c.in_err-exact.ensures.reads)

pub returns-clause-reads : goal.returns-clause-reads
returns-clause-reads g c =
    reads_verdict _ _ _ _ _ _ _ c.map_head_of.result c.judged.result (λ head. IsMapHead head.0 head.1 head.2) StopsMapHead c.in_ok-exact.ensures.reads c.map_head_of.ensures.judged (ap g.S.Source.left c.judged.ensures.source) c.judged.ensures.same c.judged.ensures.kept
