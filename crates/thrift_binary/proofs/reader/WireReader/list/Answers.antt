use Rattle.std.proofs.Common.{inl}
use Rattle.std.proofs.lemmas.Result.{err_from_is_err_and}
use Rattle.thrift_binary.specs.Wire.{StopsListHead}
use Rattle.thrift_binary.proofs.Reading.{fault_again}
use Rattle.thrift_binary.proofs.reader.WireReader.list.Goals as goal

pub returns-in_err-exact-clause-reads : goal.returns-in_err-exact-clause-reads
returns-in_err-exact-clause-reads g c =
    let p = err_from_is_err_and c.from_residual.result c.from_residual.ensures.1 in
    rw (p.1, p.2) (fault_again _ _ _ _ c.in_err-exact.field-0.0 _ StopsListHead (λ s bytes h. inl h) c.in_err-exact.ensures.reads)
