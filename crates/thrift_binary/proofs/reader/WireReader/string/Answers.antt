use Rattle.std.proofs.Common.{inl}
use Rattle.std.proofs.lemmas.Result.{err_from_is_err_and}
use Rattle.thrift_binary.specs.Wire.{IsLength, StopsLength, IsBody, StopsShort, StopsString}
use Rattle.thrift_binary.proofs.Reading.{reads_then, reads_weaker, fault_again}
use Rattle.thrift_binary.proofs.Strings.{string_is}
use Rattle.thrift_binary.proofs.reader.WireReader.string.Goals as goal

pub returns-in_err-n-clause-reads : goal.returns-in_err-n-clause-reads
returns-in_err-n-clause-reads g c =
    let p = err_from_is_err_and c.from_residual.result c.from_residual.ensures.1 in
    rw (p.1, p.2) (fault_again _ _ _ _ c.in_err-n.field-0.0 _ StopsString (λ s bytes h. inl h) c.in_err-n.ensures.reads)

pub returns-clause-reads : goal.returns-clause-reads
returns-clause-reads g c =
    reads_weaker _ _ _ _ c.body.result _ _ _ _ (λ v bytes h. string_is c.in_ok-n.n v.items bytes h) (λ f bytes h. h)
    (reads_then IsLength StopsLength (λ n v. IsBody n v.items) (λ n. StopsShort n) _ _ _ _ _ _ c.in_ok-n.n c.body.result c.in_ok-n.ensures.reads c.body.ensures.reads)
