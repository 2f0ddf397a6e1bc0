use Rattle.std.proofs.Common.{refl, inl, inr, ap}
use Rattle.std.proofs.lemmas.Result.{err_from_is_err_and}
use Rattle.thrift_binary.specs.Taking.{Bad}
use Rattle.thrift_binary.specs.Messages.{StopsName}
use Rattle.thrift_binary.proofs.Reading.{refused, fault_again}
use Rattle.thrift_binary.proofs.reader.WireReader.name.Goals as goal

pub returns-in_err-name-clause-reads : goal.returns-in_err-name-clause-reads
returns-in_err-name-clause-reads g c =
    let p = err_from_is_err_and c.from_residual.result c.from_residual.ensures.1 in
    rw (p.1, p.2) (fault_again _ _ _ _ c.in_err-name.field-0.0 _ StopsName (λ s bytes h. inl h) c.in_err-name.ensures.reads)

pub returns-in-None-clause-reads : goal.returns-in-None-clause-reads
returns-in-None-clause-reads g c =
    inl (refused _ _ _ _ _ _ _ _ _ (Bad 5 4) StopsName (rw c.in-None.is at c.in_ok-name.ensures.reads) (λ bytes h. inr (h, refl)) refl (ap g.S.Source.left c.spent.ensures.source) c.spent.ensures.same c.spent.ensures.kept)
