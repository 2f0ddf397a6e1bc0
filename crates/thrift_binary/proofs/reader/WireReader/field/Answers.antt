use Rattle.std.proofs.Common.{Err, Some, rules, w16}
use mir.Val.{SFits}
use Rattle.std.proofs.lemmas.Result.{err_from_is_err_and}
use Rattle.thrift_binary.specs.Wire.{Behind, IsFieldType, StopsFieldType, IsShort, StopsShort, StopsField}
use Rattle.thrift_binary.proofs.Reading.{reads_then, fault_again}
use Rattle.thrift_binary.proofs.Judging.{field_read}
use Rattle.thrift_binary.proofs.reader.WireReader.field.Goals as goal

pub returns-in_err-id-clause-reads : goal.returns-in_err-id-clause-reads
returns-in_err-id-clause-reads g c =
    let p = err_from_is_err_and c.from_residual-in_err-id.result c.from_residual-in_err-id.ensures.1 in
    rw (p.1, p.2) (fault_again _ _ _ _ c.in_err-id.field-0.0 _ StopsField (λ s bytes h. h)
    (reads_then IsFieldType StopsFieldType (λ _. IsShort) (Behind (λ _. StopsShort 2)) _ _ _ _ _ _ (Some c.in-Some.ty) (Err c.in_err-id.field-0.0) (rw c.in-Some.is at c.in_ok-ty.ensures.reads) c.in_err-id.ensures.reads))

pub returns-clause-reads : goal.returns-clause-reads
returns-clause-reads g c =
    let fits : SFits w16 c.in_ok-id.id = search rules in
    field_read _ _ _ _ _ _ c.in-Some.ty c.in_ok-id.id fits (rw c.in-Some.is at c.in_ok-ty.ensures.reads) c.in_ok-id.ensures.reads
