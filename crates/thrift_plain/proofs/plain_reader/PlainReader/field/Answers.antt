use mir.Val.{SFits}
use Rattle.std.proofs.lemmas.Int.{to_z-of_z}
use Rattle.std.proofs.Common.{w16, Some, rules}
use Rattle.std.proofs.lemmas.Result.{err_from_is_err_and}
use Rattle.thrift_binary.specs.Wire.{IsField, IsFieldType, StopsFieldType, IsShort, StopsShort, Behind}
use Rattle.thrift_plain.proofs.PlainTaking.{taken_then, fault_then, passed_at}
use Rattle.thrift_plain.proofs.plain_reader.PlainReader.field.Goals as goal

pub returns-in_err-id-in-Some-clause-takes : goal.returns-in_err-id-in-Some-clause-takes
returns-in_err-id-in-Some-clause-takes c =
    let p = err_from_is_err_and c.from_residual-in_err-id-in-Some.result c.from_residual-in_err-id-in-Some.ensures.1 in
    rw (p.1, p.2) (fault_then IsFieldType StopsFieldType (λ _. IsShort) (Behind (λ _. StopsShort 2)) _ _ (Some c.in-Some.ty) _ (rw c.in-Some.is at c.in_ok-field_type.ensures) c.in_err-id-in-Some.ensures)

pub returns-in_ok-id-in-Some-clause-takes : goal.returns-in_ok-id-in-Some-clause-takes
returns-in_ok-id-in-Some-clause-takes c =
    let fits : SFits w16 c.in_ok-id-in-Some.id = search rules in
    passed_at _ _ _ c.in_ok-id-in-Some.id (λ z. IsField (Some (c.in-Some.ty, z))) (to_z-of_z w16 c.in_ok-id-in-Some.id fits) (taken_then IsFieldType StopsFieldType (λ _. IsShort) (Behind (λ _. StopsShort 2)) _ _ _ (Some c.in-Some.ty) c.in_ok-id-in-Some.id (rw c.in-Some.is at c.in_ok-field_type.ensures) c.in_ok-id-in-Some.ensures)
