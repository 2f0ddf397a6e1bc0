use mir.Val.{SFits}
use Rattle.std.proofs.lemmas.Int.{to_z-of_z}
use Rattle.std.proofs.Common.{w32, rules}
use Rattle.std.proofs.lemmas.Result.{err_from_is_err_and}
use Rattle.thrift_binary.specs.Messages.{Asks, IsKind, IsKinded, StopsKind}
use Rattle.thrift_binary.specs.Wire.{IsInt, StopsShort}
use Rattle.thrift_plain.proofs.PlainTaking.{taken_then, fault_then, passed_at}
use Rattle.thrift_plain.proofs.plain_reader.PlainReader.kinded.Goals as goal

pub returns-in_err-sequence : goal.returns-in_err-sequence
returns-in_err-sequence c =
    let p = err_from_is_err_and c.from_residual-in_err-sequence.result c.from_residual-in_err-sequence.ensures.1 in
    rw (p.1, p.2) (fault_then (IsKind Asks) (StopsKind Asks) (λ _. IsInt) (λ _. StopsShort 4) _ _ c.in_ok-kind.kind _ c.in_ok-kind.ensures c.in_err-sequence.ensures)

pub returns : goal.returns
returns c =
    let fits : SFits w32 c.in_ok-sequence.sequence = search rules in
    passed_at _ _ _ c.in_ok-sequence.sequence (λ z. IsKinded Asks (c.in_ok-kind.kind, z)) (to_z-of_z w32 c.in_ok-sequence.sequence fits) (taken_then (IsKind Asks) (StopsKind Asks) (λ _. IsInt) (λ _. StopsShort 4) _ _ _ _ _ c.in_ok-kind.ensures c.in_ok-sequence.ensures)
