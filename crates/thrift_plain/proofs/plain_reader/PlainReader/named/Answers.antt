use mir.Val.{SFits}
use Rattle.std.proofs.lemmas.Int.{to_z-of_z}
use Rattle.std.proofs.Common.{w32, rules, inl}
use Rattle.std.proofs.lemmas.Result.{err_from_is_err_and}
use Rattle.thrift_binary.specs.Messages.{IsNamed, IsName, StopsName, StopsNamed}
use Rattle.thrift_binary.specs.Wire.{IsInt, StopsShort}
use Rattle.thrift_plain.proofs.PlainTaking.{fault_weaker, taken_then, fault_then, passed_at}
use Rattle.thrift_plain.proofs.plain_reader.PlainReader.named.Goals as goal

pub returns-in_err-name : goal.returns-in_err-name
returns-in_err-name c =
    let p = err_from_is_err_and c.from_residual.result c.from_residual.ensures.1 in
    rw (p.1, p.2) (fault_weaker _ _ StopsName StopsNamed (λ s bytes h. inl h) c.in_err-name.ensures)

pub returns-in_err-sequence : goal.returns-in_err-sequence
returns-in_err-sequence c =
    let p = err_from_is_err_and c.from_residual-in_err-sequence.result c.from_residual-in_err-sequence.ensures.1 in
    rw (p.1, p.2) (fault_then IsName StopsName (λ _. IsInt) (λ _. StopsShort 4) _ _ c.in_ok-name.name _ c.in_ok-name.ensures c.in_err-sequence.ensures)

pub returns : goal.returns
returns c =
    let fits : SFits w32 c.in_ok-sequence.sequence = search rules in
    passed_at _ _ _ c.in_ok-sequence.sequence (λ z. IsNamed (c.in_ok-name.name, z)) (to_z-of_z w32 c.in_ok-sequence.sequence fits) (taken_then IsName StopsName (λ _. IsInt) (λ _. StopsShort 4) _ _ _ _ _ c.in_ok-name.ensures c.in_ok-sequence.ensures)
