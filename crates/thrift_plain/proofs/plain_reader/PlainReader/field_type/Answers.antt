use Rattle.std.proofs.Common.{refl, arith, inr}
use Rattle.thrift_binary.specs.Wire.{StopsFieldType}
use Rattle.thrift_plain.proofs.PlainTaking.{refused_bad}
use Rattle.thrift_plain.proofs.plain_reader.PlainReader.field_type.Goals as goal

pub returns : goal.returns
returns c =
    refused_bad _ _ 4 0 _ _ StopsFieldType (λ bytes h. inr (c.in_ok-ty.ty, h, c.if-ty-eq-STOP.false, (λ code. let e = c.if-is_code.ensures.1 code in cc), refl)) (omega arith) c.in_ok-ty.ensures
