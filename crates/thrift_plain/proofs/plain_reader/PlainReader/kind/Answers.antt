use Rattle.std.proofs.Common.{refl, arith, inr}
use Rattle.thrift_binary.specs.Messages.{Asks, StopsKind}
use Rattle.thrift_plain.proofs.PlainTaking.{refused_bad}
use Rattle.thrift_plain.proofs.plain_reader.PlainReader.kind.Goals as goal

pub returns : goal.returns
returns c =
    refused_bad _ _ 2 0 _ _ (StopsKind Asks) (λ bytes h. inr (c.in_ok-kind.kind, h, (λ asks. let e = c.if-asks.ensures.1 asks in cc), refl)) (omega arith) c.in_ok-kind.ensures
