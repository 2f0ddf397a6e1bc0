use Rattle.std.proofs.Common.{length, refl, ap, arith, inr}
use Rattle.thrift_binary.specs.Messages.{StopsName}
use Rattle.thrift_plain.proofs.PlainTaking.{refused_bad, at_least}
use Rattle.thrift_plain.proofs.plain_reader.PlainReader.name.Goals as goal

pub returns-in-None : goal.returns-in-None
returns-in-None c =
    refused_bad _ _ 5 4 _ _ StopsName (λ bytes h. inr ((c.in_ok-body.body.now, h, (rw c.in-None.is at c.in_ok-name.ensures)), refl)) (omega (arith, at_least _ _ 4 _ (λ bytes h. omega (arith, ap length h.0)) c.in_ok-body.ensures)) c.in_ok-body.ensures
