use Rattle.std.proofs.Common.{refl, arith, inr}
use Rattle.thrift_binary.specs.Messages.{StopsOldName}
use Rattle.thrift_plain.proofs.PlainTaking.{refused_bad}
use Rattle.thrift_plain.proofs.plain_reader.PlainReader.old_name.Goals as goal

pub returns-in-None : goal.returns-in-None
returns-in-None c =
    refused_bad _ _ 5 0 _ _ (StopsOldName c.args.n) (λ bytes h. inr (c.in_ok-body.body.now, h, (rw c.in-None.is at c.in_ok-name.ensures), refl)) (omega arith) c.in_ok-body.ensures
