use Rattle.thrift_binary.specs.Messages.{KindsOf}
use Rattle.thrift_binary.proofs.Openers.{other_kind}
use Rattle.thrift_binary.proofs.heads.kind_of.Goals as goal

pub returns : goal.returns
returns c = other_kind (KindsOf c.args.direction) c.args.start c.args.bytes.now c.requires (λ is. (let e = c.if-is_kind.ensures.1 is in cc))
