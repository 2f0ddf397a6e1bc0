use Rattle.thrift_binary.proofs.Judging.{no_type}
use Rattle.thrift_binary.proofs.collections.field_type_of.Goals as goal

pub returns-clause-judged : goal.returns-clause-judged
returns-clause-judged c = no_type c.args.start c.args.bytes.now c.requires c.if-ty-eq-STOP.false (λ code. (let e = c.if-is_code.ensures.1 code in cc))
