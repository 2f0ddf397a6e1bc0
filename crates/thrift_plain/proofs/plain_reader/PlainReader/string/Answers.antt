use Rattle.thrift_plain.proofs.PlainHeads.{string_taken}
use Rattle.thrift_plain.proofs.plain_reader.PlainReader.string.Goals as goal

pub returns : goal.returns
returns c =
    string_taken (λ v. v.now) _ _ _ _ _ c.in_ok-n.ensures c.take.ensures
