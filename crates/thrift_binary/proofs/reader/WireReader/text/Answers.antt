use Rattle.thrift_binary.proofs.Reading.{Took-weaker}
use Rattle.thrift_binary.proofs.Strings.{text_is}
use Rattle.thrift_binary.proofs.reader.WireReader.text.Goals as goal

pub returns-clause-reads : goal.returns-clause-reads
returns-clause-reads g c =
    Took-weaker _ _ _ _ _ _ (λ bytes h. text_is c.from_utf8.result c.in_ok-bytes.bytes.items bytes c.from_utf8.ensures.same c.from_utf8.ensures.utf8 c.from_utf8.ensures.none h) c.in_ok-bytes.ensures.reads
