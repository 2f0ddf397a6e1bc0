use Rattle.thrift_binary.specs.Messages.{Asks, Replies}
use Rattle.thrift_binary.proofs.OneText.{reads_one_way}
use Rattle.thrift_binary.proofs.laws.a_text_reads_one_way.Goals as goal

pub returns : goal.returns
returns c = (reads_one_way Asks, reads_one_way Replies)
