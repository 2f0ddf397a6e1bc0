use Rattle.thrift_binary.specs.Messages.{Asks, Replies}
use Rattle.thrift_binary.proofs.OneText.{message_begins_no_other}
use Rattle.thrift_binary.proofs.OneTree.{one_wire}
use Rattle.thrift_binary.proofs.laws.no_spelling_begins_another.Goals as goal

pub returns : goal.returns
returns c = record { values = (λ v w depth other ty x more p q. one_wire depth other ty v w x more p q); messages = (message_begins_no_other Asks, message_begins_no_other Replies) }
