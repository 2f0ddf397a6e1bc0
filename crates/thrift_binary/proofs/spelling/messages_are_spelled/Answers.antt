use Rattle.thrift_binary.specs.Messages.{Asks, Replies}
use Rattle.thrift_binary.proofs.StrictSpelling.{text_spelled}
use Rattle.thrift_binary.proofs.spelling.messages_are_spelled.Goals as goal

pub returns-clause-asks : goal.returns-clause-asks
returns-clause-asks c = text_spelled Asks

pub returns-clause-replies : goal.returns-clause-replies
returns-clause-replies c = text_spelled Replies
