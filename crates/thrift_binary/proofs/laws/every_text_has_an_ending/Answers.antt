use Rattle.thrift_binary.specs.Messages.{Asks, Replies}
use Rattle.thrift_binary.proofs.BegunMessages.{has_an_ending, asks_told, replies_told}
use Rattle.thrift_binary.proofs.laws.every_text_has_an_ending.Goals as goal

pub returns : goal.returns
returns c = (has_an_ending Asks asks_told, has_an_ending Replies replies_told)
