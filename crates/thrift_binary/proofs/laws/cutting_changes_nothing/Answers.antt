use Rattle.thrift_binary.specs.Messages.{Asks, Replies}
use Rattle.thrift_binary.proofs.OneText.{goes_on, cut_anywhere, stays_so}
use Rattle.thrift_binary.proofs.laws.cutting_changes_nothing.Goals as goal

pub returns : goal.returns
returns c = record { goes_on = (goes_on Asks, goes_on Replies); cut = (cut_anywhere Asks, cut_anywhere Replies); stays = (stays_so Asks, stays_so Replies) }
