use Rattle.change_codec.specs.Records.{newest}
use Rattle.change_codec.proofs.Steady.{item-steady}
use Rattle.dump_files.proofs.Turns.{comes}
use Rattle.dump_files.proofs.items.ItemJudged.next.Goals as goal

pub returns-in-Ok : goal.returns-in-Ok
returns-in-Ok c = comes _ (item-steady newest) c.args.bytes.now c.args.at c.requires c.in-Ok.found c.in-Ok.ensures.exact
