use Rattle.dump_manifest.proofs.Tails.{named_item}
use Rattle.dump_manifest.proofs.files.take_item.Goals as goal

pub returns-then-events-eq0 : goal.returns-then-events-eq0
returns-then-events-eq0 c = named_item c.args.bootstrap c.args.items c.args.events c.args.text.now _ c.if-bootstrap.true c.if-events-eq0.true c.take_named.ensures
