use Rattle.dump_manifest.proofs.Tails.{named_event}
use Rattle.dump_manifest.proofs.files.take_event.Goals as goal

pub returns-then-has_items : goal.returns-then-has_items
returns-then-has_items c = named_event c.args.bootstrap c.args.items c.args.events c.args.text.now _ (c.has_items.ensures.0 c.if-has_items.true) c.take_named.ensures
