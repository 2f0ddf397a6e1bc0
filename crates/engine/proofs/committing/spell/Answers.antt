use Rattle.change_codec.specs.declared.version.Version.TheVariants.{One}
use Rattle.engine.proofs.Spelling.{spelled_entry}
use Rattle.engine.proofs.committing.spell.Goals as goal

pub returns : goal.returns
returns c = spelled_entry c.args.entry.now c.new-payload.result c.put_entry.new.out (c.each_is_read_again.ensures.entry One) c.in_ok-put_entry.ensures.fits c.new-payload.ensures c.in_ok-put_entry.ensures.gathers
