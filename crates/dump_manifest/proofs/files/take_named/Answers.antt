use Rattle.std.proofs.Common.{sym}
use Rattle.dump_manifest.specs.Pieces.{named}
use Rattle.dump_manifest.proofs.Tails.{named_lacks}
use Rattle.dump_manifest.proofs.Pieces.{front_some, front_uncut, front_unread}
use Rattle.dump_manifest.proofs.files.take_named.Goals as goal

pub returns-in-None : goal.returns-in-None
returns-in-None c = front_uncut (named c.args.word.now c.args.number) c.args.text.now (named_lacks c.args.word.now c.args.number c.requires c.ranges.number.fits) (sym c.in-None.ensures)

pub returns-in-None-read_named : goal.returns-in-None-read_named
returns-in-None-read_named c = front_unread (named c.args.word.now c.args.number) c.args.text.now _ _ (named_lacks c.args.word.now c.args.number c.requires c.ranges.number.fits) (sym c.in-Some.ensures) c.in-None-read_named.ensures

pub returns-in-Some-read_named : goal.returns-in-Some-read_named
returns-in-Some-read_named c = front_some (named c.args.word.now c.args.number) c.args.text.now _ _ c.in-Some-read_named.tail (sym c.in-Some.ensures) c.in-Some-read_named.ensures
