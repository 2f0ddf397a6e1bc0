use Rattle.std.proofs.Common.{sym}
use Rattle.dump_manifest.specs.Reading.{number_line}
use Rattle.dump_manifest.proofs.Pieces.{front_some, front_uncut, front_unread, number_lacks}
use Rattle.dump_manifest.proofs.lines.take_number.Goals as goal

pub returns-in-None : goal.returns-in-None
returns-in-None c = front_uncut (number_line c.args.word.now) c.args.text.now (number_lacks c.args.word.now c.requires) (sym c.in-None.ensures)

pub returns-in-None-read_number : goal.returns-in-None-read_number
returns-in-None-read_number c = front_unread (number_line c.args.word.now) c.args.text.now _ _ (number_lacks c.args.word.now c.requires) (sym c.in-Some.ensures) c.in-None-read_number.ensures

pub returns-in-Some-read_number : goal.returns-in-Some-read_number
returns-in-Some-read_number c = front_some (number_line c.args.word.now) c.args.text.now _ _ c.in-Some-read_number.n (sym c.in-Some.ensures) c.in-Some-read_number.ensures
