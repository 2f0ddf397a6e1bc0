use Rattle.dump_manifest.specs.Manifests.{kind_line}
use Rattle.dump_manifest.proofs.Places.{kind_none}
use Rattle.dump_manifest.proofs.heads.take_kind.Goals as goal

pub returns-in-Some : goal.returns-in-Some
unfolding kind_line
returns-in-Some c = (tt, c.in-Some.ensures)

pub returns-in-Some-strip_line : goal.returns-in-Some-strip_line
unfolding kind_line
returns-in-Some-strip_line c = (tt, c.in-Some-strip_line.ensures)

pub returns-in-None-strip_line : goal.returns-in-None-strip_line
returns-in-None-strip_line c = kind_none c.args.text.now c.in-None.ensures c.in-None-strip_line.ensures
