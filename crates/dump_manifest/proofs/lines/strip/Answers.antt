use Rattle.dump_manifest.proofs.Words.{parted, unparted}
use Rattle.dump_manifest.proofs.lines.strip.Goals as goal

pub returns-in-Some : goal.returns-in-Some
returns-in-Some c = parted c.args.word.now c.args.text.now c.in-Some.rest.now c.in-Some.ensures.cases.0 c.in-Some.ensures.cases.1

pub returns-in-None : goal.returns-in-None
returns-in-None c = λ rest same. unparted c.args.word.now c.args.text.now rest c.in-None.ensures.cases same
