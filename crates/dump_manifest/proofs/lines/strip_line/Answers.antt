use Rattle.dump_manifest.proofs.Pieces.{line_lf}
use Rattle.dump_manifest.proofs.lines.strip_line.Goals as goal

pub returns-in-Some : goal.returns-in-Some
returns-in-Some c = line_lf c.args.line.now c.args.text.now c.in-Some.rest.now _ c.in-Some.ensures c.strip-in-Some.ensures
