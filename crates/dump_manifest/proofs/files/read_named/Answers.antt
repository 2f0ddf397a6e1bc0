use Rattle.std.proofs.Common.{decimal}
use Rattle.dump_manifest.specs.Pieces.{prefixed, spaced}
use Rattle.dump_manifest.proofs.Pieces.{word_value}
use Rattle.dump_manifest.proofs.files.read_named.Goals as goal

pub returns-in-Some : goal.returns-in-Some
returns-in-Some c = word_value c.args.word.now (prefixed (decimal c.args.number) spaced) c.args.line.now c.in-Some.rest.now _ c.in-Some.ensures c.read_numbered.ensures
