use Rattle.std.proofs.Common.{codes}
use Rattle.dump_manifest.specs.Manifests.{db_line}
use Rattle.dump_manifest.specs.Pieces.{name_of}
use Rattle.dump_manifest.proofs.Pieces.{no_word_value, word_value}
use Rattle.dump_manifest.proofs.heads.read_db.Goals as goal

pub returns-in-None : goal.returns-in-None
unfolding db_line
returns-in-None c = no_word_value (codes "db ") name_of c.args.line.now c.in-None.ensures

pub returns-in-Some : goal.returns-in-Some
unfolding db_line
returns-in-Some c = word_value (codes "db ") name_of c.args.line.now c.in-Some.name.now _ c.in-Some.ensures c.read_name.ensures
