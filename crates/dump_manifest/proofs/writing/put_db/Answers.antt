use Rattle.std.proofs.Common.{rules}
use Rattle.dump_manifest.specs.Manifests.{db_line}
use Rattle.dump_manifest.proofs.writing.put_db.Goals as goal

pub returns : goal.returns
unfolding db_line
returns c = search rules
