use Rattle.std.proofs.Common.{rules}
use Rattle.dump_manifest.specs.Manifests.{dump_line}
use Rattle.dump_manifest.proofs.writing.put_dump.Goals as goal

pub returns : goal.returns
unfolding dump_line
returns c = search rules
