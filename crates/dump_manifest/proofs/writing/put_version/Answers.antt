use Rattle.std.proofs.Common.{rules}
use Rattle.dump_manifest.specs.Manifests.{version_line}
use Rattle.dump_manifest.proofs.writing.put_version.Goals as goal

pub returns : goal.returns
unfolding version_line
returns c = search rules
