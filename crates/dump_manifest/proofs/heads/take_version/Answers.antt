use Rattle.dump_manifest.specs.Manifests.{version_line}
use Rattle.dump_manifest.proofs.heads.take_version.Goals as goal

pub returns : goal.returns
unfolding version_line
returns c = c.strip_line.ensures
