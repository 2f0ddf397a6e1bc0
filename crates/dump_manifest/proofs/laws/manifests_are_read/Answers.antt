use Rattle.dump_manifest.proofs.Readings.{manifests_read}
use Rattle.dump_manifest.proofs.laws.manifests_are_read.Goals as goal

pub returns : goal.returns
returns c = manifests_read
