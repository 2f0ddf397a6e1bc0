use Rattle.dump_manifest.proofs.Readings.{manifests_one}
use Rattle.dump_manifest.proofs.laws.manifests_differ.Goals as goal

pub returns : goal.returns
returns c = manifests_one
