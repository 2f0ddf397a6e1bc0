use Rattle.dump_manifest.specs.Manifests.{born_line}
use Rattle.dump_manifest.proofs.heads.take_born.Goals as goal

pub returns : goal.returns
unfolding born_line
returns c = c.take_number.ensures
