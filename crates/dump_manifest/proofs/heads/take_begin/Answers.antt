use Rattle.dump_manifest.specs.Manifests.{begin_line}
use Rattle.dump_manifest.proofs.heads.take_begin.Goals as goal

pub returns : goal.returns
unfolding begin_line
returns c = c.take_number.ensures
