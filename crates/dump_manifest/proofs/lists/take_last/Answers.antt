use Rattle.dump_manifest.specs.Manifests.{done_line}
use Rattle.dump_manifest.proofs.lists.take_last.Goals as goal

pub returns : goal.returns
unfolding done_line
returns c = c.strip_line.ensures
