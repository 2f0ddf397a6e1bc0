use Rattle.std.proofs.Common.{rules}
use Rattle.dump_manifest.specs.Manifests.{done_line}
use Rattle.dump_manifest.proofs.writing.put_done.Goals as goal

pub returns : goal.returns
unfolding done_line
returns c = search rules
