use Rattle.std.proofs.Common.{rules}
use Rattle.dump_manifest.specs.Manifests.{begin_line}
use Rattle.dump_manifest.proofs.writing.put_begin.Goals as goal

pub returns : goal.returns
unfolding begin_line
returns c = search rules
