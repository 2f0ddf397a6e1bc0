use Rattle.std.proofs.Common.{rules}
use Rattle.dump_manifest.specs.Manifests.{source_line}
use Rattle.dump_manifest.proofs.writing.put_source.Goals as goal

pub returns : goal.returns
unfolding source_line
returns c = search rules
