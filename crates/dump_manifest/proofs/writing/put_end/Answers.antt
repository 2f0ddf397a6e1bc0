use Rattle.std.proofs.Common.{rules}
use Rattle.dump_manifest.specs.Manifests.{end_line}
use Rattle.dump_manifest.proofs.writing.put_end.Goals as goal

pub returns : goal.returns
unfolding end_line
returns c = search rules
