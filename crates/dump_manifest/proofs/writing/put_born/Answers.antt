use Rattle.std.proofs.Common.{rules}
use Rattle.dump_manifest.specs.Manifests.{born_line}
use Rattle.dump_manifest.proofs.writing.put_born.Goals as goal

pub returns : goal.returns
unfolding born_line
returns c = search rules
