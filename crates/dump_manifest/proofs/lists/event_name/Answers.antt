use Rattle.std.proofs.Common.{rules}
use Rattle.dump_manifest.specs.Manifests.{event_name}
use Rattle.dump_manifest.proofs.lists.event_name.Goals as goal

pub returns : goal.returns
unfolding event_name
returns c = search rules
