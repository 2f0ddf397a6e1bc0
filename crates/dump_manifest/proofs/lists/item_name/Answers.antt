use Rattle.std.proofs.Common.{rules}
use Rattle.dump_manifest.specs.Manifests.{item_name}
use Rattle.dump_manifest.proofs.lists.item_name.Goals as goal

pub returns : goal.returns
unfolding item_name
returns c = search rules
