use Rattle.dump_manifest.proofs.Folders.{dirs_differ}
use Rattle.dump_manifest.proofs.laws.dirs_differ.Goals as goal

pub returns : goal.returns
returns c = dirs_differ
