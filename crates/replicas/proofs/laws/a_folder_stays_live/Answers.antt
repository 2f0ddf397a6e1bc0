use Rattle.replicas.proofs.Folder.{stays_live}
use Rattle.replicas.proofs.laws.a_folder_stays_live.Goals as goal

pub returns : goal.returns
returns c = stays_live
