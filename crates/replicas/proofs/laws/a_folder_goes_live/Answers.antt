use Rattle.replicas.proofs.Folder.{goes_live}
use Rattle.replicas.proofs.laws.a_folder_goes_live.Goals as goal

pub returns : goal.returns
returns c = goes_live
