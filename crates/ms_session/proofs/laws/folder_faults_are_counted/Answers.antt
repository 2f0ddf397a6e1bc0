use Rattle.ms_session.proofs.FolderFaults.{counted}
use Rattle.ms_session.proofs.laws.folder_faults_are_counted.Goals as goal

pub returns : goal.returns
returns c = counted
