use Rattle.server_cli.proofs.Stores.{none_of_faults}
use Rattle.server_cli.proofs.laws.store_faults_are_counted.Goals as goal

pub returns : goal.returns
returns c = none_of_faults
