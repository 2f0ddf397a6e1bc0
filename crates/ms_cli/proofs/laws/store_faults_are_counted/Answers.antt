use Rattle.ms_cli.proofs.Counting.{counted}
use Rattle.ms_cli.proofs.laws.store_faults_are_counted.Goals as goal

pub returns : goal.returns
returns c start entries old new later closed quiet = counted start entries old new later closed quiet
