use Rattle.ms_structs.proofs.DatabaseSaid.{database_is_said}
use Rattle.ms_structs.proofs.laws.database_is_said.Goals as goal

pub returns : goal.returns
returns c = database_is_said
