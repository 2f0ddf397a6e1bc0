use Rattle.part_names.proofs.RoundTrip.{names_read_back}
use Rattle.part_names.proofs.laws.names_read_back.Goals as goal

pub returns : goal.returns
returns c = names_read_back
