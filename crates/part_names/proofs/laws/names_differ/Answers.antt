use Rattle.part_names.proofs.RoundTrip.{names_differ}
use Rattle.part_names.proofs.laws.names_differ.Goals as goal

pub returns : goal.returns
returns c = names_differ
