use Rattle.ms_structs.proofs.LastPairs.{last_pair_counts}
use Rattle.ms_structs.proofs.laws.last_pair_counts.Goals as goal

pub returns : goal.returns
returns c = last_pair_counts
