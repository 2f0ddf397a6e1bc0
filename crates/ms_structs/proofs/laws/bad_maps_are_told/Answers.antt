use Rattle.ms_structs.proofs.LastPairs.{bad_maps_are_told}
use Rattle.ms_structs.proofs.laws.bad_maps_are_told.Goals as goal

pub returns : goal.returns
returns c = bad_maps_are_told
