use Rattle.ms_structs.proofs.RoundTrip.{written_is_read}
use Rattle.ms_structs.proofs.laws.written_is_read.Goals as goal

pub returns : goal.returns
returns c = written_is_read
