use Rattle.ms_structs.proofs.Getting.{gets_unspent}
use Rattle.ms_calls.proofs.CanBeReplied.{read_fits, fits_plain, fits_client, fits_own}
use Rattle.ms_calls.proofs.asking.asked_by.Goals as goal

pub returns-clause-unspent : goal.returns-clause-unspent
returns-clause-unspent g c = gets_unspent _ _ _ _ c.read_asked.result _ _ _ c.read_asked.ensures.reads

pub returns-clause-plain : goal.returns-clause-plain
returns-clause-plain g c = fits_plain _ c.read_asked.result (read_fits _ _ _ _ _ c.read_asked.result _ _ c.read_asked.ensures.reads)

pub returns-clause-client : goal.returns-clause-client
returns-clause-client g c = fits_client _ c.read_asked.result (read_fits _ _ _ _ _ c.read_asked.result _ _ c.read_asked.ensures.reads)

pub returns-clause-own : goal.returns-clause-own
returns-clause-own g c = fits_own _ c.read_asked.result (read_fits _ _ _ _ _ c.read_asked.result _ _ c.read_asked.ensures.reads)
