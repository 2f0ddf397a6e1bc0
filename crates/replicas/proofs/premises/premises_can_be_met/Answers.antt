use Rattle.replicas.proofs.Example.{goes_live, is_dumped, is_history}
use Rattle.replicas.proofs.premises.premises_can_be_met.Goals as goal

pub returns : goal.returns
returns c = record { history = is_history; dumped = is_dumped; live = goes_live }
