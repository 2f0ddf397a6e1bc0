use Rattle.replicas.proofs.Effects.{done_on_catalogues, replays_are_done}
use Rattle.replicas.proofs.store_laws.operations_are_done_on_catalogues.Goals as goal

pub returns : goal.returns
returns c = record { done = done_on_catalogues; replayed = replays_are_done }
