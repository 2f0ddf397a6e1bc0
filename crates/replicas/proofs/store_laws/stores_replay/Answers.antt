use Rattle.replicas.proofs.Stores.{stores_replay}
use Rattle.replicas.proofs.store_laws.stores_replay.Goals as goal

pub returns : goal.returns
returns c = stores_replay
