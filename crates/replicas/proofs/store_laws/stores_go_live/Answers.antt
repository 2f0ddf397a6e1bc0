use Rattle.replicas.proofs.Stores.{go_live}
use Rattle.replicas.proofs.store_laws.stores_go_live.Goals as goal

pub returns : goal.returns
returns c = go_live
