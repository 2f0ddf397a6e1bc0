use Rattle.replicas.proofs.Stores.{stay_live}
use Rattle.replicas.proofs.store_laws.stores_stay_live.Goals as goal

pub returns : goal.returns
returns c = stay_live
