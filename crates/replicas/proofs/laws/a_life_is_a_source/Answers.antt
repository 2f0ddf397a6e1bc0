use Rattle.replicas.proofs.WholeFolders.{are_sources}
use Rattle.replicas.proofs.laws.a_life_is_a_source.Goals as goal

pub returns : goal.returns
returns c = are_sources
