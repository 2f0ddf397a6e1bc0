use Rattle.ms_structs.proofs.Getting.{gets_skipped}
use Rattle.ms_structs.proofs.from_wire.skip_field.Goals as goal

pub returns-clause-reads : goal.returns-clause-reads
returns-clause-reads g c = gets_skipped _ _ _ _ _ _ _ c.skip.ensures.reads
