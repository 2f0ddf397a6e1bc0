use Rattle.std.proofs.Common.{refl}
use Rattle.ms_cli.proofs.Reading.{no_dump}
use Rattle.ms_cli.proofs.words.dump_of.Goals as goal

pub returns-in-None : goal.returns-in-None
returns-in-None c = no_dump _ _ (c.in-None.ensures.none refl)
