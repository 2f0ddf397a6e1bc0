use Rattle.repl_dump.proofs.NotOpen.{dumps_open}
use Rattle.repl_dump.proofs.laws.dumps_stay_open.Goals as goal

pub returns : goal.returns
returns c = dumps_open
