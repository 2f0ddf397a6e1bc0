use Rattle.dump_format.proofs.Once.{dump_once}
use Rattle.dump_format.proofs.laws.a_folder_tells_one_dump.Goals as goal

pub returns : goal.returns
returns c = dump_once
