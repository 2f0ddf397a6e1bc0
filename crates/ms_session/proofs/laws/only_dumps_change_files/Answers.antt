use Rattle.ms_session.proofs.Opened.{only_dumps}
use Rattle.ms_session.proofs.laws.only_dumps_change_files.Goals as goal

pub returns : goal.returns
returns c = only_dumps
