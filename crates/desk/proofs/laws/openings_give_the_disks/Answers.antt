use Rattle.std.proofs.Common.{refl}
use Rattle.desk.proofs.Openings.{end_dumps, opened_durable}
use Rattle.desk.proofs.laws.openings_give_the_disks.Goals as goal

pub returns : goal.returns
returns c = record { nothing_found = λ p fault. refl; durable = opened_durable; no_dumps = end_dumps }
