use Rattle.desk.proofs.Refused.{all_unsettled, only_unsettled}
use Rattle.desk.proofs.laws.openings_find_refused_steps.Goals as goal

pub returns : goal.returns
returns c = record { only = only_unsettled; all = all_unsettled }
