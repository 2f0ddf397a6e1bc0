use Rattle.filter_rules.proofs.Told.{filter_refused, filter_spells}
use Rattle.filter_rules.proofs.laws.filters_are_read.Goals as goal

pub returns : goal.returns
returns c = (filter_spells, filter_refused)
