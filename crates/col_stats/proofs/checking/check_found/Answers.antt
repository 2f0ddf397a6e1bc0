use Rattle.std.proofs.Common.{rules}
use Rattle.col_stats.specs.Rules.{IsFirstBroken}
use Rattle.col_stats.proofs.Deciding.{fault_from_first}
use Rattle.col_stats.proofs.checking.check_found.Goals as goal

pub returns-clause-test : goal.returns-clause-test
returns-clause-test c = fault_from_first _ _ _ _ c.first_broken.ensures
