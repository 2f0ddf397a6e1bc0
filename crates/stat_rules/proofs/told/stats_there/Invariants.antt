use Rattle.std.proofs.Common.{◌≡◌, ◌++◌, drop}
use Rattle.stat_rules.specs.Records.{stats_there}
use Rattle.stat_rules.proofs.told.stats_there.Given as goal

abbrev pub invariant-loop-name : goal.invariant-loop-name
invariant-loop-name l = l.told ++ stats_there l.rec.stats l.rec.sd.cols (drop l.name-index l.names) ≡ stats_there l.rec.stats l.rec.sd.cols l.names
