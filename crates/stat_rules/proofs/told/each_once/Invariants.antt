use Rattle.std.proofs.Common.{◌≡◌, ◌++◌, [], drop, map}
use Rattle.cat_values.specs.Names.{lower}
use Rattle.stat_rules.specs.Records.{first_asked}
use Rattle.stat_rules.proofs.told.each_once.Given as goal

abbrev pub invariant-loop-name : goal.invariant-loop-name
invariant-loop-name l = l.once ++ first_asked l.asked.keys (map lower (drop l.name-index l.names)) ≡ first_asked [] (map lower l.names)
