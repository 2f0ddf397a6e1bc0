use Rattle.std.proofs.Common.{◌≡◌, drop}
use Rattle.stat_rules.specs.Records.{takes_all}
use Rattle.stat_rules.proofs.taking.takes_all.Given as goal

abbrev pub invariant-loop-object : goal.invariant-loop-object
invariant-loop-object l = takes_all l.rec (drop l.object-index l.objects) ≡ takes_all l.rec l.objects
