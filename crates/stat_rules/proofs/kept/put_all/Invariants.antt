use Rattle.std.proofs.Common.{◌≡◌, drop}
use Rattle.stat_rules.specs.Records.{put_all}
use Rattle.stat_rules.proofs.kept.put_all.Given as goal

abbrev pub invariant-loop-object : goal.invariant-loop-object
invariant-loop-object l = put_all l.at l.kept (drop l.object-index l.objects) ≡ put_all l.at l.stats l.objects
