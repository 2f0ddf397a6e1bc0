use Rattle.std.proofs.Common.{◌≡◌, ◌++◌, filter}
use Rattle.kept_records.specs.Tables.{keeps_column, kept_stats}
use Rattle.kept_records.proofs.statistics.kept_stats.Given as goal

abbrev pub invariant-loop-name : goal.invariant-loop-name
invariant-loop-name l = l.kept ++ kept_stats l.old l.new l.name-iterator ≡ kept_stats l.old l.new l.stats
