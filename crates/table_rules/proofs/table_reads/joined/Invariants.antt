use Rattle.std.proofs.Common.{◌≡◌, ◌++◌, drop}
use Rattle.table_rules.proofs.table_reads.joined.Given as goal

abbrev pub invariant-loop-column : goal.invariant-loop-column
invariant-loop-column l = l.columns ++ drop l.column-index l.last ≡ l.first ++ l.last
