use Rattle.std.proofs.Common.{◌≡◌, ◌++◌, map, drop}
use Rattle.cat_values.specs.Names.{lower}
use Rattle.table_rules.specs.Tables.{first_asked, tables_named, tables_there}
use Rattle.table_rules.proofs.table_reads.tables_named.Given as goal

abbrev pub invariant-loop-name : goal.invariant-loop-name
invariant-loop-name l = l.tables ++ tables_there l.cat l.db (first_asked l.asked.keys (map lower (drop l.name-index l.names))) ≡ tables_named l.cat l.db l.names
