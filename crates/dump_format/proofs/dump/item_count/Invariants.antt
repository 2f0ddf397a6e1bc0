use Rattle.std.proofs.Common.{◌≡◌, ◌+◌, drop}
use Rattle.dump_format.specs.Dumps.{item_count}
use Rattle.dump_format.proofs.dump.item_count.Given as goal

abbrev pub invariant-lines : goal.invariant-lines
invariant-lines l = item_count l.lines ≡ l.at + item_count (drop l.at l.lines)
