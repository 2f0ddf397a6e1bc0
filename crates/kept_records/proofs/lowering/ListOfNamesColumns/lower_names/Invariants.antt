use Rattle.std.proofs.Common.{◌≡◌, map, take}
use Rattle.kept_records.proofs.lowering.ListOfNamesColumns.lower_names.Given as goal

abbrev pub invariant-loop-item : goal.invariant-loop-item
invariant-loop-item g l = l.made.items ≡ map g.T.NamesColumns.lowered (take l.item-index l.item-items)
