use Rattle.std.proofs.Common.{◌≡◌, ◌≤◌, ◌++◌, length, map}
use Rattle.dump_steps.specs.Pieces.{part_item}
use Rattle.dump_steps.proofs.pieces.told_parts.Given as goal

abbrev pub invariant-loop-values : goal.invariant-loop-values
invariant-loop-values l = record {
  told : l.parts ++ map (part_item l.newest l.table l.born) l.values-iterator ≡ map (part_item l.newest l.table l.born) l.fn.entries;
  few : length l.parts ≤ 64;
}
