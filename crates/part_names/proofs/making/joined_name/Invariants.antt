use Rattle.std.proofs.Common.{◌≡◌}
use Rattle.std.specs.Iterator.Adapters.{zip_first, zip_second}
use Rattle.std.specs.Prelude.{string_bytes}
use Rattle.std.specs.Slice.Iter.{iter_rest}
use Rattle.part_names.specs.Making.{components_of, part_name}
use Rattle.part_names.proofs.Joining.{joined}
use Rattle.part_names.proofs.making.joined_name.Given as goal

abbrev pub invariant-loop-key : goal.invariant-loop-key
invariant-loop-key l = joined (string_bytes l.name) (components_of (iter_rest (zip_first l.key-iterator)) (iter_rest (zip_second l.key-iterator))) ≡ part_name l.keys l.values
