use Rattle.std.proofs.Common.{◌≡◌, drop}
use Rattle.std.specs.List.{list_all}
use Rattle.cat_objects.specs.Changes.{is_valid_value}
use Rattle.rulings.proofs.part_values.are_valid.Given as goal

abbrev pub invariant-loop-value : goal.invariant-loop-value
invariant-loop-value l = list_all is_valid_value (drop l.value-index l.values) ≡ list_all is_valid_value l.values
