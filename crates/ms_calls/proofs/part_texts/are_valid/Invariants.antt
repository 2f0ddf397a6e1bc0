use Rattle.std.proofs.Common.{◌≡◌, drop}
use Rattle.std.specs.List.{list_all}
use Rattle.ms_calls.specs.Arguments.{is_valid_value}
use Rattle.ms_calls.proofs.part_texts.are_valid.Given as goal

-- whether all are valid is whether those that are left are
abbrev pub invariant-loop-value : goal.invariant-loop-value
invariant-loop-value l = list_all is_valid_value (drop l.value-index l.values) ≡ list_all is_valid_value l.values
