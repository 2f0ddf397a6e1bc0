use Rattle.std.proofs.Common.{◌≡◌, ◌++◌, drop}
use Rattle.rulings.specs.Meant.{key_names}
use Rattle.stat_rules.proofs.part_calls.key_names.Given as goal

abbrev pub invariant-loop-key : goal.invariant-loop-key
invariant-loop-key l = l.names ++ key_names (drop l.key-index l.keys) ≡ key_names l.keys
