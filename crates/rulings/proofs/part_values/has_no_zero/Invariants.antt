use Rattle.std.proofs.Common.{◌≡◌, ◌==◌, drop, not}
use Rattle.std.specs.List.{list_all}
use Rattle.rulings.proofs.part_values.has_no_zero.Given as goal

abbrev pub invariant-loop-byte : goal.invariant-loop-byte
invariant-loop-byte l = list_all (λ byte. not (byte == 0)) l.fn.bytes ≡ list_all (λ byte. not (byte == 0)) (drop l.byte-index l.fn.bytes)
