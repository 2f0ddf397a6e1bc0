use Rattle.std.proofs.Common.{◌≡◌, ◌++◌, take}
use Rattle.std.specs.List.{AllByRecursion, flat_map}
use Rattle.change_codec.proofs.writing.put_values.Given as goal

abbrev pub invariant-loop-value : goal.invariant-loop-value
invariant-loop-value g l =
    (l.out ≡ l.fn.out ++ flat_map g.T.Put.code (take l.value-index l.values)) × AllByRecursion g.T.Put.HasCode (take l.value-index l.values)
