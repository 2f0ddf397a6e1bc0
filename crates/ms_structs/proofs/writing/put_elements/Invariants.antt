use Rattle.std.proofs.Common.{◌≡◌, ◌++◌, take}
use Rattle.std.specs.List.{flat_map}
use Rattle.thrift_binary.specs.Strict.{wire_bytes}
use Rattle.ms_structs.proofs.writing.put_elements.Given as goal

abbrev pub invariant-loop-item : goal.invariant-loop-item
invariant-loop-item g l = l.writer ≡ l.fn.writer ++ flat_map (λ item. wire_bytes g.T.ToWire.CODE (g.T.ToWire.tree item)) (take l.item-index l.items)
