use Rattle.std.proofs.Common.{◌++◌}
use Rattle.thrift_binary.specs.Strict.{wire_bytes}
use Rattle.ms_structs.proofs.PiecesWritten.{SomeOf}
use Rattle.ms_structs.proofs.writing.put_pairs.Given as goal

abbrev pub invariant-loop-key : goal.invariant-loop-key
invariant-loop-key g l = SomeOf (λ pair. wire_bytes g.K.ToWire.CODE (g.K.ToWire.tree pair.0) ++ wire_bytes g.V.ToWire.CODE (g.V.ToWire.tree pair.1)) l.pairs l.key-iterator l.fn.writer l.writer
