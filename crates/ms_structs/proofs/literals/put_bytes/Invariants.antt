use Rattle.std.proofs.Common.{◌≡◌, ◌++◌, take}
use Rattle.ms_structs.proofs.literals.put_bytes.Given as goal

abbrev pub invariant-loop-byte : goal.invariant-loop-byte
invariant-loop-byte l = l.writer ≡ l.fn.writer ++ take l.byte-index l.bytes
