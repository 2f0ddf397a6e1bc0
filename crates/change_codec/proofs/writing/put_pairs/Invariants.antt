use Rattle.change_codec.proofs.Pairs.{Written}
use Rattle.change_codec.proofs.writing.put_pairs.Given as goal

abbrev pub invariant-loop-key : goal.invariant-loop-key
invariant-loop-key g l = Written g.K.Put.HasCode g.V.Put.HasCode g.K.Put.code g.V.Put.code l.fn.out l.out l.key-iterator l.map
