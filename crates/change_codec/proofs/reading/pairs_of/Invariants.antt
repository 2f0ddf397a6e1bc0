use Rattle.change_codec.proofs.Rising.{SoFar}
use Rattle.change_codec.proofs.reading.pairs_of.Given as goal

abbrev pub invariant-loop : goal.invariant-loop
invariant-loop g l = SoFar g.K.Ord.cmp g.met.K.Ord.total (g.K.Get.read l.version) (g.V.Get.read l.version) l.count l.counter l.pairs l.rest l.bytes
