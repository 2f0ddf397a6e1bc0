use Rattle.std.proofs.Common.{◌∙◌}
use Rattle.ms_structs.proofs.Getting.{gets_weaker}
use Rattle.ms_calls.proofs.Filled.{five_filled}
use Rattle.ms_calls.proofs.slots.FiveShape.read.Goals as goal

pub returns-clause-reads : goal.returns-clause-reads
returns-clause-reads g c = gets_weaker _ _ _ _ _ _ _ _ _ (λ v slots says. says ∙ five_filled g.A.FromWire.CODE g.A.FromWire.means g.B.FromWire.CODE g.B.FromWire.means g.C.FromWire.CODE g.C.FromWire.means g.D.FromWire.CODE g.D.FromWire.means g.E.FromWire.CODE g.E.FromWire.means v) c.read_slots.ensures.reads
