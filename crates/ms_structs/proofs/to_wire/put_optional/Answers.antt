use Rattle.ms_structs.proofs.PiecesWritten.{nothing_written}
use Rattle.ms_structs.proofs.to_wire.put_optional.Goals as goal

pub returns-in-None : goal.returns-in-None
returns-in-None g c = rw c.in-None.is (nothing_written c.args.id g.T.ToWire.CODE g.T.ToWire.tree c.args.writer.now)
