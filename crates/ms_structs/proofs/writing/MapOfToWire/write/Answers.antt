use Rattle.ms_structs.proofs.PiecesWritten.{map_written}
use Rattle.ms_structs.proofs.writing.MapOfToWire.write.Goals as goal

pub returns : goal.returns
returns g c = map_written c.put_pairs.result g.K.ToWire.CODE g.V.ToWire.CODE _ g.K.ToWire.tree g.V.ToWire.tree c.args.value.now c.args.writer.now c.map.new.self c.put_pairs.new.writer c.len.ensures.count (rw (c.CODE.ensures, c.CODE-2.ensures) at c.in_ok-map.ensures) c.put_pairs.ensures
