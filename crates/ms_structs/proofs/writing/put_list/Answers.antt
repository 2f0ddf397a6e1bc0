use Rattle.std.proofs.Common.{refl}
use Rattle.ms_structs.proofs.PiecesWritten.{list_written}
use Rattle.ms_structs.proofs.writing.put_list.Goals as goal

pub returns : goal.returns
returns g c = list_written c.put_elements.result g.T.ToWire.CODE _ g.T.ToWire.tree c.args.items.now c.args.writer.now c.list.new.self c.put_elements.new.writer refl (rw c.CODE.ensures at c.in_ok-list.ensures) c.put_elements.ensures
