use Rattle.std.proofs.Common.{arith, ◌-◌}
use Rattle.cat_values.specs.declared.list_of.TheConstants.{LIST_END}
use Rattle.change_codec.proofs.Places.{count-steady}
use Rattle.dump_files.proofs.Turns.{comes}
use Rattle.dump_files.proofs.reading.count_of.Goals as goal

pub returns-in-Ok : goal.returns-in-Ok
returns-in-Ok c = comes _ (count-steady (LIST_END - 1)) c.args.bytes.now 0 (omega arith) c.in-Ok.count c.in-Ok.ensures
