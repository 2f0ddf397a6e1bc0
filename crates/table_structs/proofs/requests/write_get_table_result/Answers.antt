use Rattle.table_structs.specs.Requests.{result_written}
use Rattle.ms_structs.proofs.PiecesWritten.{struct_written, then_end, then_field}
use Rattle.table_structs.proofs.requests.write_get_table_result.Goals as goal

pub returns : goal.returns
returns c = struct_written c.stop.result (result_written c.args.value.now) _ _ (then_field c.in_ok-put_field.ensures (then_end c.stop.ensures))
