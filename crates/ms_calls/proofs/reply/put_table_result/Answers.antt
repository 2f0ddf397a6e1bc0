use Rattle.table_structs.specs.Requests.{table_result}
use Rattle.ms_calls.proofs.UnderZero.{tree_written}
use Rattle.ms_calls.proofs.reply.put_table_result.Goals as goal

pub returns : goal.returns
returns c = tree_written c.write_get_table_result.result c.args.writer.now c.field.new.self c.write_get_table_result.new.writer 12 (table_result c.args.table.now) c.in_ok-field.ensures c.write_get_table_result.ensures
