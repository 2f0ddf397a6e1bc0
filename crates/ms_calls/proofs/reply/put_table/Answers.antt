use Rattle.table_structs.specs.Tables.{table_tree}
use Rattle.ms_calls.proofs.UnderZero.{tree_written}
use Rattle.ms_calls.proofs.reply.put_table.Goals as goal

pub returns : goal.returns
returns c = tree_written c.write_table.result c.args.writer.now c.field.new.self c.write_table.new.writer 12 (table_tree c.args.table.now) c.in_ok-field.ensures c.write_table.ensures
