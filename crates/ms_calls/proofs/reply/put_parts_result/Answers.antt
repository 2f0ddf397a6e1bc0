use Rattle.std.specs.Option.{option_copied}
use Rattle.table_structs.specs.PartRequests.{partitions_result}
use Rattle.ms_calls.proofs.UnderZero.{tree_written}
use Rattle.ms_calls.proofs.reply.put_parts_result.Goals as goal

pub returns : goal.returns
returns c = tree_written c.write_add_partitions_result.result c.args.writer.now c.field.new.self c.write_add_partitions_result.new.writer 12 (partitions_result (option_copied c.args.parts)) c.in_ok-field.ensures c.write_add_partitions_result.ensures
