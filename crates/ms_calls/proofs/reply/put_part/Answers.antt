use Rattle.table_structs.specs.Partitions.{partition_tree}
use Rattle.ms_calls.proofs.UnderZero.{tree_written}
use Rattle.ms_calls.proofs.reply.put_part.Goals as goal

pub returns : goal.returns
returns c = tree_written c.write_partition.result c.args.writer.now c.field.new.self c.write_partition.new.writer 12 (partition_tree c.args.part.now) c.in_ok-field.ensures c.write_partition.ensures
