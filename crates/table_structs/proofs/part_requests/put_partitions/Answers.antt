use Rattle.std.proofs.Common.{pos}
use Rattle.thrift_binary.specs.Codes.{list_code, struct_code}
use Rattle.ms_structs.specs.Written.{items_tree}
use Rattle.ms_structs.proofs.PiecesWritten.{nothing_written}
use Rattle.table_structs.specs.Partitions.{partition_tree}
use Rattle.table_structs.proofs.part_requests.put_partitions.Goals as goal

-- absent ones
pub returns-in-None : goal.returns-in-None
returns-in-None c = rw c.in-None.is (nothing_written (pos 1) list_code (items_tree struct_code partition_tree) c.args.writer.now)
