use Rattle.table_structs.proofs.ColumnLaws.{columns_read_back}
use Rattle.table_structs.proofs.OrderLaws.{orders_read_back}
use Rattle.table_structs.proofs.PartitionLaws.{partitions_read_back}
use Rattle.table_structs.proofs.SerdeLaws.{serdes_read_back}
use Rattle.table_structs.proofs.SkewLaws.{skews_read_back}
use Rattle.table_structs.proofs.StorageLaws.{storages_read_back}
use Rattle.table_structs.proofs.TableLaws.{tables_read_back}
use Rattle.table_structs.proofs.laws.written_is_read.Goals as goal

pub returns : goal.returns
returns c = record { columns = columns_read_back; orders = orders_read_back; serdes = serdes_read_back; skews = skews_read_back; storages = storages_read_back; tables = tables_read_back; partitions = partitions_read_back }
