use Rattle.table_structs.proofs.ColumnLaws.{column_order}
use Rattle.table_structs.proofs.OrderLaws.{order_order}
use Rattle.table_structs.proofs.SerdeLaws.{serde_order}
use Rattle.table_structs.proofs.SkewLaws.{skew_order}
use Rattle.table_structs.proofs.StorageLaws.{storage_order}
use Rattle.table_structs.proofs.TableLaws.{table_order}
use Rattle.table_structs.proofs.ContextLaws.{context_order}
use Rattle.table_structs.proofs.RequestLaws.{request_order}
use Rattle.table_structs.proofs.PartitionLaws.{partition_order}
use Rattle.table_structs.proofs.PartRequestLaws.{adding_order}
use Rattle.table_structs.proofs.laws.order_is_free.Goals as goal

pub returns : goal.returns
returns c = record { columns = column_order; orders = order_order; serdes = serde_order; skews = skew_order; storages = storage_order; tables = table_order; contexts = context_order; requests = request_order; partitions = partition_order; adding = adding_order }
