-- Which calls are polls.
use Rattle.std.specs.Prelude.{Option, None, Some}
use Rattle.cat_types.specs.declared.calls.Call.{Call}
use Rattle.cat_types.specs.declared.calls.Call.TheVariants.{AddPartition, AddPartitions, AddPartitionsReq, AlterDatabase, AlterPartition, AlterPartitions, AlterTable, AppendPartition, AppendPartitionByName, CreateDatabase, CreateTable, DeletePartitionColumnStatistics, DeleteTableColumnStatistics, DropDatabase, DropPartition, DropPartitionByName, DropTable, GetAllDatabases, GetAllTables, GetCurrentNotificationEventId, GetDatabase, GetDatabases, GetFields, GetNextNotification, GetNumPartitionsByFilter, GetPartition, GetPartitionByName, GetPartitionColumnStatistics, GetPartitionNames, GetPartitionNamesPs, GetPartitions, GetPartitionsByFilter, GetPartitionsByNames, GetPartitionsPs, GetSchema, GetTable, GetTableColumnStatistics, GetTableObjectsByName, GetTableReq, GetTableStatisticsReq, GetTables, RenamePartition, UpdatePartitionColumnStatistics, UpdateTableColumnStatistics}
use Rattle.catalogue.specs.declared.poll.Poll.{Poll}
use Rattle.catalogue.specs.declared.poll.Poll.TheVariants.{After, Newest}

-- the poll that a call is, where it is one; a store answers it from its kept events
abbrev pub poll_of : Call → Option Poll
poll_of GetAllDatabases = None
poll_of (GetDatabase name) = None
poll_of (CreateDatabase db) = None
poll_of (DropDatabase name cascade) = None
poll_of (GetDatabases pattern) = None
poll_of (AlterDatabase name db) = None
poll_of (CreateTable new) = None
poll_of (DropTable db name) = None
poll_of (GetTables db pattern) = None
poll_of (GetAllTables db) = None
poll_of (GetTable db name) = None
poll_of (GetTableReq db name) = None
poll_of (GetTableObjectsByName db names) = None
poll_of (AlterTable db name new) = None
poll_of (GetFields db name) = None
poll_of (GetSchema db name) = None
poll_of (AddPartition part) = None
poll_of (AddPartitions parts) = None
poll_of (AddPartitionsReq db table parts if_not_exists need_result) = None
poll_of (AppendPartition db table values) = None
poll_of (AppendPartitionByName db table name) = None
poll_of (DropPartition db table values) = None
poll_of (DropPartitionByName db table name) = None
poll_of (GetPartition db table values) = None
poll_of (GetPartitionByName db table name) = None
poll_of (GetPartitions db table max) = None
poll_of (GetPartitionNames db table max) = None
poll_of (GetPartitionsPs db table values max) = None
poll_of (GetPartitionNamesPs db table values max) = None
poll_of (GetPartitionsByNames db table names) = None
poll_of (AlterPartition db table part) = None
poll_of (AlterPartitions db table parts) = None
poll_of (RenamePartition db table values part) = None
poll_of (GetPartitionsByFilter db name filter max) = None
poll_of (GetNumPartitionsByFilter db name filter) = None
poll_of (UpdateTableColumnStatistics new) = None
poll_of (UpdatePartitionColumnStatistics new) = None
poll_of (GetTableColumnStatistics db name col) = None
poll_of (GetPartitionColumnStatistics db name called col) = None
poll_of (DeleteTableColumnStatistics db name col) = None
poll_of (DeletePartitionColumnStatistics db name called col) = None
poll_of (GetTableStatisticsReq db name cols) = None
poll_of (GetNextNotification last max) = Some (After last max)
poll_of GetCurrentNotificationEventId = Some Newest
