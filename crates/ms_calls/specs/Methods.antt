-- The calls that are known: their names, what they result in, and the exceptions that they declare.
use Rattle.std.specs.Prelude.{ℕ, List, [], ◌∷◌, Option, None, Some, codes, if◌then◌else◌}
use Rattle.std.specs.Str.{bytes_eq}
use Rattle.ms_calls.specs.declared.exception.Exception.{Exception}
use Rattle.ms_calls.specs.declared.exception.Exception.TheVariants.{AlreadyExists, NoSuchObject, InvalidObject, InvalidOperation, InvalidInput, Meta}
use Rattle.ms_calls.specs.declared.method.Method.{Method}
use Rattle.ms_calls.specs.declared.method.Method.TheVariants as method
use Rattle.ms_calls.specs.declared.method.ResultType.{ResultType}
use Rattle.ms_calls.specs.declared.method.ResultType.TheVariants.{NoReply, NoField, EmptyStruct, OneText, TextList, Flag, TextMap, Int, Database, OneTable, TableResult, TableList, ColumnList, OnePart, PartList, PartsResult, Statistics, StatisticsResult, Events, NewestEvent, DumpResult, Long}

-- the call of the server itself whose messages have this name
unfoldable pub server_named : List ℕ → Option Method
server_named name =
    if bytes_eq name (codes "getName") then Some method.GetName
    else (if bytes_eq name (codes "getStatus") then Some method.GetStatus
    else (if bytes_eq name (codes "shutdown") then Some method.Shutdown
    else (if bytes_eq name (codes "set_ugi") then Some method.SetUgi
    else (if bytes_eq name (codes "get_all_functions") then Some method.GetAllFunctions
    else (if bytes_eq name (codes "partition_name_has_valid_characters") then Some method.PartitionNameHasValidCharacters
    else (if bytes_eq name (codes "partition_name_to_vals") then Some method.PartitionNameToVals
    else (if bytes_eq name (codes "partition_name_to_spec") then Some method.PartitionNameToSpec
    else None)))))))

-- the call of databases whose messages have this name
unfoldable pub database_named : List ℕ → Option Method
database_named name =
    if bytes_eq name (codes "create_database") then Some method.CreateDatabase
    else (if bytes_eq name (codes "get_database") then Some method.GetDatabase
    else (if bytes_eq name (codes "drop_database") then Some method.DropDatabase
    else (if bytes_eq name (codes "get_databases") then Some method.GetDatabases
    else (if bytes_eq name (codes "get_all_databases") then Some method.GetAllDatabases
    else (if bytes_eq name (codes "alter_database") then Some method.AlterDatabase
    else None)))))

-- the call of tables whose messages have this name
unfoldable pub table_named : List ℕ → Option Method
table_named name =
    if bytes_eq name (codes "create_table") then Some method.CreateTable
    else (if bytes_eq name (codes "create_table_with_environment_context") then Some method.CreateTableWithEnvironmentContext
    else (if bytes_eq name (codes "drop_table") then Some method.DropTable
    else (if bytes_eq name (codes "drop_table_with_environment_context") then Some method.DropTableWithEnvironmentContext
    else (if bytes_eq name (codes "get_tables") then Some method.GetTables
    else (if bytes_eq name (codes "get_all_tables") then Some method.GetAllTables
    else (if bytes_eq name (codes "get_table") then Some method.GetTable
    else (if bytes_eq name (codes "get_table_req") then Some method.GetTableReq
    else (if bytes_eq name (codes "get_table_objects_by_name") then Some method.GetTableObjectsByName
    else (if bytes_eq name (codes "alter_table") then Some method.AlterTable
    else (if bytes_eq name (codes "alter_table_with_environment_context") then Some method.AlterTableWithEnvironmentContext
    else (if bytes_eq name (codes "get_fields") then Some method.GetFields
    else (if bytes_eq name (codes "get_schema") then Some method.GetSchema
    else None))))))))))))

-- the call that adds or drops partitions whose messages have this name
unfoldable pub new_part_named : List ℕ → Option Method
new_part_named name =
    if bytes_eq name (codes "add_partition") then Some method.AddPartition
    else (if bytes_eq name (codes "add_partition_with_environment_context") then Some method.AddPartitionWithEnvironmentContext
    else (if bytes_eq name (codes "add_partitions") then Some method.AddPartitions
    else (if bytes_eq name (codes "add_partitions_req") then Some method.AddPartitionsReq
    else (if bytes_eq name (codes "append_partition") then Some method.AppendPartition
    else (if bytes_eq name (codes "append_partition_by_name") then Some method.AppendPartitionByName
    else (if bytes_eq name (codes "drop_partition") then Some method.DropPartition
    else (if bytes_eq name (codes "drop_partition_with_environment_context") then Some method.DropPartitionWithEnvironmentContext
    else (if bytes_eq name (codes "drop_partition_by_name") then Some method.DropPartitionByName
    else None))))))))

-- the call that tells or alters partitions whose messages have this name
unfoldable pub held_part_named : List ℕ → Option Method
held_part_named name =
    if bytes_eq name (codes "get_partition") then Some method.GetPartition
    else (if bytes_eq name (codes "get_partition_by_name") then Some method.GetPartitionByName
    else (if bytes_eq name (codes "get_partitions") then Some method.GetPartitions
    else (if bytes_eq name (codes "get_partition_names") then Some method.GetPartitionNames
    else (if bytes_eq name (codes "get_partitions_ps") then Some method.GetPartitionsPs
    else (if bytes_eq name (codes "get_partition_names_ps") then Some method.GetPartitionNamesPs
    else (if bytes_eq name (codes "get_partitions_by_filter") then Some method.GetPartitionsByFilter
    else (if bytes_eq name (codes "get_num_partitions_by_filter") then Some method.GetNumPartitionsByFilter
    else (if bytes_eq name (codes "get_partitions_by_names") then Some method.GetPartitionsByNames
    else (if bytes_eq name (codes "alter_partition") then Some method.AlterPartition
    else (if bytes_eq name (codes "alter_partition_with_environment_context") then Some method.AlterPartitionWithEnvironmentContext
    else (if bytes_eq name (codes "alter_partitions") then Some method.AlterPartitions
    else (if bytes_eq name (codes "rename_partition") then Some method.RenamePartition
    else None))))))))))))

-- the call on statistics of columns whose messages have this name
unfoldable pub statistics_named : List ℕ → Option Method
statistics_named name =
    if bytes_eq name (codes "update_table_column_statistics") then Some method.UpdateTableColumnStatistics
    else (if bytes_eq name (codes "update_partition_column_statistics") then Some method.UpdatePartitionColumnStatistics
    else (if bytes_eq name (codes "get_table_column_statistics") then Some method.GetTableColumnStatistics
    else (if bytes_eq name (codes "get_partition_column_statistics") then Some method.GetPartitionColumnStatistics
    else (if bytes_eq name (codes "delete_table_column_statistics") then Some method.DeleteTableColumnStatistics
    else (if bytes_eq name (codes "delete_partition_column_statistics") then Some method.DeletePartitionColumnStatistics
    else (if bytes_eq name (codes "get_table_statistics_req") then Some method.GetTableStatisticsReq
    else None))))))

-- the call of events whose messages have this name
unfoldable pub event_named : List ℕ → Option Method
event_named name =
    if bytes_eq name (codes "get_next_notification") then Some method.GetNextNotification
    else (if bytes_eq name (codes "get_current_notificationEventId") then Some method.GetCurrentNotificationEventId
    else None)

-- the call of replication whose messages have this name
unfoldable pub replication_named : List ℕ → Option Method
replication_named name =
    if bytes_eq name (codes "repl_dump") then Some method.ReplDump
    else (if bytes_eq name (codes "trim_events") then Some method.TrimEvents
    else None)

-- the first of two that is there
abbrev pub first_of : Option Method → Option Method → Option Method
first_of (Some method) other = Some method
first_of None other = other

-- the call whose messages have this name
unfoldable pub method_named : List ℕ → Option Method
method_named name = first_of (server_named name) (first_of (database_named name) (first_of (table_named name) (first_of (new_part_named name) (first_of (held_part_named name) (first_of (statistics_named name) (first_of (event_named name) (replication_named name)))))))

-- what a call results in
abbrev pub result_type : Method → ResultType
result_type method.GetName = OneText
result_type method.GetStatus = Int
result_type method.Shutdown = NoReply
result_type method.SetUgi = TextList
result_type method.GetAllFunctions = EmptyStruct
result_type method.PartitionNameHasValidCharacters = Flag
result_type method.PartitionNameToVals = TextList
result_type method.PartitionNameToSpec = TextMap
result_type method.CreateDatabase = NoField
result_type method.GetDatabase = Database
result_type method.DropDatabase = NoField
result_type method.GetDatabases = TextList
result_type method.GetAllDatabases = TextList
result_type method.AlterDatabase = NoField
result_type method.CreateTable = NoField
result_type method.CreateTableWithEnvironmentContext = NoField
result_type method.DropTable = NoField
result_type method.DropTableWithEnvironmentContext = NoField
result_type method.GetTables = TextList
result_type method.GetAllTables = TextList
result_type method.GetTable = OneTable
result_type method.GetTableReq = TableResult
result_type method.GetTableObjectsByName = TableList
result_type method.AlterTable = NoField
result_type method.AlterTableWithEnvironmentContext = NoField
result_type method.GetFields = ColumnList
result_type method.GetSchema = ColumnList
result_type method.AddPartition = OnePart
result_type method.AddPartitionWithEnvironmentContext = OnePart
result_type method.AddPartitions = Int
result_type method.AddPartitionsReq = PartsResult
result_type method.AppendPartition = OnePart
result_type method.AppendPartitionByName = OnePart
result_type method.DropPartition = Flag
result_type method.DropPartitionWithEnvironmentContext = Flag
result_type method.DropPartitionByName = Flag
result_type method.GetPartition = OnePart
result_type method.GetPartitionByName = OnePart
result_type method.GetPartitions = PartList
result_type method.GetPartitionNames = TextList
result_type method.GetPartitionsPs = PartList
result_type method.GetPartitionNamesPs = TextList
result_type method.GetPartitionsByFilter = PartList
result_type method.GetNumPartitionsByFilter = Int
result_type method.GetPartitionsByNames = PartList
result_type method.AlterPartition = NoField
result_type method.AlterPartitionWithEnvironmentContext = NoField
result_type method.AlterPartitions = NoField
result_type method.RenamePartition = NoField
result_type method.UpdateTableColumnStatistics = Flag
result_type method.UpdatePartitionColumnStatistics = Flag
result_type method.GetTableColumnStatistics = Statistics
result_type method.GetPartitionColumnStatistics = Statistics
result_type method.DeleteTableColumnStatistics = Flag
result_type method.DeletePartitionColumnStatistics = Flag
result_type method.GetTableStatisticsReq = StatisticsResult
result_type method.GetNextNotification = Events
result_type method.GetCurrentNotificationEventId = NewestEvent
result_type method.ReplDump = DumpResult
result_type method.TrimEvents = Long

-- the exceptions that a call declares, in the order of their ids: the first has the id 1
abbrev pub exceptions_of : Method → List Exception
exceptions_of method.GetName = []
exceptions_of method.GetStatus = []
exceptions_of method.Shutdown = []
exceptions_of method.SetUgi = Meta ∷ []
exceptions_of method.GetAllFunctions = Meta ∷ []
exceptions_of method.PartitionNameHasValidCharacters = Meta ∷ []
exceptions_of method.PartitionNameToVals = Meta ∷ []
exceptions_of method.PartitionNameToSpec = Meta ∷ []
exceptions_of method.CreateDatabase = AlreadyExists ∷ InvalidObject ∷ Meta ∷ []
exceptions_of method.GetDatabase = NoSuchObject ∷ Meta ∷ []
exceptions_of method.DropDatabase = NoSuchObject ∷ InvalidOperation ∷ Meta ∷ []
exceptions_of method.GetDatabases = Meta ∷ []
exceptions_of method.GetAllDatabases = Meta ∷ []
exceptions_of method.AlterDatabase = Meta ∷ NoSuchObject ∷ []
exceptions_of method.CreateTable = AlreadyExists ∷ InvalidObject ∷ Meta ∷ NoSuchObject ∷ []
exceptions_of method.CreateTableWithEnvironmentContext = AlreadyExists ∷ InvalidObject ∷ Meta ∷ NoSuchObject ∷ []
exceptions_of method.DropTable = NoSuchObject ∷ Meta ∷ []
exceptions_of method.DropTableWithEnvironmentContext = NoSuchObject ∷ Meta ∷ []
exceptions_of method.GetTables = Meta ∷ []
exceptions_of method.GetAllTables = Meta ∷ []
exceptions_of method.GetTable = Meta ∷ NoSuchObject ∷ []
exceptions_of method.GetTableReq = Meta ∷ NoSuchObject ∷ []
exceptions_of method.GetTableObjectsByName = Meta ∷ []
exceptions_of method.AlterTable = InvalidOperation ∷ Meta ∷ []
exceptions_of method.AlterTableWithEnvironmentContext = InvalidOperation ∷ Meta ∷ []
exceptions_of method.GetFields = Meta ∷ []
exceptions_of method.GetSchema = Meta ∷ []
exceptions_of method.AddPartition = InvalidObject ∷ AlreadyExists ∷ Meta ∷ []
exceptions_of method.AddPartitionWithEnvironmentContext = InvalidObject ∷ AlreadyExists ∷ Meta ∷ []
exceptions_of method.AddPartitions = InvalidObject ∷ AlreadyExists ∷ Meta ∷ []
exceptions_of method.AddPartitionsReq = InvalidObject ∷ AlreadyExists ∷ Meta ∷ []
exceptions_of method.AppendPartition = InvalidObject ∷ AlreadyExists ∷ Meta ∷ []
exceptions_of method.AppendPartitionByName = InvalidObject ∷ AlreadyExists ∷ Meta ∷ []
exceptions_of method.DropPartition = NoSuchObject ∷ Meta ∷ []
exceptions_of method.DropPartitionWithEnvironmentContext = NoSuchObject ∷ Meta ∷ []
exceptions_of method.DropPartitionByName = NoSuchObject ∷ Meta ∷ []
exceptions_of method.GetPartition = Meta ∷ NoSuchObject ∷ []
exceptions_of method.GetPartitionByName = Meta ∷ NoSuchObject ∷ []
exceptions_of method.GetPartitions = NoSuchObject ∷ Meta ∷ []
exceptions_of method.GetPartitionNames = NoSuchObject ∷ Meta ∷ []
exceptions_of method.GetPartitionsPs = Meta ∷ NoSuchObject ∷ []
exceptions_of method.GetPartitionNamesPs = Meta ∷ NoSuchObject ∷ []
exceptions_of method.GetPartitionsByFilter = Meta ∷ NoSuchObject ∷ []
exceptions_of method.GetNumPartitionsByFilter = Meta ∷ NoSuchObject ∷ []
exceptions_of method.GetPartitionsByNames = Meta ∷ NoSuchObject ∷ []
exceptions_of method.AlterPartition = InvalidOperation ∷ Meta ∷ []
exceptions_of method.AlterPartitionWithEnvironmentContext = InvalidOperation ∷ Meta ∷ []
exceptions_of method.AlterPartitions = InvalidOperation ∷ Meta ∷ []
exceptions_of method.RenamePartition = InvalidOperation ∷ Meta ∷ []
exceptions_of method.UpdateTableColumnStatistics = NoSuchObject ∷ InvalidObject ∷ Meta ∷ InvalidInput ∷ []
exceptions_of method.UpdatePartitionColumnStatistics = NoSuchObject ∷ InvalidObject ∷ Meta ∷ InvalidInput ∷ []
exceptions_of method.GetTableColumnStatistics = NoSuchObject ∷ Meta ∷ InvalidInput ∷ InvalidObject ∷ []
exceptions_of method.GetPartitionColumnStatistics = NoSuchObject ∷ Meta ∷ InvalidInput ∷ InvalidObject ∷ []
exceptions_of method.DeleteTableColumnStatistics = NoSuchObject ∷ Meta ∷ InvalidObject ∷ InvalidInput ∷ []
exceptions_of method.DeletePartitionColumnStatistics = NoSuchObject ∷ Meta ∷ InvalidObject ∷ InvalidInput ∷ []
exceptions_of method.GetTableStatisticsReq = NoSuchObject ∷ Meta ∷ []
exceptions_of method.GetNextNotification = Meta ∷ []
exceptions_of method.GetCurrentNotificationEventId = Meta ∷ []
exceptions_of method.ReplDump = Meta ∷ NoSuchObject ∷ []
exceptions_of method.TrimEvents = Meta ∷ []
