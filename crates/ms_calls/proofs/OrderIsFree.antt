-- What a message asks doesn't depend on the order of fields with different ids.
use Rattle.std.proofs.Common.{◌≡◌, Option, Some, None, pos, refl}
use Rattle.cat_types.specs.declared.calls.Call.TheVariants.{AppendPartition, AppendPartitionByName, DropPartitionByName, GetNumPartitionsByFilter, GetPartition, GetPartitionByName, GetPartitionNames, GetPartitionNamesPs, GetPartitions, GetPartitionsByFilter, GetPartitionsByNames, GetPartitionsPs, GetTableColumnStatistics, UpdatePartitionColumnStatistics, UpdateTableColumnStatistics}
use Rattle.ms_calls.specs.declared.method.Method.{Method}
use Rattle.ms_calls.specs.declared.method.Method.TheVariants as method
use Rattle.ms_calls.specs.declared.part_texts.OfName.TheVariants as of_name
use Rattle.ms_calls.specs.Arguments.{add_partition_call, add_partitions_call, add_partitions_req_call, alter_database_call, alter_partition_call, alter_partitions_call, alter_table_call, create_database_call, create_table_call, delete_part_statistics_call, delete_statistics_call, drop_database_call, drop_partition_call, drop_table_call, dump_asked, from_one, from_three, get_all_tables_call, get_database_call, get_databases_call, get_fields_call, get_next_notification_call, get_part_statistics_call, get_schema_call, get_statistics_req_call, get_table_call, get_table_objects_by_name_call, get_table_req_call, get_tables_call, has_valid_characters_reply, list_call, list_some_call, rename_partition_call, set_ugi_reply, trim_asked}
use Rattle.ms_calls.specs.Asked.{asked_by, client, name_asked, plain, unless_wrong, SameByIds, OrderOfFieldsIsFree}
use Rattle.ms_calls.specs.Methods.{method_named}
use Rattle.ms_structs.specs.declared.got.Got.TheVariants.{Nothing}
use Rattle.ms_structs.specs.Database.{database_of}
use Rattle.ms_structs.specs.Notifications.{request_of as poll_of}
use Rattle.ms_structs.specs.Values.{flag_of, items_of, number_of, text_of}
use Rattle.ms_structs.proofs.Said.{said_same}
use Rattle.stat_structs.specs.Statistics.{statistics_of}
use Rattle.stat_structs.specs.Requests.{request_of as statistics_request_of}
use Rattle.table_structs.specs.Contexts.{context_of}
use Rattle.table_structs.specs.PartRequests.{adding_of}
use Rattle.table_structs.specs.Partitions.{partition_of}
use Rattle.table_structs.specs.Requests.{request_of}
use Rattle.table_structs.specs.Tables.{table_of}
use Rattle.thrift_binary.specs.Codes.{bool_code, i16_code, i32_code, i64_code, list_code, struct_code, text_code}
use Rattle.thrift_binary.specs.Tree.{Fields}

order_by : (m : Option Method) (v w : Fields) → SameByIds v w → asked_by m v ≡ asked_by m w
order_by None v w same = refl
order_by (Some method.GetName) v w same = refl
order_by (Some method.GetStatus) v w same = refl
order_by (Some method.Shutdown) v w same = refl
order_by (Some method.SetUgi) v w same = λ i. plain (set_ugi_reply (said_same (pos 1) text_code text_of v w same i) (said_same (pos 2) list_code (items_of text_code text_of) v w same i))
order_by (Some method.GetAllFunctions) v w same = refl
order_by (Some method.PartitionNameHasValidCharacters) v w same = λ i. plain (has_valid_characters_reply (said_same (pos 1) list_code (items_of text_code text_of) v w same i) (said_same (pos 2) bool_code flag_of v w same i))
order_by (Some method.PartitionNameToVals) v w same = λ i. name_asked of_name.Vals (said_same (pos 1) text_code text_of v w same i)
order_by (Some method.PartitionNameToSpec) v w same = λ i. name_asked of_name.Spec (said_same (pos 1) text_code text_of v w same i)
order_by (Some method.CreateDatabase) v w same = λ i. client (create_database_call (said_same (pos 1) struct_code database_of v w same i))
order_by (Some method.GetDatabase) v w same = λ i. client (get_database_call (said_same (pos 1) text_code text_of v w same i))
order_by (Some method.DropDatabase) v w same = λ i. client (drop_database_call (said_same (pos 1) text_code text_of v w same i) (said_same (pos 3) bool_code flag_of v w same i))
order_by (Some method.GetDatabases) v w same = λ i. client (get_databases_call (said_same (pos 1) text_code text_of v w same i))
order_by (Some method.GetAllDatabases) v w same = refl
order_by (Some method.AlterDatabase) v w same = λ i. client (alter_database_call (said_same (pos 1) text_code text_of v w same i) (said_same (pos 2) struct_code database_of v w same i))
order_by (Some method.CreateTable) v w same = λ i. client (create_table_call (said_same (pos 1) struct_code table_of v w same i) Nothing)
order_by (Some method.CreateTableWithEnvironmentContext) v w same = λ i. client (create_table_call (said_same (pos 1) struct_code table_of v w same i) (said_same (pos 2) struct_code context_of v w same i))
order_by (Some method.DropTable) v w same = λ i. client (drop_table_call (said_same (pos 1) text_code text_of v w same i) (said_same (pos 2) text_code text_of v w same i) Nothing)
order_by (Some method.DropTableWithEnvironmentContext) v w same = λ i. client (drop_table_call (said_same (pos 1) text_code text_of v w same i) (said_same (pos 2) text_code text_of v w same i) (said_same (pos 4) struct_code context_of v w same i))
order_by (Some method.GetTables) v w same = λ i. client (get_tables_call (said_same (pos 1) text_code text_of v w same i) (said_same (pos 2) text_code text_of v w same i))
order_by (Some method.GetAllTables) v w same = λ i. client (get_all_tables_call (said_same (pos 1) text_code text_of v w same i))
order_by (Some method.GetTable) v w same = λ i. client (get_table_call (said_same (pos 1) text_code text_of v w same i) (said_same (pos 2) text_code text_of v w same i))
order_by (Some method.GetTableReq) v w same = λ i. client (get_table_req_call (said_same (pos 1) struct_code request_of v w same i))
order_by (Some method.GetTableObjectsByName) v w same = λ i. client (get_table_objects_by_name_call (said_same (pos 1) text_code text_of v w same i) (said_same (pos 2) list_code (items_of text_code text_of) v w same i))
order_by (Some method.AlterTable) v w same = λ i. client (alter_table_call (said_same (pos 1) text_code text_of v w same i) (said_same (pos 2) text_code text_of v w same i) (said_same (pos 3) struct_code table_of v w same i) Nothing)
order_by (Some method.AlterTableWithEnvironmentContext) v w same = λ i. client (alter_table_call (said_same (pos 1) text_code text_of v w same i) (said_same (pos 2) text_code text_of v w same i) (said_same (pos 3) struct_code table_of v w same i) (said_same (pos 4) struct_code context_of v w same i))
order_by (Some method.GetFields) v w same = λ i. client (get_fields_call (said_same (pos 1) text_code text_of v w same i) (said_same (pos 2) text_code text_of v w same i))
order_by (Some method.GetSchema) v w same = λ i. client (get_schema_call (said_same (pos 1) text_code text_of v w same i) (said_same (pos 2) text_code text_of v w same i))
order_by (Some method.AddPartition) v w same = λ i. client (add_partition_call (said_same (pos 1) struct_code partition_of v w same i) Nothing)
order_by (Some method.AddPartitionWithEnvironmentContext) v w same = λ i. client (add_partition_call (said_same (pos 1) struct_code partition_of v w same i) (said_same (pos 2) struct_code context_of v w same i))
order_by (Some method.AddPartitions) v w same = λ i. client (add_partitions_call (said_same (pos 1) list_code (items_of struct_code partition_of) v w same i))
order_by (Some method.AddPartitionsReq) v w same = λ i. client (add_partitions_req_call (said_same (pos 1) struct_code adding_of v w same i))
order_by (Some method.AppendPartition) v w same = λ i. client (from_three (said_same (pos 1) text_code text_of v w same i) (said_same (pos 2) text_code text_of v w same i) (said_same (pos 3) list_code (items_of text_code text_of) v w same i) AppendPartition)
order_by (Some method.AppendPartitionByName) v w same = λ i. client (from_three (said_same (pos 1) text_code text_of v w same i) (said_same (pos 2) text_code text_of v w same i) (said_same (pos 3) text_code text_of v w same i) AppendPartitionByName)
order_by (Some method.DropPartition) v w same = λ i. client (drop_partition_call (said_same (pos 1) text_code text_of v w same i) (said_same (pos 2) text_code text_of v w same i) (said_same (pos 3) list_code (items_of text_code text_of) v w same i) Nothing)
order_by (Some method.DropPartitionWithEnvironmentContext) v w same = λ i. client (drop_partition_call (said_same (pos 1) text_code text_of v w same i) (said_same (pos 2) text_code text_of v w same i) (said_same (pos 3) list_code (items_of text_code text_of) v w same i) (said_same (pos 5) struct_code context_of v w same i))
order_by (Some method.DropPartitionByName) v w same = λ i. client (from_three (said_same (pos 1) text_code text_of v w same i) (said_same (pos 2) text_code text_of v w same i) (said_same (pos 3) text_code text_of v w same i) DropPartitionByName)
order_by (Some method.GetPartition) v w same = λ i. client (from_three (said_same (pos 1) text_code text_of v w same i) (said_same (pos 2) text_code text_of v w same i) (said_same (pos 3) list_code (items_of text_code text_of) v w same i) GetPartition)
order_by (Some method.GetPartitionByName) v w same = λ i. client (from_three (said_same (pos 1) text_code text_of v w same i) (said_same (pos 2) text_code text_of v w same i) (said_same (pos 3) text_code text_of v w same i) GetPartitionByName)
order_by (Some method.GetPartitions) v w same = λ i. client (list_call (said_same (pos 1) text_code text_of v w same i) (said_same (pos 2) text_code text_of v w same i) (said_same (pos 3) i16_code number_of v w same i) GetPartitions)
order_by (Some method.GetPartitionNames) v w same = λ i. client (list_call (said_same (pos 1) text_code text_of v w same i) (said_same (pos 2) text_code text_of v w same i) (said_same (pos 3) i16_code number_of v w same i) GetPartitionNames)
order_by (Some method.GetPartitionsPs) v w same = λ i. client (list_some_call (said_same (pos 1) text_code text_of v w same i) (said_same (pos 2) text_code text_of v w same i) (said_same (pos 3) list_code (items_of text_code text_of) v w same i) (said_same (pos 4) i16_code number_of v w same i) GetPartitionsPs)
order_by (Some method.GetPartitionNamesPs) v w same = λ i. client (list_some_call (said_same (pos 1) text_code text_of v w same i) (said_same (pos 2) text_code text_of v w same i) (said_same (pos 3) list_code (items_of text_code text_of) v w same i) (said_same (pos 4) i16_code number_of v w same i) GetPartitionNamesPs)
order_by (Some method.GetPartitionsByFilter) v w same = λ i. client (list_some_call (said_same (pos 1) text_code text_of v w same i) (said_same (pos 2) text_code text_of v w same i) (said_same (pos 3) text_code text_of v w same i) (said_same (pos 4) i16_code number_of v w same i) GetPartitionsByFilter)
order_by (Some method.GetNumPartitionsByFilter) v w same = λ i. client (from_three (said_same (pos 1) text_code text_of v w same i) (said_same (pos 2) text_code text_of v w same i) (said_same (pos 3) text_code text_of v w same i) GetNumPartitionsByFilter)
order_by (Some method.GetPartitionsByNames) v w same = λ i. client (from_three (said_same (pos 1) text_code text_of v w same i) (said_same (pos 2) text_code text_of v w same i) (said_same (pos 3) list_code (items_of text_code text_of) v w same i) GetPartitionsByNames)
order_by (Some method.AlterPartition) v w same = λ i. client (alter_partition_call (said_same (pos 1) text_code text_of v w same i) (said_same (pos 2) text_code text_of v w same i) (said_same (pos 3) struct_code partition_of v w same i) Nothing)
order_by (Some method.AlterPartitionWithEnvironmentContext) v w same = λ i. client (alter_partition_call (said_same (pos 1) text_code text_of v w same i) (said_same (pos 2) text_code text_of v w same i) (said_same (pos 3) struct_code partition_of v w same i) (said_same (pos 4) struct_code context_of v w same i))
order_by (Some method.AlterPartitions) v w same = λ i. client (alter_partitions_call (said_same (pos 1) text_code text_of v w same i) (said_same (pos 2) text_code text_of v w same i) (said_same (pos 3) list_code (items_of struct_code partition_of) v w same i))
order_by (Some method.RenamePartition) v w same = λ i. client (rename_partition_call (said_same (pos 1) text_code text_of v w same i) (said_same (pos 2) text_code text_of v w same i) (said_same (pos 3) list_code (items_of text_code text_of) v w same i) (said_same (pos 4) struct_code partition_of v w same i))
order_by (Some method.UpdateTableColumnStatistics) v w same = λ i. client (from_one (said_same (pos 1) struct_code statistics_of v w same i) UpdateTableColumnStatistics)
order_by (Some method.UpdatePartitionColumnStatistics) v w same = λ i. client (from_one (said_same (pos 1) struct_code statistics_of v w same i) UpdatePartitionColumnStatistics)
order_by (Some method.GetTableColumnStatistics) v w same = λ i. client (from_three (said_same (pos 1) text_code text_of v w same i) (said_same (pos 2) text_code text_of v w same i) (said_same (pos 3) text_code text_of v w same i) GetTableColumnStatistics)
order_by (Some method.GetPartitionColumnStatistics) v w same = λ i. client (get_part_statistics_call (said_same (pos 1) text_code text_of v w same i) (said_same (pos 2) text_code text_of v w same i) (said_same (pos 3) text_code text_of v w same i) (said_same (pos 4) text_code text_of v w same i))
order_by (Some method.DeleteTableColumnStatistics) v w same = λ i. client (delete_statistics_call (said_same (pos 1) text_code text_of v w same i) (said_same (pos 2) text_code text_of v w same i) (said_same (pos 3) text_code text_of v w same i))
order_by (Some method.DeletePartitionColumnStatistics) v w same = λ i. client (delete_part_statistics_call (said_same (pos 1) text_code text_of v w same i) (said_same (pos 2) text_code text_of v w same i) (said_same (pos 3) text_code text_of v w same i) (said_same (pos 4) text_code text_of v w same i))
order_by (Some method.GetTableStatisticsReq) v w same = λ i. client (get_statistics_req_call (said_same (pos 1) struct_code statistics_request_of v w same i))
order_by (Some method.GetNextNotification) v w same = λ i. client (get_next_notification_call (said_same (pos 1) struct_code poll_of v w same i))
order_by (Some method.GetCurrentNotificationEventId) v w same = refl
order_by (Some method.ReplDump) v w same = λ i. unless_wrong (dump_asked (said_same (pos 1) text_code text_of v w same i) (said_same (pos 2) i64_code number_of v w same i) (said_same (pos 3) i64_code number_of v w same i) (said_same (pos 4) i32_code number_of v w same i))
order_by (Some method.TrimEvents) v w same = λ i. unless_wrong (trim_asked (said_same (pos 1) i64_code number_of v w same i))

pub order_is_free : OrderOfFieldsIsFree
order_is_free name v w same = order_by (method_named name) v w same
