-- What is read by each plan: the arguments of its shape, and what is made of them.
use Rattle.std.specs.Prelude.{[], ◌∷◌, pos}
use Rattle.cat_types.specs.declared.calls.Call.TheVariants.{GetAllDatabases, GetCurrentNotificationEventId, GetPartitionsByFilter}
use Rattle.cat_types.specs.declared.replies.Reply.TheVariants.{Names, Nothing, Number}
use Rattle.ms_calls.specs.Arguments.{add_partition_call, add_partitions_call, add_partitions_req_call, alter_database_call, alter_partition_call, alter_partitions_call, alter_table_call, call_of_first_values, call_of_limit, call_of_statistics, call_of_text, call_of_three_texts, call_of_two_texts, call_of_values, create_database_call, create_table_call, delete_part_statistics_call, delete_statistics_call, drop_database_call, drop_partition_call, drop_table_call, dump_asked, from_one, from_three, from_two, get_next_notification_call, get_part_statistics_call, get_statistics_req_call, get_table_objects_by_name_call, get_table_req_call, has_valid_characters_reply, list_call, list_some_call, rename_partition_call, set_ugi_reply, trim_asked}
use Rattle.ms_calls.specs.Asked.{client, context_at, database_at, flag_at, int_at, limit_at, long_at, name_asked, partition_at, partitions_at, plain, server_name, statistics_at, table_at, text_at, texts_at, unless_wrong}
use Rattle.ms_calls.specs.declared.plan.Bare.{Bare}
use Rattle.ms_calls.specs.declared.plan.Bare.TheVariants as bare
use Rattle.ms_calls.specs.declared.plan.OnDatabase.{OnDatabase}
use Rattle.ms_calls.specs.declared.plan.OnDatabase.TheVariants as on_database
use Rattle.ms_calls.specs.declared.plan.OnPartition.{OnPartition}
use Rattle.ms_calls.specs.declared.plan.OnPartition.TheVariants as on_partition
use Rattle.ms_calls.specs.declared.plan.OnStatistics.{OnStatistics}
use Rattle.ms_calls.specs.declared.plan.OnStatistics.TheVariants as on_statistics
use Rattle.ms_calls.specs.declared.plan.OnTable.{OnTable}
use Rattle.ms_calls.specs.declared.plan.OnTable.TheVariants as on_table
use Rattle.ms_calls.specs.declared.plan.Plan.{Plan}
use Rattle.ms_calls.specs.declared.plan.Plan.TheVariants as plan
use Rattle.ms_calls.specs.declared.request.Asked.{Asked}
use Rattle.ms_calls.specs.declared.request.Asked.TheVariants.{Client, Plain, Shutdown, Unknown}
use Rattle.ms_structs.specs.declared.got.Got.TheVariants as got
use Rattle.ms_structs.specs.Notifications.{request_of as poll_of}
use Rattle.ms_structs.specs.Slots.{said}
use Rattle.stat_structs.specs.Requests.{request_of as statistics_request_of}
use Rattle.table_structs.specs.PartRequests.{adding_of}
use Rattle.table_structs.specs.Requests.{request_of}
use Rattle.thrift_binary.specs.Codes.{struct_code}
use Rattle.thrift_binary.specs.Tree.{Fields}

-- what is asked whatever the arguments are
abbrev pub bare_asked : Bare → Asked
bare_asked bare.Unknown = Unknown
bare_asked bare.GetStatus = Plain (Number (pos 2))
bare_asked bare.Shutdown = Shutdown
bare_asked bare.GetAllFunctions = Plain Nothing
bare_asked bare.GetAllDatabases = Client GetAllDatabases
bare_asked bare.GetCurrentNotificationEventId = Client GetCurrentNotificationEventId

-- what a call on databases asks, with arguments of a shape of its own
abbrev pub planned_on_database : OnDatabase → Fields → Asked
planned_on_database on_database.CreateDatabase v = client (create_database_call (database_at (pos 1) v))
planned_on_database on_database.DropDatabase v = client (drop_database_call (text_at (pos 1) v) (flag_at (pos 3) v))
planned_on_database on_database.AlterDatabase v = client (alter_database_call (text_at (pos 1) v) (database_at (pos 2) v))

-- what a call on tables asks, with arguments of a shape of its own
abbrev pub planned_on_table : OnTable → Fields → Asked
planned_on_table on_table.CreateTable v = client (create_table_call (table_at (pos 1) v) got.Nothing)
planned_on_table on_table.CreateTableWithContext v = client (create_table_call (table_at (pos 1) v) (context_at (pos 2) v))
planned_on_table on_table.DropTableWithContext v = client (drop_table_call (text_at (pos 1) v) (text_at (pos 2) v) (context_at (pos 4) v))
planned_on_table on_table.GetTableReq v = client (get_table_req_call (said (pos 1) struct_code request_of v))
planned_on_table on_table.GetTableObjectsByName v = client (get_table_objects_by_name_call (text_at (pos 1) v) (texts_at (pos 2) v))
planned_on_table on_table.AlterTable v = client (alter_table_call (text_at (pos 1) v) (text_at (pos 2) v) (table_at (pos 3) v) got.Nothing)
planned_on_table on_table.AlterTableWithContext v = client (alter_table_call (text_at (pos 1) v) (text_at (pos 2) v) (table_at (pos 3) v) (context_at (pos 4) v))

-- what a call on partitions asks, with arguments of a shape of its own
abbrev pub planned_on_partition : OnPartition → Fields → Asked
planned_on_partition on_partition.AddPartition v = client (add_partition_call (partition_at (pos 1) v) got.Nothing)
planned_on_partition on_partition.AddPartitionWithContext v = client (add_partition_call (partition_at (pos 1) v) (context_at (pos 2) v))
planned_on_partition on_partition.AddPartitions v = client (add_partitions_call (partitions_at (pos 1) v))
planned_on_partition on_partition.AddPartitionsReq v = client (add_partitions_req_call (said (pos 1) struct_code adding_of v))
planned_on_partition on_partition.DropPartitionWithContext v = client (drop_partition_call (text_at (pos 1) v) (text_at (pos 2) v) (texts_at (pos 3) v) (context_at (pos 5) v))
planned_on_partition on_partition.GetPartitionsByFilter v = client (list_some_call (text_at (pos 1) v) (text_at (pos 2) v) (text_at (pos 3) v) (limit_at (pos 4) v) GetPartitionsByFilter)
planned_on_partition on_partition.AlterPartition v = client (alter_partition_call (text_at (pos 1) v) (text_at (pos 2) v) (partition_at (pos 3) v) got.Nothing)
planned_on_partition on_partition.AlterPartitionWithContext v = client (alter_partition_call (text_at (pos 1) v) (text_at (pos 2) v) (partition_at (pos 3) v) (context_at (pos 4) v))
planned_on_partition on_partition.AlterPartitions v = client (alter_partitions_call (text_at (pos 1) v) (text_at (pos 2) v) (partitions_at (pos 3) v))
planned_on_partition on_partition.RenamePartition v = client (rename_partition_call (text_at (pos 1) v) (text_at (pos 2) v) (texts_at (pos 3) v) (partition_at (pos 4) v))

-- what a call on statistics of columns asks, with arguments of a shape of its own
abbrev pub planned_on_statistics : OnStatistics → Fields → Asked
planned_on_statistics (on_statistics.Update call) v = client (from_one (statistics_at (pos 1) v) (call_of_statistics call))
planned_on_statistics on_statistics.GetPartition v = client (get_part_statistics_call (text_at (pos 1) v) (text_at (pos 2) v) (text_at (pos 3) v) (text_at (pos 4) v))
planned_on_statistics on_statistics.DeleteTable v = client (delete_statistics_call (text_at (pos 1) v) (text_at (pos 2) v) (text_at (pos 3) v))
planned_on_statistics on_statistics.DeletePartition v = client (delete_part_statistics_call (text_at (pos 1) v) (text_at (pos 2) v) (text_at (pos 3) v) (text_at (pos 4) v))
planned_on_statistics on_statistics.GetByRequest v = client (get_statistics_req_call (said (pos 1) struct_code statistics_request_of v))

-- what a call asks whose arguments are read by this plan
abbrev pub planned : Plan → Fields → Asked
planned (plan.Bare bare) v = bare_asked bare
planned plan.GetName v = Plain (Names (server_name ∷ []))
planned plan.SetUgi v = plain (set_ugi_reply (text_at (pos 1) v) (texts_at (pos 2) v))
planned (plan.OfText call) v = client (from_one (text_at (pos 1) v) (call_of_text call))
planned (plan.OfTwoTexts call) v = client (from_two (text_at (pos 1) v) (text_at (pos 2) v) (call_of_two_texts call))
planned (plan.OfThreeTexts call) v = client (from_three (text_at (pos 1) v) (text_at (pos 2) v) (text_at (pos 3) v) (call_of_three_texts call))
planned (plan.OnDatabase call) v = planned_on_database call v
planned (plan.OnTable call) v = planned_on_table call v
planned (plan.OfName call) v = name_asked call (text_at (pos 1) v)
planned plan.HasValidCharacters v = plain (has_valid_characters_reply (texts_at (pos 1) v) (flag_at (pos 2) v))
planned (plan.OfValues call) v = client (from_three (text_at (pos 1) v) (text_at (pos 2) v) (texts_at (pos 3) v) (call_of_values call))
planned (plan.OfLimit call) v = client (list_call (text_at (pos 1) v) (text_at (pos 2) v) (limit_at (pos 3) v) (call_of_limit call))
planned (plan.OfFirstValues call) v = client (list_some_call (text_at (pos 1) v) (text_at (pos 2) v) (texts_at (pos 3) v) (limit_at (pos 4) v) (call_of_first_values call))
planned (plan.OnPartition call) v = planned_on_partition call v
planned (plan.OnStatistics call) v = planned_on_statistics call v
planned plan.GetNextNotification v = client (get_next_notification_call (said (pos 1) struct_code poll_of v))
planned plan.ReplDump v = unless_wrong (dump_asked (text_at (pos 1) v) (long_at (pos 2) v) (long_at (pos 3) v) (int_at (pos 4) v))
planned plan.TrimEvents v = unless_wrong (trim_asked (long_at (pos 1) v))
