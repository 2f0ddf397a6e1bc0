-- Which calls are refused, what the others change, and what they result in.
use Rattle.std.specs.Prelude.{ℕ, nat_lt, false, ◌&&◌, List, [], ◌∷◌, Option, None, Some, if◌then◌else◌, true}
use Rattle.std.specs.Map.{keys_of}
use Rattle.cat_objects.specs.Catalogue.{Catalogue, database, table}
use Rattle.cat_objects.specs.Changes.{has_operation}
use Rattle.cat_types.specs.declared.calls.Call.TheVariants.{AddPartition, AddPartitions, AddPartitionsReq, AlterDatabase, AlterPartition, AlterPartitions, AlterTable, AppendPartition, AppendPartitionByName, CreateDatabase, CreateTable, DeletePartitionColumnStatistics, DeleteTableColumnStatistics, DropDatabase, DropPartition, DropPartitionByName, DropTable, GetAllDatabases, GetAllTables, GetCurrentNotificationEventId, GetDatabase, GetDatabases, GetFields, GetNextNotification, GetNumPartitionsByFilter, GetPartition, GetPartitionByName, GetPartitionColumnStatistics, GetPartitionNames, GetPartitionNamesPs, GetPartitions, GetPartitionsByFilter, GetPartitionsByNames, GetPartitionsPs, GetSchema, GetTable, GetTableColumnStatistics, GetTableObjectsByName, GetTableReq, GetTableStatisticsReq, GetTables, RenamePartition, UpdatePartitionColumnStatistics, UpdateTableColumnStatistics}
use Rattle.cat_types.specs.declared.calls.Call.{Call}
use Rattle.cat_types.specs.declared.changes.Change.{Change}
use Rattle.cat_types.specs.declared.replies.Reply.TheVariants.{Nothing, Tables, Names, Parts, Flag}
use Rattle.cat_types.specs.declared.replies.Reply.{Reply}
use Rattle.cat_values.specs.Names.{lower}
use Rattle.filter_rules.specs.Filters.{by_filter_rules, parts_counted, parts_fitting}
use Rattle.part_rules.specs.PartChanges.{append_partition_rules, partition_appended, appended_as, add_list_rules, list_change, list_told, add_partitions_rules, partitions_added, count_added, told_if, drop_partition_rules, partition_dropped, alter_partition_rules, parts_altered, alter_partitions_rules, rename_partition_rules, partition_renamed}
use Rattle.part_rules.specs.Partitions.{get_partition_rules, meant_as, list_partitions_rules, list_fitting_rules, parts_listed, names_listed, parts_named}
use Rattle.part_rules.specs.declared.part_adds.Told.TheVariants as told
use Rattle.rulings.specs.Decisions.{Decision, decided_by}
use Rattle.rulings.specs.Meant.{by_values, by_name, meant_values}
use Rattle.rulings.specs.Rules.{Rule, first_broken}
use Rattle.rulings.specs.declared.bars.Bars.{Bars}
use Rattle.rulings.specs.declared.refusal.Refusal.TheVariants.{EventNumbersUsedUp}
use Rattle.rulings.specs.declared.refusal.Refusal.{Refusal}
use Rattle.stat_rules.specs.Statistics.{delete_part_rules, delete_table_rules, get_part_stat_rules, get_stats_rules, get_table_stat_rules, part_deleted, part_stat, part_updated, requested_stats, table_deleted, table_stat, table_updated, update_part_rules, update_table_rules}
use Rattle.table_rules.specs.Databases.{create_database_rules, database_created, get_database_rules, shown_as, matching, drop_database_rules, database_dropped, alter_database_rules, database_altered}
use Rattle.table_rules.specs.Tables.{create_table_rules, table_created, drop_table_rules, table_dropped, alter_table_rules, table_altered, get_table_rules, get_table_req_rules, get_columns_rules, table_as, table_names, tables_named, columns_as, schema_as, requested_table}

-- a call's own rules, in their order; a poll has none
abbrev pub rules_of : Catalogue → Bars → Call → List Rule
rules_of cat bars GetAllDatabases = []
rules_of cat bars (GetDatabase name) = get_database_rules cat name
rules_of cat bars (CreateDatabase db) = create_database_rules cat db
rules_of cat bars (DropDatabase name cascade) = drop_database_rules cat bars (lower name) cascade
rules_of cat bars (GetDatabases pattern) = []
rules_of cat bars (AlterDatabase name db) = alter_database_rules cat bars (lower name) db
rules_of cat bars (CreateTable new) = create_table_rules cat bars new
rules_of cat bars (DropTable db name) = drop_table_rules cat bars (lower db) (lower name)
rules_of cat bars (GetTables db pattern) = []
rules_of cat bars (GetAllTables db) = []
rules_of cat bars (GetTable db name) = get_table_rules cat (lower db) (lower name)
rules_of cat bars (GetTableReq db name) = get_table_req_rules cat db name
rules_of cat bars (GetTableObjectsByName db names) = []
rules_of cat bars (AlterTable db name new) = alter_table_rules cat bars (lower db) (lower name) new
rules_of cat bars (GetFields db name) = get_columns_rules cat (lower db) (lower name)
rules_of cat bars (GetSchema db name) = get_columns_rules cat (lower db) (lower name)
rules_of cat bars (AddPartition part) = add_list_rules true false cat bars part.db part.table (part ∷ [])
rules_of cat bars (AddPartitions parts) = add_partitions_rules cat bars parts
rules_of cat bars (AddPartitionsReq db name parts if_not_exists need_result) = add_list_rules false if_not_exists cat bars db name parts
rules_of cat bars (AppendPartition db name values) = append_partition_rules cat bars (lower db) (lower name) (by_values values)
rules_of cat bars (AppendPartitionByName db name called) = append_partition_rules cat bars (lower db) (lower name) (by_name called)
rules_of cat bars (DropPartition db name values) = drop_partition_rules cat bars (lower db) (lower name) (by_values values)
rules_of cat bars (DropPartitionByName db name called) = drop_partition_rules cat bars (lower db) (lower name) (by_name called)
rules_of cat bars (GetPartition db name values) = get_partition_rules cat (lower db) (lower name) (by_values values)
rules_of cat bars (GetPartitionByName db name called) = get_partition_rules cat (lower db) (lower name) (by_name called)
rules_of cat bars (GetPartitions db name max) = list_partitions_rules cat (lower db) (lower name)
rules_of cat bars (GetPartitionNames db name max) = list_partitions_rules cat (lower db) (lower name)
rules_of cat bars (GetPartitionsPs db name values max) = list_fitting_rules cat (lower db) (lower name) values
rules_of cat bars (GetPartitionNamesPs db name values max) = list_fitting_rules cat (lower db) (lower name) values
rules_of cat bars (GetPartitionsByNames db name names) = list_partitions_rules cat (lower db) (lower name)
rules_of cat bars (AlterPartition db name part) = alter_partition_rules cat bars (lower db) (lower name) part
rules_of cat bars (AlterPartitions db name parts) = alter_partitions_rules cat bars (lower db) (lower name) parts
rules_of cat bars (RenamePartition db name values part) = rename_partition_rules cat bars (lower db) (lower name) values part
rules_of cat bars (GetPartitionsByFilter db name filter max) = by_filter_rules cat (lower db) (lower name) filter
rules_of cat bars (GetNumPartitionsByFilter db name filter) = by_filter_rules cat (lower db) (lower name) filter
rules_of cat bars (UpdateTableColumnStatistics new) = update_table_rules cat bars new
rules_of cat bars (UpdatePartitionColumnStatistics new) = update_part_rules cat bars new
rules_of cat bars (GetTableColumnStatistics db name col) = get_table_stat_rules cat (lower db) (lower name) (lower col)
rules_of cat bars (GetPartitionColumnStatistics db name called col) = get_part_stat_rules cat (lower db) (lower name) called (lower col)
rules_of cat bars (DeleteTableColumnStatistics db name col) = delete_table_rules cat bars (lower db) (lower name) col
rules_of cat bars (DeletePartitionColumnStatistics db name called col) = delete_part_rules cat bars (lower db) (lower name) called col
rules_of cat bars (GetTableStatisticsReq db name cols) = get_stats_rules cat db name
rules_of cat bars (GetNextNotification last max) = []
rules_of cat bars GetCurrentNotificationEventId = []

-- what an accepted call changes
abbrev pub change : Catalogue → Bars → Call → ℕ → ℕ → Option Change
change cat bars GetAllDatabases moment next = None
change cat bars (GetDatabase name) moment next = None
change cat bars (CreateDatabase db) moment next = Some (database_created db next)
change cat bars (DropDatabase name cascade) moment next = Some (database_dropped cat (lower name))
change cat bars (GetDatabases pattern) moment next = None
change cat bars (AlterDatabase name db) moment next = Some (database_altered cat (lower name) db)
change cat bars (CreateTable new) moment next = Some (table_created cat new moment next)
change cat bars (DropTable db name) moment next = Some (table_dropped cat (lower db) (lower name))
change cat bars (GetTables db pattern) moment next = None
change cat bars (GetAllTables db) moment next = None
change cat bars (GetTable db name) moment next = None
change cat bars (GetTableReq db name) moment next = None
change cat bars (GetTableObjectsByName db names) moment next = None
change cat bars (AlterTable db name new) moment next = Some (table_altered cat (lower db) (lower name) new moment)
change cat bars (GetFields db name) moment next = None
change cat bars (GetSchema db name) moment next = None
change cat bars (AddPartition part) moment next = list_change cat part.db part.table (part ∷ []) moment
change cat bars (AddPartitions parts) moment next = partitions_added cat parts moment
change cat bars (AddPartitionsReq db name parts if_not_exists need_result) moment next = list_change cat db name parts moment
change cat bars (AppendPartition db name values) moment next = partition_appended cat (lower db) (lower name) (meant_values (by_values values)) moment
change cat bars (AppendPartitionByName db name called) moment next = partition_appended cat (lower db) (lower name) (meant_values (by_name called)) moment
change cat bars (DropPartition db name values) moment next = Some (partition_dropped cat (lower db) (lower name) (meant_values (by_values values)))
change cat bars (DropPartitionByName db name called) moment next = Some (partition_dropped cat (lower db) (lower name) (meant_values (by_name called)))
change cat bars (GetPartition db name values) moment next = None
change cat bars (GetPartitionByName db name called) moment next = None
change cat bars (GetPartitions db name max) moment next = None
change cat bars (GetPartitionNames db name max) moment next = None
change cat bars (GetPartitionsPs db name values max) moment next = None
change cat bars (GetPartitionNamesPs db name values max) moment next = None
change cat bars (GetPartitionsByNames db name names) moment next = None
change cat bars (AlterPartition db name part) moment next = parts_altered cat (lower db) (lower name) (part ∷ []) moment
change cat bars (AlterPartitions db name parts) moment next = parts_altered cat (lower db) (lower name) parts moment
change cat bars (RenamePartition db name values part) moment next = Some (partition_renamed cat (lower db) (lower name) values part moment)
change cat bars (GetPartitionsByFilter db name filter max) moment next = None
change cat bars (GetNumPartitionsByFilter db name filter) moment next = None
change cat bars (UpdateTableColumnStatistics new) moment next = table_updated cat new moment
change cat bars (UpdatePartitionColumnStatistics new) moment next = part_updated cat new moment
change cat bars (GetTableColumnStatistics db name col) moment next = None
change cat bars (GetPartitionColumnStatistics db name called col) moment next = None
change cat bars (DeleteTableColumnStatistics db name col) moment next = Some (table_deleted cat (lower db) (lower name) col)
change cat bars (DeletePartitionColumnStatistics db name called col) moment next = Some (part_deleted cat (lower db) (lower name) called col)
change cat bars (GetTableStatisticsReq db name cols) moment next = None
change cat bars (GetNextNotification last max) moment next = None
change cat bars GetCurrentNotificationEventId moment next = None

-- what an accepted call results in; nothing is said here of a poll, whose result isn't the catalogue's
abbrev pub result_of : Catalogue → Bars → Call → ℕ → ℕ → Reply
result_of cat bars GetAllDatabases moment next = Names (keys_of cat.databases)
result_of cat bars (GetDatabase name) moment next = shown_as (database cat (lower name)) bars.replicas (lower name)
result_of cat bars (CreateDatabase db) moment next = Nothing
result_of cat bars (DropDatabase name cascade) moment next = Nothing
result_of cat bars (GetDatabases pattern) moment next = Names (matching pattern (keys_of cat.databases))
result_of cat bars (AlterDatabase name db) moment next = Nothing
result_of cat bars (CreateTable new) moment next = Nothing
result_of cat bars (DropTable db name) moment next = Nothing
result_of cat bars (GetTables db pattern) moment next = Names (matching pattern (table_names cat (lower db)))
result_of cat bars (GetAllTables db) moment next = Names (table_names cat (lower db))
result_of cat bars (GetTable db name) moment next = table_as (table cat (lower db) (lower name)) (lower db) (lower name)
result_of cat bars (GetTableReq db name) moment next = requested_table cat db name
result_of cat bars (GetTableObjectsByName db names) moment next = Tables (tables_named cat (lower db) names)
result_of cat bars (AlterTable db name new) moment next = Nothing
result_of cat bars (GetFields db name) moment next = columns_as (table cat (lower db) (lower name))
result_of cat bars (GetSchema db name) moment next = schema_as (table cat (lower db) (lower name))
result_of cat bars (AddPartition part) moment next = list_told told.All cat part.db part.table (part ∷ []) moment
result_of cat bars (AddPartitions parts) moment next = count_added cat parts moment
result_of cat bars (AddPartitionsReq db name parts if_not_exists need_result) moment next = list_told (told_if need_result) cat db name parts moment
result_of cat bars (AppendPartition db name values) moment next = appended_as cat (lower db) (lower name) (meant_values (by_values values)) moment
result_of cat bars (AppendPartitionByName db name called) moment next = appended_as cat (lower db) (lower name) (meant_values (by_name called)) moment
result_of cat bars (DropPartition db name values) moment next = Flag true
result_of cat bars (DropPartitionByName db name called) moment next = Flag true
result_of cat bars (GetPartition db name values) moment next = meant_as cat (lower db) (lower name) (by_values values)
result_of cat bars (GetPartitionByName db name called) moment next = meant_as cat (lower db) (lower name) (by_name called)
result_of cat bars (GetPartitions db name max) moment next = parts_listed cat (lower db) (lower name) [] max
result_of cat bars (GetPartitionNames db name max) moment next = names_listed cat (lower db) (lower name) [] max
result_of cat bars (GetPartitionsPs db name values max) moment next = parts_listed cat (lower db) (lower name) values max
result_of cat bars (GetPartitionNamesPs db name values max) moment next = names_listed cat (lower db) (lower name) values max
result_of cat bars (GetPartitionsByNames db name names) moment next = Parts (parts_named cat (lower db) (lower name) names)
result_of cat bars (AlterPartition db name part) moment next = Nothing
result_of cat bars (AlterPartitions db name parts) moment next = Nothing
result_of cat bars (RenamePartition db name values part) moment next = Nothing
result_of cat bars (GetPartitionsByFilter db name filter max) moment next = parts_fitting cat (lower db) (lower name) filter max
result_of cat bars (GetNumPartitionsByFilter db name filter) moment next = parts_counted cat (lower db) (lower name) filter
result_of cat bars (UpdateTableColumnStatistics new) moment next = Flag true
result_of cat bars (UpdatePartitionColumnStatistics new) moment next = Flag true
result_of cat bars (GetTableColumnStatistics db name col) moment next = table_stat cat (lower db) (lower name) (lower col)
result_of cat bars (GetPartitionColumnStatistics db name called col) moment next = part_stat cat (lower db) (lower name) called (lower col)
result_of cat bars (DeleteTableColumnStatistics db name col) moment next = Flag true
result_of cat bars (DeletePartitionColumnStatistics db name called col) moment next = Flag true
result_of cat bars (GetTableStatisticsReq db name cols) moment next = requested_stats cat db name cols
result_of cat bars (GetNextNotification last max) moment next = Nothing
result_of cat bars GetCurrentNotificationEventId moment next = Nothing

-- no number is left for the event of a change: it has an operation, and the next number is above the last that an event may have
abbrev pub lacks_number : Option Change → ℕ → Option Refusal
lacks_number None next = None
lacks_number (Some change) next = if has_operation change && nat_lt 9223372036854775807 next then Some EventNumbersUsedUp else None

-- the first of two refusals, where there is one
abbrev pub first_refusal : Option Refusal → Option Refusal → Option Refusal
first_refusal (Some refusal) later = Some refusal
first_refusal None later = later

-- the first of its own rules that a call breaks
abbrev pub breaks : Catalogue → Bars → Call → Option Refusal
breaks cat bars call = first_broken (rules_of cat bars call)

-- why a call at this moment is refused, whose event would get the number `next`: the first of its own rules that it breaks, and after all of them that no number is left for its event
abbrev pub refusal : Catalogue → Bars → Call → ℕ → ℕ → Option Refusal
refusal cat bars call moment next = first_refusal (breaks cat bars call) (lacks_number (change cat bars call moment next) next)

-- what its own rules decide of a call
abbrev pub ruled : Catalogue → Bars → Call → ℕ → ℕ → Decision
ruled cat bars call moment next = decided_by (breaks cat bars call) (change cat bars call moment next) (result_of cat bars call moment next)

-- what is decided of a call: its refusal, or its change and its result
abbrev pub decision : Catalogue → Bars → Call → ℕ → ℕ → Decision
decision cat bars call moment next = decided_by (refusal cat bars call moment next) (change cat bars call moment next) (result_of cat bars call moment next)
