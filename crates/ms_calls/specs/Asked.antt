-- What a message asks. It depends on the call's name and on what is said of each argument: by the last field with the argument's id and type.
use Rattle.std.specs.Prelude.{◌≡◌, ◌⊎◌, ⊤, ℕ, Bool, List, [], ◌∷◌, Option, None, Some, ℤ, pos, Result, Ok, Err, codes}
use Rattle.cat_types.specs.declared.arguments.DbArg.{DbArg}
use Rattle.cat_types.specs.declared.arguments.PartArg.{PartArg}
use Rattle.cat_types.specs.declared.arguments.StatsArg.{StatsArg}
use Rattle.cat_types.specs.declared.arguments.TableArg.{TableArg}
use Rattle.cat_types.specs.declared.calls.Call.{Call}
use Rattle.cat_types.specs.declared.calls.Call.TheVariants.{AddPartition, AddPartitions, AddPartitionsReq, AlterDatabase, AlterPartition, AlterPartitions, AlterTable, AppendPartition, AppendPartitionByName, CreateDatabase, CreateTable, DeletePartitionColumnStatistics, DeleteTableColumnStatistics, DropDatabase, DropPartition, DropPartitionByName, DropTable, GetAllDatabases, GetAllTables, GetCurrentNotificationEventId, GetDatabase, GetDatabases, GetFields, GetNextNotification, GetNumPartitionsByFilter, GetPartition, GetPartitionByName, GetPartitionColumnStatistics, GetPartitionNames, GetPartitionNamesPs, GetPartitions, GetPartitionsByFilter, GetPartitionsByNames, GetPartitionsPs, GetSchema, GetTable, GetTableColumnStatistics, GetTableObjectsByName, GetTableReq, GetTableStatisticsReq, GetTables, RenamePartition, UpdatePartitionColumnStatistics, UpdateTableColumnStatistics}
use Rattle.cat_types.specs.declared.replies.Reply.{Reply}
use Rattle.cat_types.specs.declared.replies.Reply.TheVariants.{Names, Nothing, Number}
use Rattle.ms_calls.specs.declared.request.Asked.{Asked}
use Rattle.ms_calls.specs.declared.request.Asked.TheVariants.{BadArgument, Client, Dump, Plain, Shutdown, Trim, Unknown}
use Rattle.ms_calls.specs.declared.method.Method.{Method}
use Rattle.ms_calls.specs.declared.method.Method.TheVariants as method
use Rattle.ms_calls.specs.Arguments.{add_partition_call, add_partitions_call, add_partitions_req_call, alter_database_call, alter_partition_call, alter_partitions_call, alter_table_call, create_database_call, create_table_call, delete_part_statistics_call, delete_statistics_call, drop_database_call, drop_partition_call, drop_table_call, dump_asked, from_one, from_three, get_all_tables_call, get_database_call, get_databases_call, get_fields_call, get_next_notification_call, get_part_statistics_call, get_schema_call, get_statistics_req_call, get_table_call, get_table_objects_by_name_call, get_table_req_call, get_tables_call, has_valid_characters_reply, list_call, list_some_call, name_reply, rename_partition_call, set_ugi_reply, trim_asked}
use Rattle.ms_calls.specs.declared.part_texts.OfName.{OfName}
use Rattle.ms_calls.specs.declared.part_texts.OfName.TheVariants as of_name
use Rattle.ms_structs.specs.Database.{database_of}
use Rattle.ms_structs.specs.Notifications.{request_of as poll_of}
use Rattle.ms_calls.specs.Methods.{method_named}
use Rattle.ms_structs.specs.declared.got.Got.{Got}
use Rattle.ms_structs.specs.declared.got.Got.TheVariants as got
use Rattle.ms_structs.specs.Slots.{only, said}
use Rattle.stat_structs.specs.Statistics.{statistics_of}
use Rattle.stat_structs.specs.Requests.{request_of as statistics_request_of}
use Rattle.table_structs.specs.Contexts.{context_of}
use Rattle.table_structs.specs.PartRequests.{adding_of}
use Rattle.table_structs.specs.Partitions.{partition_of}
use Rattle.table_structs.specs.Requests.{request_of}
use Rattle.table_structs.specs.Tables.{table_of}
use Rattle.thrift_binary.specs.Codes.{bool_code, i16_code, i32_code, i64_code, list_code, struct_code, text_code}
use Rattle.thrift_binary.specs.Tree.{Fields}
use Rattle.ms_structs.specs.Values.{flag_of, items_of, number_of, text_of}

-- the name that the server has
abbrev pub server_name : List ℕ
server_name = codes "new db based metaserver"

-- a call of the catalogue, or the id of a wrong argument
abbrev pub client : Result Call ℤ → Asked
client (Ok call) = Client call
client (Err id) = BadArgument id

-- a reply that needs no catalogue, or the id of a wrong argument
abbrev pub plain : Result Reply ℤ → Asked
plain (Ok reply) = Plain reply
plain (Err id) = BadArgument id

-- what is asked, unless an argument is wrong, which is told by its id
abbrev pub unless_wrong : Result Asked ℤ → Asked
unless_wrong (Ok asked) = asked
unless_wrong (Err id) = BadArgument id

-- a name of a partition: what is answered of it, or the id of a wrong argument
abbrev pub name_asked : OfName → Got (List ℕ) → Asked
name_asked call name = plain (from_one name (name_reply call))

-- ---- what is said of the argument with an id, by a value of the type that is wanted

-- a text
abbrev pub text_at : ℤ → Fields → Got (List ℕ)
text_at id v = said id text_code text_of v

-- a list of texts
abbrev pub texts_at : ℤ → Fields → Got (List (List ℕ))
texts_at id v = said id list_code (items_of text_code text_of) v

-- a flag
abbrev pub flag_at : ℤ → Fields → Got Bool
flag_at id v = said id bool_code flag_of v

-- a Database
abbrev pub database_at : ℤ → Fields → Got DbArg
database_at id v = said id struct_code database_of v

-- a Table
abbrev pub table_at : ℤ → Fields → Got TableArg
table_at id v = said id struct_code table_of v

-- a number of two bytes
abbrev pub limit_at : ℤ → Fields → Got ℤ
limit_at id v = said id i16_code number_of v

-- a number of four bytes
abbrev pub int_at : ℤ → Fields → Got ℤ
int_at id v = said id i32_code number_of v

-- a number of eight bytes
abbrev pub long_at : ℤ → Fields → Got ℤ
long_at id v = said id i64_code number_of v

-- a Partition
abbrev pub partition_at : ℤ → Fields → Got PartArg
partition_at id v = said id struct_code partition_of v

-- a list of Partitions
abbrev pub partitions_at : ℤ → Fields → Got (List PartArg)
partitions_at id v = said id list_code (items_of struct_code partition_of) v

-- a ColumnStatistics
abbrev pub statistics_at : ℤ → Fields → Got StatsArg
statistics_at id v = said id struct_code statistics_of v

-- an EnvironmentContext
abbrev pub context_at : ℤ → Fields → Got ⊤
context_at id v = said id struct_code context_of v

-- A call with these fields of its argument struct asks for this. Some calls have no arguments, and whatever fields came are passed over; a call that nobody knows is unknown.
abbrev pub asked_by : Option Method → Fields → Asked
asked_by None v = Unknown
asked_by (Some method.GetName) v = Plain (Names (server_name ∷ []))
asked_by (Some method.GetStatus) v = Plain (Number (pos 2))
asked_by (Some method.Shutdown) v = Shutdown
asked_by (Some method.SetUgi) v = plain (set_ugi_reply (text_at (pos 1) v) (texts_at (pos 2) v))
asked_by (Some method.GetAllFunctions) v = Plain Nothing
asked_by (Some method.PartitionNameHasValidCharacters) v = plain (has_valid_characters_reply (texts_at (pos 1) v) (flag_at (pos 2) v))
asked_by (Some method.PartitionNameToVals) v = name_asked of_name.Vals (text_at (pos 1) v)
asked_by (Some method.PartitionNameToSpec) v = name_asked of_name.Spec (text_at (pos 1) v)
asked_by (Some method.CreateDatabase) v = client (create_database_call (database_at (pos 1) v))
asked_by (Some method.GetDatabase) v = client (get_database_call (text_at (pos 1) v))
asked_by (Some method.DropDatabase) v = client (drop_database_call (text_at (pos 1) v) (flag_at (pos 3) v))
asked_by (Some method.GetDatabases) v = client (get_databases_call (text_at (pos 1) v))
asked_by (Some method.GetAllDatabases) v = Client GetAllDatabases
asked_by (Some method.AlterDatabase) v = client (alter_database_call (text_at (pos 1) v) (database_at (pos 2) v))
asked_by (Some method.CreateTable) v = client (create_table_call (table_at (pos 1) v) got.Nothing)
asked_by (Some method.CreateTableWithEnvironmentContext) v = client (create_table_call (table_at (pos 1) v) (context_at (pos 2) v))
asked_by (Some method.DropTable) v = client (drop_table_call (text_at (pos 1) v) (text_at (pos 2) v) got.Nothing)
asked_by (Some method.DropTableWithEnvironmentContext) v = client (drop_table_call (text_at (pos 1) v) (text_at (pos 2) v) (context_at (pos 4) v))
asked_by (Some method.GetTables) v = client (get_tables_call (text_at (pos 1) v) (text_at (pos 2) v))
asked_by (Some method.GetAllTables) v = client (get_all_tables_call (text_at (pos 1) v))
asked_by (Some method.GetTable) v = client (get_table_call (text_at (pos 1) v) (text_at (pos 2) v))
asked_by (Some method.GetTableReq) v = client (get_table_req_call (said (pos 1) struct_code request_of v))
asked_by (Some method.GetTableObjectsByName) v = client (get_table_objects_by_name_call (text_at (pos 1) v) (texts_at (pos 2) v))
asked_by (Some method.AlterTable) v = client (alter_table_call (text_at (pos 1) v) (text_at (pos 2) v) (table_at (pos 3) v) got.Nothing)
asked_by (Some method.AlterTableWithEnvironmentContext) v = client (alter_table_call (text_at (pos 1) v) (text_at (pos 2) v) (table_at (pos 3) v) (context_at (pos 4) v))
asked_by (Some method.GetFields) v = client (get_fields_call (text_at (pos 1) v) (text_at (pos 2) v))
asked_by (Some method.GetSchema) v = client (get_schema_call (text_at (pos 1) v) (text_at (pos 2) v))
asked_by (Some method.AddPartition) v = client (add_partition_call (partition_at (pos 1) v) got.Nothing)
asked_by (Some method.AddPartitionWithEnvironmentContext) v = client (add_partition_call (partition_at (pos 1) v) (context_at (pos 2) v))
asked_by (Some method.AddPartitions) v = client (add_partitions_call (partitions_at (pos 1) v))
asked_by (Some method.AddPartitionsReq) v = client (add_partitions_req_call (said (pos 1) struct_code adding_of v))
asked_by (Some method.AppendPartition) v = client (from_three (text_at (pos 1) v) (text_at (pos 2) v) (texts_at (pos 3) v) AppendPartition)
asked_by (Some method.AppendPartitionByName) v = client (from_three (text_at (pos 1) v) (text_at (pos 2) v) (text_at (pos 3) v) AppendPartitionByName)
asked_by (Some method.DropPartition) v = client (drop_partition_call (text_at (pos 1) v) (text_at (pos 2) v) (texts_at (pos 3) v) got.Nothing)
asked_by (Some method.DropPartitionWithEnvironmentContext) v = client (drop_partition_call (text_at (pos 1) v) (text_at (pos 2) v) (texts_at (pos 3) v) (context_at (pos 5) v))
asked_by (Some method.DropPartitionByName) v = client (from_three (text_at (pos 1) v) (text_at (pos 2) v) (text_at (pos 3) v) DropPartitionByName)
asked_by (Some method.GetPartition) v = client (from_three (text_at (pos 1) v) (text_at (pos 2) v) (texts_at (pos 3) v) GetPartition)
asked_by (Some method.GetPartitionByName) v = client (from_three (text_at (pos 1) v) (text_at (pos 2) v) (text_at (pos 3) v) GetPartitionByName)
asked_by (Some method.GetPartitions) v = client (list_call (text_at (pos 1) v) (text_at (pos 2) v) (limit_at (pos 3) v) GetPartitions)
asked_by (Some method.GetPartitionNames) v = client (list_call (text_at (pos 1) v) (text_at (pos 2) v) (limit_at (pos 3) v) GetPartitionNames)
asked_by (Some method.GetPartitionsPs) v = client (list_some_call (text_at (pos 1) v) (text_at (pos 2) v) (texts_at (pos 3) v) (limit_at (pos 4) v) GetPartitionsPs)
asked_by (Some method.GetPartitionNamesPs) v = client (list_some_call (text_at (pos 1) v) (text_at (pos 2) v) (texts_at (pos 3) v) (limit_at (pos 4) v) GetPartitionNamesPs)
asked_by (Some method.GetPartitionsByFilter) v = client (list_some_call (text_at (pos 1) v) (text_at (pos 2) v) (text_at (pos 3) v) (limit_at (pos 4) v) GetPartitionsByFilter)
asked_by (Some method.GetNumPartitionsByFilter) v = client (from_three (text_at (pos 1) v) (text_at (pos 2) v) (text_at (pos 3) v) GetNumPartitionsByFilter)
asked_by (Some method.GetPartitionsByNames) v = client (from_three (text_at (pos 1) v) (text_at (pos 2) v) (texts_at (pos 3) v) GetPartitionsByNames)
asked_by (Some method.AlterPartition) v = client (alter_partition_call (text_at (pos 1) v) (text_at (pos 2) v) (partition_at (pos 3) v) got.Nothing)
asked_by (Some method.AlterPartitionWithEnvironmentContext) v = client (alter_partition_call (text_at (pos 1) v) (text_at (pos 2) v) (partition_at (pos 3) v) (context_at (pos 4) v))
asked_by (Some method.AlterPartitions) v = client (alter_partitions_call (text_at (pos 1) v) (text_at (pos 2) v) (partitions_at (pos 3) v))
asked_by (Some method.RenamePartition) v = client (rename_partition_call (text_at (pos 1) v) (text_at (pos 2) v) (texts_at (pos 3) v) (partition_at (pos 4) v))
asked_by (Some method.UpdateTableColumnStatistics) v = client (from_one (statistics_at (pos 1) v) UpdateTableColumnStatistics)
asked_by (Some method.UpdatePartitionColumnStatistics) v = client (from_one (statistics_at (pos 1) v) UpdatePartitionColumnStatistics)
asked_by (Some method.GetTableColumnStatistics) v = client (from_three (text_at (pos 1) v) (text_at (pos 2) v) (text_at (pos 3) v) GetTableColumnStatistics)
asked_by (Some method.GetPartitionColumnStatistics) v = client (get_part_statistics_call (text_at (pos 1) v) (text_at (pos 2) v) (text_at (pos 3) v) (text_at (pos 4) v))
asked_by (Some method.DeleteTableColumnStatistics) v = client (delete_statistics_call (text_at (pos 1) v) (text_at (pos 2) v) (text_at (pos 3) v))
asked_by (Some method.DeletePartitionColumnStatistics) v = client (delete_part_statistics_call (text_at (pos 1) v) (text_at (pos 2) v) (text_at (pos 3) v) (text_at (pos 4) v))
asked_by (Some method.GetTableStatisticsReq) v = client (get_statistics_req_call (said (pos 1) struct_code statistics_request_of v))
asked_by (Some method.GetNextNotification) v = client (get_next_notification_call (said (pos 1) struct_code poll_of v))
asked_by (Some method.GetCurrentNotificationEventId) v = Client GetCurrentNotificationEventId
asked_by (Some method.ReplDump) v = unless_wrong (dump_asked (text_at (pos 1) v) (long_at (pos 2) v) (long_at (pos 3) v) (int_at (pos 4) v))
asked_by (Some method.TrimEvents) v = unless_wrong (trim_asked (long_at (pos 1) v))

-- a message with this name
abbrev pub asked_of : List ℕ → Fields → Asked
asked_of name v = asked_by (method_named name) v

-- a fact of the reply of a call that needs no catalogue
abbrev pub IfPlain : Asked → (Reply → Type 0) → Type 0
IfPlain (Plain reply) fact = fact reply
IfPlain (Client call) fact = ⊤
IfPlain (Dump db from to limit) fact = ⊤
IfPlain (Trim upto) fact = ⊤
IfPlain Unknown fact = ⊤
IfPlain (BadArgument id) fact = ⊤
IfPlain Shutdown fact = ⊤

-- a fact of a call of the catalogue
abbrev pub IfClient : Asked → (Call → Type 0) → Type 0
IfClient (Client call) fact = fact call
IfClient (Dump db from to limit) fact = ⊤
IfClient (Trim upto) fact = ⊤
IfClient (Plain reply) fact = ⊤
IfClient Unknown fact = ⊤
IfClient (BadArgument id) fact = ⊤
IfClient Shutdown fact = ⊤

-- a call of the catalogue is made by a message with this method; some calls have two spellings
abbrev pub IsMethodOf : Call → Method → Type 0
IsMethodOf (CreateDatabase db) named = named ≡ method.CreateDatabase
IsMethodOf (GetDatabase name) named = named ≡ method.GetDatabase
IsMethodOf (DropDatabase name cascade) named = named ≡ method.DropDatabase
IsMethodOf (GetDatabases pattern) named = named ≡ method.GetDatabases
IsMethodOf GetAllDatabases named = named ≡ method.GetAllDatabases
IsMethodOf (AlterDatabase name db) named = named ≡ method.AlterDatabase
IsMethodOf (CreateTable table) named = (named ≡ method.CreateTable) ⊎ (named ≡ method.CreateTableWithEnvironmentContext)
IsMethodOf (DropTable db table) named = (named ≡ method.DropTable) ⊎ (named ≡ method.DropTableWithEnvironmentContext)
IsMethodOf (GetTables db pattern) named = named ≡ method.GetTables
IsMethodOf (GetAllTables db) named = named ≡ method.GetAllTables
IsMethodOf (GetTable db table) named = named ≡ method.GetTable
IsMethodOf (GetTableReq db table) named = named ≡ method.GetTableReq
IsMethodOf (GetTableObjectsByName db tables) named = named ≡ method.GetTableObjectsByName
IsMethodOf (AlterTable db table new) named = (named ≡ method.AlterTable) ⊎ (named ≡ method.AlterTableWithEnvironmentContext)
IsMethodOf (GetFields db table) named = named ≡ method.GetFields
IsMethodOf (GetSchema db table) named = named ≡ method.GetSchema
IsMethodOf (AddPartition part) named = (named ≡ method.AddPartition) ⊎ (named ≡ method.AddPartitionWithEnvironmentContext)
IsMethodOf (AddPartitions parts) named = named ≡ method.AddPartitions
IsMethodOf (AddPartitionsReq db table parts if_not_exists need_result) named = named ≡ method.AddPartitionsReq
IsMethodOf (AppendPartition db table values) named = named ≡ method.AppendPartition
IsMethodOf (AppendPartitionByName db table name) named = named ≡ method.AppendPartitionByName
IsMethodOf (DropPartition db table values) named = (named ≡ method.DropPartition) ⊎ (named ≡ method.DropPartitionWithEnvironmentContext)
IsMethodOf (DropPartitionByName db table name) named = named ≡ method.DropPartitionByName
IsMethodOf (GetPartition db table values) named = named ≡ method.GetPartition
IsMethodOf (GetPartitionByName db table name) named = named ≡ method.GetPartitionByName
IsMethodOf (GetPartitions db table max) named = named ≡ method.GetPartitions
IsMethodOf (GetPartitionNames db table max) named = named ≡ method.GetPartitionNames
IsMethodOf (GetPartitionsPs db table values max) named = named ≡ method.GetPartitionsPs
IsMethodOf (GetPartitionNamesPs db table values max) named = named ≡ method.GetPartitionNamesPs
IsMethodOf (GetPartitionsByFilter db table filter max) named = named ≡ method.GetPartitionsByFilter
IsMethodOf (GetNumPartitionsByFilter db table filter) named = named ≡ method.GetNumPartitionsByFilter
IsMethodOf (GetPartitionsByNames db table names) named = named ≡ method.GetPartitionsByNames
IsMethodOf (AlterPartition db table part) named = (named ≡ method.AlterPartition) ⊎ (named ≡ method.AlterPartitionWithEnvironmentContext)
IsMethodOf (AlterPartitions db table parts) named = named ≡ method.AlterPartitions
IsMethodOf (RenamePartition db table values part) named = named ≡ method.RenamePartition
IsMethodOf (UpdateTableColumnStatistics stats) named = named ≡ method.UpdateTableColumnStatistics
IsMethodOf (UpdatePartitionColumnStatistics stats) named = named ≡ method.UpdatePartitionColumnStatistics
IsMethodOf (GetTableColumnStatistics db table col) named = named ≡ method.GetTableColumnStatistics
IsMethodOf (GetPartitionColumnStatistics db table part col) named = named ≡ method.GetPartitionColumnStatistics
IsMethodOf (DeleteTableColumnStatistics db table col) named = named ≡ method.DeleteTableColumnStatistics
IsMethodOf (DeletePartitionColumnStatistics db table part col) named = named ≡ method.DeletePartitionColumnStatistics
IsMethodOf (GetTableStatisticsReq db table cols) named = named ≡ method.GetTableStatisticsReq
IsMethodOf (GetNextNotification last max) named = named ≡ method.GetNextNotification
IsMethodOf GetCurrentNotificationEventId named = named ≡ method.GetCurrentNotificationEventId

-- a call of the catalogue came under a name that makes it
abbrev pub CameAs : Option Method → Call → Type 0
CameAs None call = ⊥
CameAs (Some named) call = IsMethodOf call named

-- a dump and a trim are each asked for by a method of their own
abbrev pub HasOwnMethod : Option Method → Asked → Type 0
HasOwnMethod named (Dump db from to limit) = named ≡ Some method.ReplDump
HasOwnMethod named (Trim upto) = named ≡ Some method.TrimEvents
HasOwnMethod named (Client call) = ⊤
HasOwnMethod named (Plain reply) = ⊤
HasOwnMethod named Unknown = ⊤
HasOwnMethod named (BadArgument id) = ⊤
HasOwnMethod named Shutdown = ⊤

-- two structs have, of each id, the same fields in the same order
abbrev pub SameByIds : Fields → Fields → Type 0
SameByIds v w = (id : ℤ) → only id v ≡ only id w

-- the order in which fields with different ids come doesn't count
abbrev pub OrderOfFieldsIsFree : Type 0
OrderOfFieldsIsFree = (name : List ℕ) (v w : Fields) → SameByIds v w → asked_of name v ≡ asked_of name w
