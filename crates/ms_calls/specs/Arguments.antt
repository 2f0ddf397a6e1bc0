-- What calls make of their arguments. A wrong argument is told by its id; where several are wrong, by the least.
use Rattle.std.specs.Prelude.{ℕ, nat_le, length, ◌==◌, Bool, true, false, not, ◌&&◌, if◌then◌else◌, List, [], ◌∷◌, ◌++◌, ⊤, Option, None, Some, ℤ, pos, negsuc, Result, Ok, Err}
use Rattle.std.specs.List.{list_all}
use Rattle.cat_types.specs.declared.arguments.DbArg.{DbArg}
use Rattle.cat_types.specs.declared.arguments.PartArg.{PartArg}
use Rattle.cat_types.specs.declared.arguments.StatsArg.{StatsArg}
use Rattle.cat_types.specs.declared.arguments.TableArg.{TableArg}
use Rattle.cat_types.specs.declared.calls.Call.{Call}
use Rattle.cat_types.specs.declared.calls.Call.TheVariants.{AddPartition, AddPartitions, AlterDatabase, AlterPartition, AlterPartitions, AlterTable, AppendPartition, AppendPartitionByName, CreateDatabase, CreateTable, DeletePartitionColumnStatistics, DeleteTableColumnStatistics, DropDatabase, DropPartition, DropPartitionByName, DropTable, GetAllTables, GetDatabase, GetDatabases, GetFields, GetNextNotification, GetNumPartitionsByFilter, GetPartition, GetPartitionByName, GetPartitionColumnStatistics, GetPartitionNames, GetPartitionNamesPs, GetPartitions, GetPartitionsByNames, GetPartitionsPs, GetSchema, GetTable, GetTableColumnStatistics, GetTableObjectsByName, GetTableReq, GetTableStatisticsReq, GetTables, RenamePartition, UpdatePartitionColumnStatistics, UpdateTableColumnStatistics}
use Rattle.cat_types.specs.declared.replies.Reply.{Reply}
use Rattle.cat_types.specs.declared.replies.Reply.TheVariants.{Flag, Names, Spec}
use Rattle.ms_calls.specs.declared.of_partitions.OfFirstValues.{OfFirstValues}
use Rattle.ms_calls.specs.declared.of_partitions.OfFirstValues.TheVariants as of_first_values
use Rattle.ms_calls.specs.declared.of_partitions.OfLimit.{OfLimit}
use Rattle.ms_calls.specs.declared.of_partitions.OfLimit.TheVariants as of_limit
use Rattle.ms_calls.specs.declared.of_partitions.OfValues.{OfValues}
use Rattle.ms_calls.specs.declared.of_partitions.OfValues.TheVariants as of_values
use Rattle.ms_calls.specs.declared.of_texts.OfText.{OfText}
use Rattle.ms_calls.specs.declared.of_texts.OfText.TheVariants as of_text
use Rattle.ms_calls.specs.declared.of_texts.OfThreeTexts.{OfThreeTexts}
use Rattle.ms_calls.specs.declared.of_texts.OfThreeTexts.TheVariants as of_three_texts
use Rattle.ms_calls.specs.declared.of_texts.OfTwoTexts.{OfTwoTexts}
use Rattle.ms_calls.specs.declared.of_texts.OfTwoTexts.TheVariants as of_two_texts
use Rattle.ms_calls.specs.declared.part_texts.OfName.{OfName}
use Rattle.ms_calls.specs.declared.part_texts.OfName.TheVariants as of_name
use Rattle.ms_calls.specs.declared.request.Asked.{Asked}
use Rattle.ms_calls.specs.declared.request.Asked.TheVariants.{Dump, Trim}
use Rattle.ms_calls.specs.declared.statistics.UpdateStatistics.{UpdateStatistics}
use Rattle.ms_calls.specs.declared.statistics.UpdateStatistics.TheVariants as update
use Rattle.ms_calls.specs.Refusals.{invalid_request}
use Rattle.ms_structs.specs.declared.got.Got.{Got}
use Rattle.ms_structs.specs.declared.got.Got.TheVariants.{Nothing, BadText, Is}
use Rattle.ms_structs.specs.declared.notification_request.NotificationRequest.{NotificationRequest}
use Rattle.part_names.specs.Reading.{first_unreadable, spec, vals}
use Rattle.stat_structs.specs.declared.requests.StatsRequest.{StatsRequest}
use Rattle.table_structs.specs.declared.requests.TableRequest.{TableRequest}

-- an argument that must be there and may have no bad text in it
abbrev pub needed : {T : Type 0} → ℤ → Got T → Result T ℤ
needed id Nothing = Err id
needed id BadText = Err id
needed id (Is value) = Ok value

-- an argument that may be absent, and then has this value
abbrev pub given : {T : Type 0} → ℤ → T → Got T → Result T ℤ
given id absent Nothing = Ok absent
given id absent BadText = Err id
given id absent (Is value) = Ok value

-- an argument that may be absent, and then stays so
abbrev pub optional : {T : Type 0} → ℤ → Got T → Result (Option T) ℤ
optional id Nothing = Ok None
optional id BadText = Err id
optional id (Is value) = Ok (Some value)

-- goes on with a value, where no argument was wrong so far
abbrev pub and_then : {A B : Type 0} → Result A ℤ → (A → Result B ℤ) → Result B ℤ
and_then (Ok value) go = go value
and_then (Err id) go = Err id

-- one argument that must be there: it makes this
abbrev pub from_one : {A C : Type 0} → Got A → (A → C) → Result C ℤ
from_one first make = and_then (needed (pos 1) first) (λ a. Ok (make a))

-- two arguments that must be there
abbrev pub needed_two : {A B : Type 0} → Got A → Got B → Result (A × B) ℤ
needed_two first second = and_then (needed (pos 1) first) (λ a. and_then (needed (pos 2) second) (λ b. Ok (a, b)))

-- they make this
abbrev pub from_two : {A B C : Type 0} → Got A → Got B → (A → B → C) → Result C ℤ
from_two first second make = and_then (needed_two first second) (λ all. Ok (make all.0 all.1))

-- three arguments that must be there
abbrev pub needed_three : {A B C : Type 0} → Got A → Got B → Got C → Result (A × B × C) ℤ
needed_three first second third = and_then (needed (pos 1) first) (λ a. and_then (needed (pos 2) second) (λ b. and_then (needed (pos 3) third) (λ c. Ok (a, b, c))))

-- they make this
abbrev pub from_three : {A B C D : Type 0} → Got A → Got B → Got C → (A → B → C → D) → Result D ℤ
from_three first second third make = and_then (needed_three first second third) (λ all. Ok (make all.0 all.1 all.2))

-- four arguments that must be there: they make this
abbrev pub from_four : {A B C D E : Type 0} → Got A → Got B → Got C → Got D → (A → B → C → D → E) → Result E ℤ
from_four first second third fourth make = and_then (needed_three first second third) (λ all. and_then (needed (pos 4) fourth) (λ d. Ok (make all.0 all.1 all.2 d)))

-- what the other arguments make stays, whatever a context says that comes with them; but a bad text in it is a wrong argument
abbrev pub with_context : {A : Type 0} → ℤ → Got ⊤ → Result A ℤ → Result A ℤ
with_context id context made = and_then made (λ value. and_then (given id tt context) (λ _. Ok value))

-- ---- calls of one shape

-- the call that a text makes
abbrev pub call_of_text : OfText → List ℕ → Call
call_of_text of_text.GetDatabase name = GetDatabase name
call_of_text of_text.GetDatabases pattern = GetDatabases pattern
call_of_text of_text.GetAllTables db = GetAllTables db

-- the call that a database and another text make
abbrev pub call_of_two_texts : OfTwoTexts → List ℕ → List ℕ → Call
call_of_two_texts of_two_texts.DropTable db table = DropTable db table
call_of_two_texts of_two_texts.GetTables db pattern = GetTables db pattern
call_of_two_texts of_two_texts.GetTable db table = GetTable db table
call_of_two_texts of_two_texts.GetFields db table = GetFields db table
call_of_two_texts of_two_texts.GetSchema db table = GetSchema db table

-- the call that a database, a table and another text make: a partition's name, a filter, a column
abbrev pub call_of_three_texts : OfThreeTexts → List ℕ → List ℕ → List ℕ → Call
call_of_three_texts of_three_texts.AppendPartitionByName db table name = AppendPartitionByName db table name
call_of_three_texts of_three_texts.DropPartitionByName db table name = DropPartitionByName db table name
call_of_three_texts of_three_texts.GetPartitionByName db table name = GetPartitionByName db table name
call_of_three_texts of_three_texts.GetNumPartitionsByFilter db table filter = GetNumPartitionsByFilter db table filter
call_of_three_texts of_three_texts.GetTableColumnStatistics db table col = GetTableColumnStatistics db table col

-- the call that a database, a table and values make, or names of partitions
abbrev pub call_of_values : OfValues → List ℕ → List ℕ → List (List ℕ) → Call
call_of_values of_values.AppendPartition db table values = AppendPartition db table values
call_of_values of_values.DropPartition db table values = DropPartition db table values
call_of_values of_values.GetPartition db table values = GetPartition db table values
call_of_values of_values.GetPartitionsByNames db table names = GetPartitionsByNames db table names

-- the call that a database, a table and a limit make
abbrev pub call_of_limit : OfLimit → List ℕ → List ℕ → ℤ → Call
call_of_limit of_limit.GetPartitions db table max = GetPartitions db table max
call_of_limit of_limit.GetPartitionNames db table max = GetPartitionNames db table max

-- the call that a database, a table, the first values and a limit make
abbrev pub call_of_first_values : OfFirstValues → List ℕ → List ℕ → List (List ℕ) → ℤ → Call
call_of_first_values of_first_values.GetPartitionsPs db table values max = GetPartitionsPs db table values max
call_of_first_values of_first_values.GetPartitionNamesPs db table values max = GetPartitionNamesPs db table values max

-- ---- the server itself

-- set_ugi: 1 the user, 2 the groups; it is answered the groups, and behind them the user
abbrev pub set_ugi_reply : Got (List ℕ) → Got (List (List ℕ)) → Result Reply ℤ
set_ugi_reply user groups = and_then (needed (pos 1) user) (λ user. and_then (given (pos 2) [] groups) (λ groups. Ok (Names (groups ++ user ∷ []))))

-- ---- databases

-- create_database: 1 the database
abbrev pub create_database_call : Got DbArg → Result Call ℤ
create_database_call db = from_one db CreateDatabase

-- get_database: 1 the name
abbrev pub get_database_call : Got (List ℕ) → Result Call ℤ
get_database_call name = from_one name GetDatabase

-- drop_database: 1 the name, 3 whether all that it holds is dropped; an absent flag is false
abbrev pub drop_database_call : Got (List ℕ) → Got Bool → Result Call ℤ
drop_database_call name cascade = and_then (needed (pos 1) name) (λ name. and_then (given (pos 3) false cascade) (λ cascade. Ok (DropDatabase name cascade)))

-- get_databases: 1 the pattern
abbrev pub get_databases_call : Got (List ℕ) → Result Call ℤ
get_databases_call pattern = from_one pattern GetDatabases

-- alter_database: 1 the name, 2 the new record
abbrev pub alter_database_call : Got (List ℕ) → Got DbArg → Result Call ℤ
alter_database_call name db = from_two name db AlterDatabase

-- ---- tables

-- create_table: 1 the table, and in its other spelling 2 a context, of which nothing is used
abbrev pub create_table_call : Got TableArg → Got ⊤ → Result Call ℤ
create_table_call table context = with_context (pos 2) context (from_one table CreateTable)

-- drop_table: 1 the database, 2 the table, and in its other spelling 4 a context, of which nothing is used
abbrev pub drop_table_call : Got (List ℕ) → Got (List ℕ) → Got ⊤ → Result Call ℤ
drop_table_call db table context = with_context (pos 4) context (from_two db table DropTable)

-- get_tables: 1 the database, 2 the pattern
abbrev pub get_tables_call : Got (List ℕ) → Got (List ℕ) → Result Call ℤ
get_tables_call db pattern = from_two db pattern GetTables

-- get_all_tables: 1 the database
abbrev pub get_all_tables_call : Got (List ℕ) → Result Call ℤ
get_all_tables_call db = from_one db GetAllTables

-- get_table: 1 the database, 2 the table
abbrev pub get_table_call : Got (List ℕ) → Got (List ℕ) → Result Call ℤ
get_table_call db table = from_two db table GetTable

-- get_table_req: 1 the request, whose names may be absent
abbrev pub get_table_req_call : Got TableRequest → Result Call ℤ
get_table_req_call request = from_one request (λ request. GetTableReq request.db request.table)

-- get_table_objects_by_name: 1 the database, 2 the tables
abbrev pub get_table_objects_by_name_call : Got (List ℕ) → Got (List (List ℕ)) → Result Call ℤ
get_table_objects_by_name_call db tables = from_two db tables GetTableObjectsByName

-- alter_table: 1 the database, 2 the table, 3 the new record, and in its other spelling 4 a context, of which nothing is used
abbrev pub alter_table_call : Got (List ℕ) → Got (List ℕ) → Got TableArg → Got ⊤ → Result Call ℤ
alter_table_call db table new context = with_context (pos 4) context (from_three db table new AlterTable)

-- get_fields: 1 the database, 2 the table
abbrev pub get_fields_call : Got (List ℕ) → Got (List ℕ) → Result Call ℤ
get_fields_call db table = from_two db table GetFields

-- get_schema: 1 the database, 2 the table
abbrev pub get_schema_call : Got (List ℕ) → Got (List ℕ) → Result Call ℤ
get_schema_call db table = from_two db table GetSchema

-- ---- events

-- get_next_notification: 1 the request
abbrev pub get_next_notification_call : Got NotificationRequest → Result Call ℤ
get_next_notification_call request = from_one request (λ request. GetNextNotification request.last request.max)

-- ---- partitions

-- add_partition: 1 the partition, and in its other spelling 2 a context, of which nothing is used
abbrev pub add_partition_call : Got PartArg → Got ⊤ → Result Call ℤ
add_partition_call part context = with_context (pos 2) context (from_one part AddPartition)

-- add_partitions: 1 the partitions
abbrev pub add_partitions_call : Got (List PartArg) → Result Call ℤ
add_partitions_call parts = from_one parts AddPartitions

-- add_partitions_req: 1 the request, which is a call
abbrev pub add_partitions_req_call : Got Call → Result Call ℤ
add_partitions_req_call request = needed (pos 1) request

-- drop_partition: 1 the database, 2 the table, 3 the values, and in its other spelling 5 a context, of which nothing is used
abbrev pub drop_partition_call : Got (List ℕ) → Got (List ℕ) → Got (List (List ℕ)) → Got ⊤ → Result Call ℤ
drop_partition_call db table values context = with_context (pos 5) context (from_three db table values DropPartition)

-- an absent limit: there is none
abbrev pub no_limit : ℤ
no_limit = negsuc 0

-- get_partitions and get_partition_names: 1 the database, 2 the table, 3 how many at most
abbrev pub list_call : Got (List ℕ) → Got (List ℕ) → Got ℤ → (List ℕ → List ℕ → ℤ → Call) → Result Call ℤ
list_call db table max make = and_then (needed_two db table) (λ all. and_then (given (pos 3) no_limit max) (λ max. Ok (make all.0 all.1 max)))

-- get_partitions_ps, get_partition_names_ps and get_partitions_by_filter: 1 the database, 2 the table, 3 which are wanted, by their first values or by a filter, 4 how many at most
abbrev pub list_some_call : {A : Type 0} → Got (List ℕ) → Got (List ℕ) → Got A → Got ℤ → (List ℕ → List ℕ → A → ℤ → Call) → Result Call ℤ
list_some_call db table wanted max make = and_then (needed_three db table wanted) (λ all. and_then (given (pos 4) no_limit max) (λ max. Ok (make all.0 all.1 all.2 max)))

-- alter_partition: 1 the database, 2 the table, 3 the partition, and in its other spelling 4 a context, of which nothing is used
abbrev pub alter_partition_call : Got (List ℕ) → Got (List ℕ) → Got PartArg → Got ⊤ → Result Call ℤ
alter_partition_call db table part context = with_context (pos 4) context (from_three db table part AlterPartition)

-- alter_partitions: 1 the database, 2 the table, 3 the partitions
abbrev pub alter_partitions_call : Got (List ℕ) → Got (List ℕ) → Got (List PartArg) → Result Call ℤ
alter_partitions_call db table parts = from_three db table parts AlterPartitions

-- rename_partition: 1 the database, 2 the table, 3 the values, 4 the partition with its new values
abbrev pub rename_partition_call : Got (List ℕ) → Got (List ℕ) → Got (List (List ℕ)) → Got PartArg → Result Call ℤ
rename_partition_call db table values part = from_four db table values part RenamePartition

-- ---- statistics of columns

-- the call that gives columns of a table, or of a partition, these statistics
abbrev pub call_of_statistics : UpdateStatistics → StatsArg → Call
call_of_statistics update.OfTable stats = UpdateTableColumnStatistics stats
call_of_statistics update.OfPartition stats = UpdatePartitionColumnStatistics stats

-- get_partition_column_statistics: 1 the database, 2 the table, 3 the partition's name, 4 the column
abbrev pub get_part_statistics_call : Got (List ℕ) → Got (List ℕ) → Got (List ℕ) → Got (List ℕ) → Result Call ℤ
get_part_statistics_call db table part col = from_four db table part col GetPartitionColumnStatistics

-- delete_table_column_statistics: 1 the database, 2 the table, 3 the column, which may be absent
abbrev pub delete_statistics_call : Got (List ℕ) → Got (List ℕ) → Got (List ℕ) → Result Call ℤ
delete_statistics_call db table col = and_then (needed_two db table) (λ all. and_then (optional (pos 3) col) (λ col. Ok (DeleteTableColumnStatistics all.0 all.1 col)))

-- get_table_statistics_req: 1 the request, whose names may be absent
abbrev pub get_statistics_req_call : Got StatsRequest → Result Call ℤ
get_statistics_req_call request = from_one request (λ request. GetTableStatisticsReq request.db request.table request.cols)

-- delete_partition_column_statistics: 1 the database, 2 the table, 3 the partition's name, 4 the column, which may be absent
abbrev pub delete_part_statistics_call : Got (List ℕ) → Got (List ℕ) → Got (List ℕ) → Got (List ℕ) → Result Call ℤ
delete_part_statistics_call db table part col = and_then (needed_three db table part) (λ all. and_then (optional (pos 4) col) (λ col. Ok (DeletePartitionColumnStatistics all.0 all.1 all.2 col)))

-- ---- replication

-- repl_dump: 1 the database, and three numbers that may be absent: 2 after which event, 3 up to which one, 4 how many numbers at most
abbrev pub dump_asked : Got (List ℕ) → Got ℤ → Got ℤ → Got ℤ → Result Asked ℤ
dump_asked db from to limit = and_then (needed (pos 1) db) (λ db. and_then (optional (pos 2) from) (λ from. and_then (optional (pos 3) to) (λ to. and_then (optional (pos 4) limit) (λ limit. Ok (Dump db from to limit)))))

-- trim_events: 1 up to which event
abbrev pub trim_asked : Got ℤ → Result Asked ℤ
trim_asked upto = from_one upto Trim

-- ---- names of partitions, which need no catalogue

-- a reply, unless a component of the name can't be read
abbrev pub unless_unreadable : Option ℕ → Reply → Reply
unless_unreadable None reply = reply
unless_unreadable (Some component) reply = invalid_request

-- partition_name_to_vals: 1 the name; it is answered the values
abbrev pub vals_reply : List ℕ → Reply
vals_reply name = unless_unreadable (first_unreadable name) (Names (vals name))

-- partition_name_to_spec: 1 the name; it is answered the values by their keys
abbrev pub spec_reply : List ℕ → Reply
spec_reply name = unless_unreadable (first_unreadable name) (Spec (spec name))

-- what is answered of a name
abbrev pub name_reply : OfName → List ℕ → Reply
name_reply of_name.Vals name = vals_reply name
name_reply of_name.Spec name = spec_reply name

-- whether a partition may have a value: at most 4000 bytes, and none of them 0
abbrev pub is_valid_value : List ℕ → Bool
is_valid_value value = nat_le (length value) 4000 && list_all (λ byte. not (byte == 0)) value

-- what is answered of values: whether all of them are valid, or, if it is so wanted, a refusal where they aren't
abbrev pub valid_reply : List (List ℕ) → Bool → Reply
valid_reply values refuse = if list_all is_valid_value values then Flag true else (if refuse then invalid_request else Flag false)

-- partition_name_has_valid_characters: 1 the values, 2 whether those that aren't valid are refused; an absent flag is false
abbrev pub has_valid_characters_reply : Got (List (List ℕ)) → Got Bool → Result Reply ℤ
has_valid_characters_reply values refuse = and_then (needed (pos 1) values) (λ values. and_then (given (pos 2) false refuse) (λ refuse. Ok (valid_reply values refuse)))
