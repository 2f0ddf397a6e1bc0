-- The reply to a message: which replies a call can have, and how each is sent.
use Rattle.std.specs.Prelude.{ℕ, Bool, true, false, List, [], ◌∷◌, map, Option, None, Some, IsSome, ℤ, pos}
use Rattle.cat_types.specs.declared.arguments.StatsDesc.{StatsDesc}
use Rattle.cat_types.specs.declared.named.NamedPart.{NamedPart}
use Rattle.cat_types.specs.declared.named.NamedStat.{NamedStat}
use Rattle.cat_types.specs.declared.named.NamedTable.{NamedTable}
use Rattle.cat_types.specs.declared.replies.Reply.{Reply}
use Rattle.cat_types.specs.declared.replies.Reply.TheVariants as reply
use Rattle.thrift_binary.specs.Codes as codes
use Rattle.thrift_binary.specs.Codes.{bool_code, i32_code, i64_code, list_code, map_code, struct_code, text_code}
use Rattle.thrift_binary.specs.declared.head.Head.{Head}
use Rattle.thrift_binary.specs.Tree.{Wire, Flag, Number, Bytes, Struct, Fields, NoFields, Field}
use Rattle.ms_calls.specs.declared.method.Method.{Method}
use Rattle.ms_calls.specs.declared.method.ResultType.{ResultType}
use Rattle.ms_calls.specs.declared.method.ResultType.TheVariants as of
use Rattle.ms_calls.specs.Methods.{result_type}
use Rattle.ms_calls.specs.Exceptions.{general_code, declared_id}
use Rattle.ms_structs.specs.Dumps.{dump_result}
use Rattle.ms_structs.specs.Notifications.{cut_long, events_fields, newest_fields}
use Rattle.ms_structs.specs.Written.{items_tree, params_tree, texts_tree, database_fields}
use Rattle.stat_structs.specs.Statistics.{statistics_tree}
use Rattle.stat_structs.specs.Requests.{statistics_result}
use Rattle.table_structs.specs.Columns.{column_tree}
use Rattle.table_structs.specs.Partitions.{partition_tree}
use Rattle.table_structs.specs.PartRequests.{partitions_result}
use Rattle.table_structs.specs.Requests.{table_result}
use Rattle.table_structs.specs.Tables.{table_tree}
use Rattle.notify_log.specs.Messages.{message_text}

-- these fields, or none
abbrev pub or_none : Option Fields → Fields
or_none (Some fields) = fields
or_none None = NoFields

-- one text, as it stands under field 0; any other number of texts is no result of one text
abbrev pub one_text : List (List ℕ) → Option Fields
one_text [] = None
one_text (text ∷ []) = Some (Field text_code (pos 0) (Bytes text) NoFields)
one_text (text ∷ more ∷ texts) = None

-- one table, as it stands under field 0; any other number of tables is no result of one table
abbrev pub one_table : List NamedTable → Option Fields
one_table [] = None
one_table (table ∷ []) = Some (Field struct_code (pos 0) (table_tree table) NoFields)
one_table (table ∷ more ∷ tables) = None

-- one table in a struct, as it stands under field 0; any other number of tables is no result of one table
abbrev pub table_in_struct : List NamedTable → Option Fields
table_in_struct [] = None
table_in_struct (table ∷ []) = Some (Field struct_code (pos 0) (table_result table) NoFields)
table_in_struct (table ∷ more ∷ tables) = None

-- one partition, as it stands under field 0; any other number of partitions is no result of one partition
abbrev pub one_part : List NamedPart → Option Fields
one_part [] = None
one_part (part ∷ []) = Some (Field struct_code (pos 0) (partition_tree part) NoFields)
one_part (part ∷ more ∷ parts) = None

-- statistics are a table's, unless a partition is named
abbrev pub is_table_level : Option (List ℕ) → Bool
is_table_level None = true
is_table_level (Some part) = false

-- they were taken when the first of them was
abbrev pub taken_at : List NamedStat → Option ℤ
taken_at [] = None
taken_at (stat ∷ stats) = Some stat.rec.analyzed

-- of what statistics are
abbrev pub desc_of : List ℕ → List ℕ → Option (List ℕ) → List NamedStat → StatsDesc
desc_of db table part stats = record { table_level = is_table_level part; db = Some db; table = Some table; part = part; analyzed = taken_at stats }

-- A result of this type stands under field 0; where there is none, so does no field. What is no result of the type has no fields to be sent as, so a result that is forgotten here can't be replied.
abbrev pub result_fields : ResultType → Reply → Option Fields
result_fields of.NoField reply.Nothing = Some NoFields
result_fields of.EmptyStruct reply.Nothing = Some (Field struct_code (pos 0) (Struct NoFields) NoFields)
result_fields of.OneText (reply.Names texts) = one_text texts
result_fields of.TextList (reply.Names texts) = Some (Field list_code (pos 0) (texts_tree texts) NoFields)
result_fields of.Flag (reply.Flag flag) = Some (Field bool_code (pos 0) (Flag flag) NoFields)
result_fields of.TextMap (reply.Spec spec) = Some (Field map_code (pos 0) (params_tree spec) NoFields)
result_fields of.Int (reply.Number number) = Some (Field i32_code (pos 0) (Number number) NoFields)
result_fields of.Database (reply.Db name rec) = Some (Field struct_code (pos 0) (Struct (database_fields name rec)) NoFields)
result_fields of.OneTable (reply.Tables tables) = one_table tables
result_fields of.TableResult (reply.Tables tables) = table_in_struct tables
result_fields of.TableList (reply.Tables tables) = Some (Field list_code (pos 0) (items_tree struct_code table_tree tables) NoFields)
result_fields of.ColumnList (reply.Fields columns) = Some (Field list_code (pos 0) (items_tree struct_code column_tree columns) NoFields)
result_fields of.OnePart (reply.Parts parts) = one_part parts
result_fields of.PartList (reply.Parts parts) = Some (Field list_code (pos 0) (items_tree struct_code partition_tree parts) NoFields)
result_fields of.PartsResult (reply.Parts parts) = Some (Field struct_code (pos 0) (partitions_result (Some parts)) NoFields)
result_fields of.PartsResult reply.Nothing = Some (Field struct_code (pos 0) (partitions_result None) NoFields)
result_fields of.Statistics (reply.ColumnStats db table part stats) = Some (Field struct_code (pos 0) (statistics_tree (desc_of db table part stats) stats) NoFields)
result_fields of.StatisticsResult (reply.Stats stats) = Some (Field struct_code (pos 0) (statistics_result stats) NoFields)
result_fields of.Events (reply.Events events) = Some (Field struct_code (pos 0) (Struct (events_fields events (map message_text events))) NoFields)
result_fields of.NewestEvent (reply.Big number) = Some (Field struct_code (pos 0) (Struct (newest_fields number)) NoFields)
result_fields of.DumpResult (reply.Dumped dir last) = Some (Field struct_code (pos 0) (dump_result dir (cut_long last)) NoFields)
result_fields of.Long (reply.Big number) = Some (Field i64_code (pos 0) (Number number) NoFields)
result_fields type reply = None

-- a TApplicationException: the text, and the code
abbrev pub general_fields : List ℕ → ℤ → Fields
general_fields text code = Field text_code (pos 1) (Bytes text) (Field i32_code (pos 2) (Number code) NoFields)

-- an exception that is declared: a struct with the text
abbrev pub exception_tree : List ℕ → Wire
exception_tree text = Struct (Field text_code (pos 1) (Bytes text) NoFields)

abbrev pub declared_fields : List ℕ → ℤ → Fields
declared_fields text id = Field struct_code id (exception_tree text) NoFields

-- a refusal is sent as what every call may be answered, or as the exception that its call declares
abbrev pub refused_as : List ℕ → Option ℤ → Option ℤ → Option Fields
refused_as text (Some code) declared = Some (general_fields text code)
refused_as text None (Some id) = Some (declared_fields text id)
refused_as text None None = None

-- the fields of the struct that replies, where the call can have this reply: a refusal that every call may be answered, one whose exception the call declares, or the call's own result
abbrev pub fields_of_reply : Option Method → Reply → Option Fields
fields_of_reply method (reply.Refused number text) = refused_as text (general_code number) (declared_id method number)
fields_of_reply (Some method) result = result_fields (result_type method) result
fields_of_reply None result = None

-- a call can have this reply
abbrev pub CanReply : Option Method → Reply → Type 0
CanReply method reply = IsSome (fields_of_reply method reply)

-- the fields that a reply is sent as; one that a call can't have would have none
abbrev pub reply_fields : Option Method → Reply → Fields
reply_fields method reply = or_none (fields_of_reply method reply)

-- the kind of what every call may be answered in place of its own reply, and that of a reply
abbrev pub kind_of : Option ℤ → ℕ
kind_of (Some code) = codes.exception_kind
kind_of None = codes.reply_kind

abbrev pub reply_kind : Reply → ℕ
reply_kind (reply.Refused number text) = kind_of (general_code number)
reply_kind reply.Nothing = codes.reply_kind
reply_kind (reply.Flag flag) = codes.reply_kind
reply_kind (reply.Number number) = codes.reply_kind
reply_kind (reply.Big number) = codes.reply_kind
reply_kind (reply.Names texts) = codes.reply_kind
reply_kind (reply.Spec spec) = codes.reply_kind
reply_kind (reply.Fields columns) = codes.reply_kind
reply_kind (reply.Db name rec) = codes.reply_kind
reply_kind (reply.Tables tables) = codes.reply_kind
reply_kind (reply.Parts parts) = codes.reply_kind
reply_kind (reply.Stats stats) = codes.reply_kind
reply_kind (reply.ColumnStats db table part stats) = codes.reply_kind
reply_kind (reply.Events events) = codes.reply_kind
reply_kind (reply.Dumped dir last) = codes.reply_kind

-- a reply repeats the message's name and sequence id
abbrev pub reply_head : Head → Reply → Head
reply_head head reply = record { name = head.name; kind = reply_kind reply; sequence = head.sequence }
